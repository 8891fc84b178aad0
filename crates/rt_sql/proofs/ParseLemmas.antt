-- The answers of parsing.
use Rattle.std.proofs.Common.{◌≡◌, ◌∙◌, sym, ap, subst, ℕ, List, [], ◌∷◌, ◌++◌, ◌+◌, length, refl, Bool, true, false, Option, Some, None, Result, Ok, Err, map, arith, length-append}
use Rattle.std.specs.Prelude.{IfSome}
use Rattle.rt_token.specs.Places.{IsPlace}
use Rattle.rt_token.specs.Terminals.{Kinds, Word, flag}
use Rattle.rt_token.specs.Words.{kind_of, kinds}
use Rattle.rt_token.specs.declared.read_fault.ReadFault.{ReadFault}
use Rattle.rt_token.specs.declared.read_fault.ReadFault.TheVariants.{Syntax, NoMemory}
use Rattle.rt_token.specs.declared.fixed.Fixed.TheVariants as fixed
use Rattle.rt_token.proofs.CalmLemmas.{IsCalm}
use Rattle.rt_token.proofs.EndLaws.{end-front}
use Rattle.rt_token.specs.declared.token.Token.{Token}
use Rattle.rt_token.specs.declared.token.TokenKind.{TokenKind}
use Rattle.rt_tree.specs.Spelled.{spelled_chain, spelled_sql}
use Rattle.rt_tree.specs.declared.tree.Sql.{Sql}
use Rattle.rt_value.specs.Gives.{Gives}
use Rattle.rt_sql.specs.Depth.{is_deep}
use Rattle.rt_sql.specs.Formed.{IsTreeOf}
use Rattle.rt_sql.specs.Refusals.{HasNoTree, IsAnswer, is_memory, refusal, refusal_of, unsupported}
use Rattle.rt_sql.specs.Trees.{Spells, TreeRead}
use Rattle.rt_sql.specs.declared.fault.SqlFault.{SqlFault}
use Rattle.rt_sql.specs.declared.fault.SqlFault.TheVariants as fault
use Rattle.rt_sql.proofs.ChainLaws.{level-law}
use Rattle.rt_sql.proofs.RefusalLemmas.{calm-supported}
use Rattle.rt_sql.proofs.TreeLemmas.{one-tree, spells}

end-calm : (b : Bool) → IsCalm (flag fixed.Semicolon b)
end-calm true = refl
end-calm false = refl

-- no query has a call
sql-calm : (t : Sql) → IsCalm (spelled_sql t)
sql-calm t = (level-law (length (spelled_chain t.chain) + 1)).chain.calm refl t.chain (flag fixed.Semicolon t.semi) (omega arith) (end-front t.semi) (end-calm t.semi)

-- the tokens of a tree have no word that is refused
pub refused-by : (tokens : List Token) (u : Word × ℕ) → Some u ≡ unsupported tokens → (t : Sql) (P : Type 0) → IsTreeOf tokens t → P
refused-by tokens u e t P f =
    let none = calm-supported tokens (spelled_sql t) (sym f.1) f.0.0 (sql-calm t) in
    let x : Some u ≡ None = e ∙ none in cc x

pub tree-of : (tokens : List Token) (t : Sql) → is_deep (kinds tokens) ≡ false → Spells tokens t → IsTreeOf tokens t
tree-of tokens t d s = ((s.0, subst (λ (ks : List TokenKind). is_deep ks ≡ false) (sym s.1) d), s.1)

pub tree-gives : (tokens : List Token) (t : Sql) → is_deep (kinds tokens) ≡ false → Spells tokens t → (u : Sql) → IsTreeOf tokens u → Gives is_memory (Ok t) (Ok u)
tree-gives tokens t d s u g = ap (λ (t : Sql). Ok t) (one-tree tokens u t g (tree-of tokens t d s))
