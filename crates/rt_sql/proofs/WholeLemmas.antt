-- The tree that is read is the one that the tokens have, and so the answer is what they say.
use Rattle.std.proofs.Common.{◌≡◌, ◌∙◌, sym, ap, subst, ℕ, List, refl, Bool, true, false, Option, Some, None, Ok, Err}
use Rattle.std.specs.Option.{option_and_then}
use Rattle.rt_token.specs.Terminals.{Kinds, Word}
use Rattle.rt_token.specs.Words.{kinds, marks}
use Rattle.rt_token.specs.declared.read_fault.ReadFault.{ReadFault}
use Rattle.rt_token.specs.declared.read_fault.ReadFault.TheVariants.{Syntax}
use Rattle.rt_token.specs.declared.token.Token.{Token}
use Rattle.rt_token.specs.declared.token.TokenKind.{TokenKind}
use Rattle.rt_tree.specs.declared.tree.Sql.{Sql}
use Rattle.rt_sql.specs.Depth.{is_deep}
use Rattle.rt_sql.specs.Formed.{IsTreeOf}
use Rattle.rt_sql.specs.Reads.{read_sql}
use Rattle.rt_sql.specs.Refusals.{HasNoTree, refusal, refusal_of, unsupported}
use Rattle.rt_sql.specs.Trees.{Spells, TreeRead}
use Rattle.rt_sql.specs.Whole.{of_tree, sql_read, tree_read, unless_deep, unless_refused}
use Rattle.rt_sql.specs.declared.fault.SqlFault.{SqlFault}
use Rattle.rt_sql.specs.declared.fault.SqlFault.TheVariants as fault
use Rattle.rt_sql.proofs.ChainLaws.{sql-reads}
use Rattle.rt_sql.proofs.ParseLemmas.{refused-by, tree-of}
use Rattle.rt_sql.proofs.TreeLemmas.{marks-of, spells, tree-by}

shallow : (tokens : List Token) (t : Sql) → IsTreeOf tokens t → is_deep (kinds tokens) ≡ false
shallow tokens t f = subst (λ (ks : List TokenKind). is_deep ks ≡ false) f.1 f.0.1

tree-is-read : (tokens : List Token) (t : Sql) → IsTreeOf tokens t → tree_read tokens ≡ Some t
unfolding tree_read
tree-is-read tokens t f =
    ap (λ (b : Bool). unless_deep b (option_and_then read_sql (marks (kinds tokens)))) (shallow tokens t f)
    ∙ ap (λ (o : Option Kinds). option_and_then read_sql o) (marks-of tokens t (spells tokens t f)) ∙ sql-reads t

read-is-tree : (tokens : List Token) (t : Sql) → tree_read tokens ≡ Some t → IsTreeOf tokens t
unfolding tree_read
read-is-tree tokens t r = by (is_deep (kinds tokens)) refl (marks (kinds tokens)) refl r
  where
    by : (b : Bool) → is_deep (kinds tokens) ≡ b → (o : Option Kinds) → marks (kinds tokens) ≡ o → unless_deep b (option_and_then read_sql o) ≡ Some t → IsTreeOf tokens t
    by true d o m r = cc r
    by false d None m r = cc r
    by false d (Some ks) m r = tree-of tokens t d (tree-by tokens ks t m r)

pub read_is_tree : (tokens : List Token) (t : Sql) → (IsTreeOf tokens t → tree_read tokens ≡ Some t) × (tree_read tokens ≡ Some t → IsTreeOf tokens t)
read_is_tree tokens t = (tree-is-read tokens t, read-is-tree tokens t)

-- ---- the answer

-- the tokens of a tree are not refused
unrefused : (tokens : List Token) (t : Sql) → IsTreeOf tokens t → refusal tokens ≡ None
unrefused tokens t f = by (unsupported tokens) refl (is_deep (kinds tokens)) (shallow tokens t f)
  where
    by : (o : Option (Word × ℕ)) → unsupported tokens ≡ o → (b : Bool) → b ≡ false → refusal_of o b ≡ None
    by (Some u) e b d = refused-by tokens u (sym e) t (refusal_of (Some u) b ≡ None) f
    by None e true d = cc d
    by None e false d = refl

none-read : (tokens : List Token) (o : Option Sql) → tree_read tokens ≡ o → HasNoTree tokens → of_tree o ≡ Err (fault.Syntax 0)
none-read tokens None r n = refl
none-read tokens (Some t) r n = absurd (n t (read-is-tree tokens t r))

no-tree-read : (tokens : List Token) → refusal tokens ≡ None → HasNoTree tokens → sql_read tokens ≡ Err (fault.Syntax 0)
no-tree-read tokens e n = ap (λ (o : Option SqlFault). unless_refused o (tree_read tokens)) e ∙ none-read tokens (tree_read tokens) refl n

-- the answer of the reader of trees, where nothing is refused
pub tree-gives-read : (tokens : List Token) (t : Sql) → is_deep (kinds tokens) ≡ false → Spells tokens t → sql_read tokens ≡ Ok t
tree-gives-read tokens t d s = answer-read-ok tokens t (tree-of tokens t d s)
  where
    answer-read-ok : (tokens : List Token) (t : Sql) → IsTreeOf tokens t → sql_read tokens ≡ Ok t
    answer-read-ok tokens t h =
        ap (λ (o : Option SqlFault). unless_refused o (tree_read tokens)) (unrefused tokens t h) ∙ ap of_tree (tree-is-read tokens t h)

pub syntax-gives-read : (tokens : List Token) (e : ReadFault) (left : ℕ) → e ≡ Syntax left → None ≡ unsupported tokens → is_deep (kinds tokens) ≡ false
    → TreeRead tokens (Err e) → sql_read tokens ≡ Err (fault.Syntax 0)
syntax-gives-read tokens e left p u d r =
    let none = subst (λ (e : ReadFault). TreeRead tokens (Err e)) p r in
    no-tree-read tokens (ap (λ (o : Option (Word × ℕ)). refusal_of o (is_deep (kinds tokens))) (sym u) ∙ ap (refusal_of None) d) (λ t f. none t (spells tokens t f))
