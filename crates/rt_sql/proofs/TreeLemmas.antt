-- From terminals to tokens: the tree that they spell, and that there is no other.
use Rattle.std.proofs.Common.{◌≡◌, ◌∙◌, sym, ap, subst, true, refl, List, Some, None, Option, Result, Ok, Err, map}
use Rattle.rt_token.specs.Reads.{Answers}
use Rattle.rt_token.specs.Terminals.{Kinds}
use Rattle.rt_token.specs.Words.{all_formed, kind_of, kinds, marks}
use Rattle.rt_token.specs.declared.read_fault.ReadFault.{ReadFault}
use Rattle.rt_token.specs.declared.read_fault.ReadFault.TheVariants.{Syntax, NoMemory}
use Rattle.rt_token.proofs.ManyLemmas.{some-is}
use Rattle.rt_token.proofs.MarkLemmas.{marks-reads, marks-sound}
use Rattle.rt_token.specs.declared.token.Token.{Token}
use Rattle.rt_token.specs.declared.token.TokenKind.{TokenKind}
use Rattle.rt_tree.specs.Spelled.{spelled_sql}
use Rattle.rt_tree.specs.declared.tree.Sql.{Sql}
use Rattle.rt_sql.specs.Formed.{IsTreeOf}
use Rattle.rt_sql.specs.Reads.{read_sql}
use Rattle.rt_sql.specs.Trees.{Spells, TreeRead}
use Rattle.rt_sql.proofs.ChainLaws.{sql-reads, sql-sound}

-- the terminals of a formed tree's tokens are those that it spells
pub marks-of : (tokens : List Token) (t : Sql) → Spells tokens t → marks (kinds tokens) ≡ Some (spelled_sql t)
marks-of tokens t f = subst (λ (ks : List TokenKind). marks ks ≡ Some (spelled_sql t)) f.1 (marks-reads (spelled_sql t) f.0)

pub tree-by : (tokens : List Token) (ks : Kinds) (t : Sql) → marks (kinds tokens) ≡ Some ks → read_sql ks ≡ Some t → Spells tokens t
tree-by tokens ks t m r =
    let e = sql-sound ks t r in
    let s = marks-sound (kinds tokens) ks m in
    (subst (λ (ks : Kinds). all_formed ks ≡ true) (sym e) s.1, ap (λ (ks : Kinds). map kind_of ks) e ∙ s.0)

no-marks : (tokens : List Token) → marks (kinds tokens) ≡ None → (t : Sql) → ¬ Spells tokens t
no-marks tokens m t f = let e = marks-of tokens t f in cc

no-tree : (tokens : List Token) (ks : Kinds) → marks (kinds tokens) ≡ Some ks → read_sql ks ≡ None → (t : Sql) → ¬ Spells tokens t
no-tree tokens ks m r t f =
    let e : ks ≡ spelled_sql t = some-is _ _ (sym m ∙ marks-of tokens t f) in
    let g = ap (λ (ks : Kinds). read_sql ks) e ∙ sql-reads t in cc

same-tree : (tokens : List Token) (s t : Sql) → Spells tokens s → Spells tokens t → s ≡ t
same-tree tokens s t f g =
    let e : spelled_sql s ≡ spelled_sql t = some-is _ _ (sym (marks-of tokens s f) ∙ marks-of tokens t g) in
    some-is _ _ (sym (sql-reads s) ∙ ap (λ (ks : Kinds). read_sql ks) e ∙ sql-reads t)

pub spells : (tokens : List Token) (t : Sql) → IsTreeOf tokens t → Spells tokens t
spells tokens t f = (f.0.0, f.1)

-- tokens have at most one formed tree
pub one-tree : (tokens : List Token) (s t : Sql) → IsTreeOf tokens s → IsTreeOf tokens t → s ≡ t
one-tree tokens s t f g = same-tree tokens s t (spells tokens s f) (spells tokens t g)

-- ---- the reader of trees

pub tree-failed : (tokens : List Token) (e : ReadFault) → Answers {A = Kinds} (Err e) (marks (kinds tokens)) → TreeRead tokens (Err e)
tree-failed tokens (Syntax left) a = no-marks tokens a
tree-failed tokens NoMemory a = tt

pub tree-read : (tokens : List Token) (ks : Kinds) (r : Result Sql ReadFault) → marks (kinds tokens) ≡ Some ks → Answers r (read_sql ks) → TreeRead tokens r
tree-read tokens ks (Ok t) m a = tree-by tokens ks t m a
tree-read tokens ks (Err (Syntax left)) m a = no-tree tokens ks m a
tree-read tokens ks (Err NoMemory) m a = tt
