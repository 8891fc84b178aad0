-- From terminals to tokens: the tree that they spell, and that there is no other.
use Rattle.std.proofs.Common.{◌≡◌, ◌∙◌, sym, ap, subst, true, List, Option, Some, None, Result, Ok, Err, map, refl}
use Rattle.std.specs.Option.{option_and_then}
use Rattle.rt_token.specs.Reads.{Answers}
use Rattle.rt_token.specs.Terminals.{Kinds}
use Rattle.rt_token.specs.Words.{all_formed, kind_of, kinds, marks}
use Rattle.rt_token.specs.declared.read_fault.ReadFault.{ReadFault}
use Rattle.rt_token.specs.declared.read_fault.ReadFault.TheVariants.{Syntax, NoMemory}
use Rattle.rt_token.proofs.ManyLemmas.{some-is}
use Rattle.rt_token.proofs.MarkLemmas.{marks-reads, marks-sound}
use Rattle.rt_token.specs.declared.token.Token.{Token}
use Rattle.rt_token.specs.declared.token.TokenKind.{TokenKind}
use Rattle.rt_ddl_tree.specs.Reads.{read_text}
use Rattle.rt_ddl_tree.specs.Spelled.{IsTreeOf, spelled}
use Rattle.rt_ddl_tree.specs.Trees.{TreeRead, tree_read}
use Rattle.rt_ddl_tree.specs.declared.tree.SchemaText.{SchemaText}
use Rattle.rt_ddl_tree.proofs.TextLaws.{text-reads, text-sound}

-- the terminals of a formed tree's tokens are those that it spells
pub marks-of : (tokens : List Token) (t : SchemaText) → IsTreeOf tokens t → marks (kinds tokens) ≡ Some (spelled t)
marks-of tokens t f = subst (λ (ks : List TokenKind). marks ks ≡ Some (spelled t)) f.1 (marks-reads (spelled t) f.0)

pub tree_by : (tokens : List Token) (ks : Kinds) (t : SchemaText) → marks (kinds tokens) ≡ Some ks → read_text ks ≡ Some t → IsTreeOf tokens t
tree_by tokens ks t m r =
    let e = text-sound ks t r in
    let s = marks-sound (kinds tokens) ks m in
    (subst (λ (ks : Kinds). all_formed ks ≡ true) (sym e) s.1, ap (λ (ks : Kinds). map kind_of ks) e ∙ s.0)

pub no_marks : (tokens : List Token) → marks (kinds tokens) ≡ None → (t : SchemaText) → ¬ IsTreeOf tokens t
no_marks tokens m t f = let e = marks-of tokens t f in cc

pub no_tree : (tokens : List Token) (ks : Kinds) → marks (kinds tokens) ≡ Some ks → read_text ks ≡ None → (t : SchemaText) → ¬ IsTreeOf tokens t
no_tree tokens ks m r t f =
    let e : ks ≡ spelled t = some-is _ _ (sym m ∙ marks-of tokens t f) in
    let g = ap (λ (ks : Kinds). read_text ks) e ∙ text-reads t in cc

-- tokens have at most one formed tree
pub one_tree : (tokens : List Token) (s t : SchemaText) → IsTreeOf tokens s → IsTreeOf tokens t → s ≡ t
one_tree tokens s t f g =
    let e : spelled s ≡ spelled t = some-is _ _ (sym (marks-of tokens s f) ∙ marks-of tokens t g) in
    some-is _ _ (sym (text-reads s) ∙ ap (λ (ks : Kinds). read_text ks) e ∙ text-reads t)

-- ---- the tree that is read

pub tree-is-read : (tokens : List Token) (t : SchemaText) → IsTreeOf tokens t → tree_read tokens ≡ Some t
unfolding tree_read
tree-is-read tokens t f = ap (λ (o : Option Kinds). option_and_then read_text o) (marks-of tokens t f) ∙ text-reads t

pub read-is-tree : (tokens : List Token) (t : SchemaText) → tree_read tokens ≡ Some t → IsTreeOf tokens t
unfolding tree_read
read-is-tree tokens t r = by (marks (kinds tokens)) refl r
  where
    by : (o : Option Kinds) → marks (kinds tokens) ≡ o → option_and_then read_text o ≡ Some t → IsTreeOf tokens t
    by None m r = cc r
    by (Some ks) m r = tree_by tokens ks t m r

pub read_is_tree : (tokens : List Token) (t : SchemaText) → (IsTreeOf tokens t → tree_read tokens ≡ Some t) × (tree_read tokens ≡ Some t → IsTreeOf tokens t)
read_is_tree tokens t = (tree-is-read tokens t, read-is-tree tokens t)

-- ---- the reader of trees

pub tree-failed : (tokens : List Token) (e : ReadFault) → Answers {A = Kinds} (Err e) (marks (kinds tokens)) → TreeRead tokens (Err e)
tree-failed tokens (Syntax left) a = no_marks tokens a
tree-failed tokens NoMemory a = tt

pub tree-read : (tokens : List Token) (ks : Kinds) (r : Result SchemaText ReadFault) → marks (kinds tokens) ≡ Some ks → Answers r (read_text ks) → TreeRead tokens r
tree-read tokens ks (Ok t) m a = tree_by tokens ks t m a
tree-read tokens ks (Err (Syntax left)) m a = no_tree tokens ks m a
tree-read tokens ks (Err NoMemory) m a = tt
