-- From terminals to tokens: the tree that they spell, and that there is no other.
use Rattle.std.proofs.Common.{◌≡◌, ◌∙◌, sym, ap, subst, true, List, Some, None, Result, Ok, Err, map}
use Rattle.rt_token.specs.Reads.{Answers}
use Rattle.rt_token.specs.Terminals.{Kinds}
use Rattle.rt_token.specs.Words.{all_formed, kind_of, kinds, marks}
use Rattle.rt_token.specs.declared.read_fault.ReadFault.{ReadFault}
use Rattle.rt_token.specs.declared.read_fault.ReadFault.TheVariants.{Syntax, NoMemory}
use Rattle.rt_token.proofs.ManyLemmas.{some-is}
use Rattle.rt_token.proofs.MarkLemmas.{marks-reads, marks-sound}
use Rattle.rt_token.specs.declared.token.Token.{Token}
use Rattle.rt_token.specs.declared.token.TokenKind.{TokenKind}
use Rattle.rt_ra_tree.specs.Spelled.{spelled_text}
use Rattle.rt_ra_tree.specs.declared.tree.RaText.{RaText}
use Rattle.rt_ra_tree.specs.Formed.{IsTreeOf}
use Rattle.rt_ra_tree.specs.Reads.{read_text}
use Rattle.rt_ra_tree.specs.Trees.{Spells, TreeRead}
use Rattle.rt_ra_tree.proofs.RaLaws.{text-reads, text-sound}

-- the terminals of a formed tree's tokens are those that it spells
pub marks-of : (tokens : List Token) (t : RaText) → Spells tokens t → marks (kinds tokens) ≡ Some (spelled_text t)
marks-of tokens t f = subst (λ (ks : List TokenKind). marks ks ≡ Some (spelled_text t)) f.1 (marks-reads (spelled_text t) f.0)

pub tree-by : (tokens : List Token) (ks : Kinds) (t : RaText) → marks (kinds tokens) ≡ Some ks → read_text ks ≡ Some t → Spells tokens t
tree-by tokens ks t m r =
    let e = text-sound ks t r in
    let s = marks-sound (kinds tokens) ks m in
    (subst (λ (ks : Kinds). all_formed ks ≡ true) (sym e) s.1, ap (λ (ks : Kinds). map kind_of ks) e ∙ s.0)

no-marks : (tokens : List Token) → marks (kinds tokens) ≡ None → (t : RaText) → ¬ Spells tokens t
no-marks tokens m t f = let e = marks-of tokens t f in cc

no-tree : (tokens : List Token) (ks : Kinds) → marks (kinds tokens) ≡ Some ks → read_text ks ≡ None → (t : RaText) → ¬ Spells tokens t
no-tree tokens ks m r t f =
    let e : ks ≡ spelled_text t = some-is _ _ (sym m ∙ marks-of tokens t f) in
    let g = ap (λ (ks : Kinds). read_text ks) e ∙ text-reads t in cc

same-tree : (tokens : List Token) (s t : RaText) → Spells tokens s → Spells tokens t → s ≡ t
same-tree tokens s t f g =
    let e : spelled_text s ≡ spelled_text t = some-is _ _ (sym (marks-of tokens s f) ∙ marks-of tokens t g) in
    some-is _ _ (sym (text-reads s) ∙ ap (λ (ks : Kinds). read_text ks) e ∙ text-reads t)

pub spells : (tokens : List Token) (t : RaText) → IsTreeOf tokens t → Spells tokens t
spells tokens t f = (f.0.0, f.1)

-- tokens have at most one formed tree
pub one-tree : (tokens : List Token) (s t : RaText) → IsTreeOf tokens s → IsTreeOf tokens t → s ≡ t
one-tree tokens s t f g = same-tree tokens s t (spells tokens s f) (spells tokens t g)

-- ---- the reader of trees

pub tree-failed : (tokens : List Token) (e : ReadFault) → Answers {A = Kinds} (Err e) (marks (kinds tokens)) → TreeRead tokens (Err e)
tree-failed tokens (Syntax left) a = no-marks tokens a
tree-failed tokens NoMemory a = tt

pub tree-read : (tokens : List Token) (ks : Kinds) (r : Result RaText ReadFault) → marks (kinds tokens) ≡ Some ks → Answers r (read_text ks) → TreeRead tokens r
tree-read tokens ks (Ok t) m a = tree-by tokens ks t m a
tree-read tokens ks (Err (Syntax left)) m a = no-tree tokens ks m a
tree-read tokens ks (Err NoMemory) m a = tt
