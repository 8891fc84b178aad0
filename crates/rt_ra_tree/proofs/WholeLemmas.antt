-- The tree that is read is the one that the tokens have, and so the answer is what they say.
use Rattle.std.proofs.Common.{◌≡◌, ◌∙◌, ap, subst, ℕ, List, refl, Bool, true, false, Option, Some, None, Ok, Err}
use Rattle.std.specs.Option.{option_and_then}
use Rattle.rt_token.specs.Terminals.{Kinds}
use Rattle.rt_token.specs.Words.{kinds, marks}
use Rattle.rt_token.specs.declared.read_fault.ReadFault.{ReadFault}
use Rattle.rt_token.specs.declared.read_fault.ReadFault.TheVariants.{Syntax}
use Rattle.rt_token.specs.declared.token.Token.{Token}
use Rattle.rt_ra_tree.specs.Depth.{is_deep}
use Rattle.rt_ra_tree.specs.Formed.{IsTreeOf}
use Rattle.rt_ra_tree.specs.Reads.{read_text}
use Rattle.rt_ra_tree.specs.Refusals.{HasNoTree, refusal_of}
use Rattle.rt_ra_tree.specs.Trees.{Spells, TreeRead}
use Rattle.rt_ra_tree.specs.Whole.{of_tree, ra_read, tree_read, unless_deep, unless_refused}
use Rattle.rt_ra_tree.specs.declared.fault.RaFault.TheVariants as fault
use Rattle.rt_ra_tree.specs.declared.tree.RaText.{RaText}
use Rattle.rt_ra_tree.proofs.RaLaws.{text-reads}
use Rattle.rt_ra_tree.proofs.ParseLemmas.{shallow, tree-of}
use Rattle.rt_ra_tree.proofs.TreeLemmas.{marks-of, spells, tree-by}

tree-is-read : (tokens : List Token) (t : RaText) → IsTreeOf tokens t → tree_read tokens ≡ Some t
unfolding tree_read
tree-is-read tokens t f =
    ap (λ (b : Bool). unless_deep b (option_and_then read_text (marks (kinds tokens)))) (shallow tokens t f)
    ∙ ap (λ (o : Option Kinds). option_and_then read_text o) (marks-of tokens t (spells tokens t f)) ∙ text-reads t

read-is-tree : (tokens : List Token) (t : RaText) → tree_read tokens ≡ Some t → IsTreeOf tokens t
unfolding tree_read
read-is-tree tokens t r = by (is_deep (kinds tokens)) refl (marks (kinds tokens)) refl r
  where
    by : (b : Bool) → is_deep (kinds tokens) ≡ b → (o : Option Kinds) → marks (kinds tokens) ≡ o → unless_deep b (option_and_then read_text o) ≡ Some t → IsTreeOf tokens t
    by true d o m r = cc r
    by false d None m r = cc r
    by false d (Some ks) m r = tree-of tokens t d (tree-by tokens ks t m r)

pub read_is_tree : (tokens : List Token) (t : RaText) → (IsTreeOf tokens t → tree_read tokens ≡ Some t) × (tree_read tokens ≡ Some t → IsTreeOf tokens t)
read_is_tree tokens t = (tree-is-read tokens t, read-is-tree tokens t)

-- ---- the answer

none-read : (tokens : List Token) (o : Option RaText) → tree_read tokens ≡ o → HasNoTree tokens → of_tree o ≡ Err (fault.Syntax 0)
none-read tokens None r n = refl
none-read tokens (Some t) r n = absurd (n t (read-is-tree tokens t r))

unrefused : (tokens : List Token) → is_deep (kinds tokens) ≡ false → ra_read tokens ≡ of_tree (tree_read tokens)
unrefused tokens d = ap (λ (b : Bool). unless_refused (refusal_of b) (tree_read tokens)) d

-- the answer of the reader of trees, where nothing is refused
pub tree-gives-read : (tokens : List Token) (t : RaText) → is_deep (kinds tokens) ≡ false → Spells tokens t → ra_read tokens ≡ Ok t
tree-gives-read tokens t d s = unrefused tokens d ∙ ap of_tree (tree-is-read tokens t (tree-of tokens t d s))

pub syntax-gives-read : (tokens : List Token) (e : ReadFault) (left : ℕ) → e ≡ Syntax left → is_deep (kinds tokens) ≡ false
    → TreeRead tokens (Err e) → ra_read tokens ≡ Err (fault.Syntax 0)
syntax-gives-read tokens e left p d r =
    let none = subst (λ (e : ReadFault). TreeRead tokens (Err e)) p r in
    unrefused tokens d ∙ none-read tokens (tree_read tokens) refl (λ t f. none t (spells tokens t f))
