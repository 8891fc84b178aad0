-- A Dag that is taken back to the nodes that it had.
use Rattle.std.proofs.Common.{◌≡◌, ◌∙◌, ap, ℕ, List, [], ◌∷◌, length, arith}
use Rattle.std.specs.Prelude.{Some, ◌≤◌, slice_get}
use Rattle.rt_formula.specs.declared.entry.Entry.{Entry}
use Rattle.rt_formula.specs.declared.entry.Entry.TheVariants.{No}
use Rattle.rt_formula.specs.Shared.{IsGrown, IsSound, Shared, truncated}
use Rattle.rt_formula.proofs.Growth.{taken_back}

-- a Dag has the two constants
pub two_nodes : (d : Shared) → IsSound d → 2 ≤ length d.entries
two_nodes d sound = of_list d.entries sound.no
  where
    of_list : (es : List Entry) → slice_get es 1 ≡ Some No → 2 ≤ length es
    of_list [] h = cc
    of_list (x ∷ []) h = cc
    of_list (x ∷ y ∷ es) h = omega arith

-- a Dag that is cut to the nodes that it had is as it was
pub as_it_was : (old grown new : Shared) (nodes : ℕ) → nodes ≡ length old.entries → IsGrown old grown → new ≡ truncated nodes grown → new ≡ old
as_it_was old grown new nodes n g e = e ∙ ap (λ k. truncated k grown) n ∙ taken_back old grown g
