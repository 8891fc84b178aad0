use Rattle.std.proofs.Common.{◌≡◌, ℕ, ◌<◌, List, Bool, true, length, take}
use Rattle.std.specs.List.{All as Each}
use Rattle.rt_formula.specs.Under.{is_marked, MarksStay, SameFrom}
use Rattle.rt_formula.proofs.marks.mark_all.Given as goal

abbrev pub invariant-loop-node : goal.invariant-loop-node
invariant-loop-node l = record {
  len : length l.marks ≡ length l.fn.marks;
  stay : MarksStay l.fn.marks l.marks;
  same : (low : ℕ) → Each (λ k. k < low) l.of → SameFrom low l.fn.marks l.marks;
  set : Each (λ k. is_marked l.marks k ≡ true) (take l.node-index l.of);
  only : (others : List Bool) → MarksStay l.fn.marks others → Each (λ k. is_marked others k ≡ true) (take l.node-index l.of) → MarksStay l.marks others;
}
