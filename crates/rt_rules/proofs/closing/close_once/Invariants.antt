use Rattle.std.proofs.Common.{◌≡◌, List, Bool, true, length, take}
use Rattle.std.specs.List.{All as Each}
use Rattle.rt_formula.specs.Under.{is_marked, MarksStay}
use Rattle.rt_rules.specs.Closing.{IsClosed}
use Rattle.rt_rules.proofs.closing.close_once.Given as goal

abbrev pub invariant-loop-link : goal.invariant-loop-link
invariant-loop-link l = record {
  len : length l.set ≡ length l.fn.set;
  stay : MarksStay l.fn.set l.set;
  met : Each (λ k. is_marked l.fn.set k.from ≡ true → is_marked l.set k.to ≡ true) (take l.link-index l.links);
  least : (others : List Bool) → MarksStay l.fn.set others → IsClosed l.links others → MarksStay l.set others;
}
