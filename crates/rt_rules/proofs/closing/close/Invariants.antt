use Rattle.std.proofs.Common.{◌≡◌, ◌-◌, List, Bool, length}
use Rattle.rt_value.specs.Keep.{size}
use Rattle.rt_formula.specs.Under.{MarksStay}
use Rattle.rt_rules.specs.Closing.{IsClosed}
use Rattle.rt_rules.proofs.closing.close.Given as goal

abbrev pub invariant-passes : goal.invariant-passes
invariant-passes l = record {
  len : length l.set ≡ length l.fn.set;
  stay : MarksStay l.fn.set l.set;
  least : (others : List Bool) → MarksStay l.fn.set others → IsClosed l.links others → MarksStay l.set others;
}

abbrev pub decreases-passes : goal.decreases-passes
decreases-passes l = length l.set - size l.set
