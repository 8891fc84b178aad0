use Rattle.std.proofs.Common.{◌≡◌, drop}
use Rattle.rt_noted.specs.Narrowed.{are_long}
use Rattle.rt_noted.proofs.join.are_long.Given as goal

abbrev pub invariant-loop-at : goal.invariant-loop-at
invariant-loop-at l = are_long (drop l.at l.widths) (drop l.at l.members) ≡ are_long l.widths l.members
