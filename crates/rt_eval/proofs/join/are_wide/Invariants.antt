use Rattle.std.proofs.Common.{◌≡◌, drop}
use Rattle.rt_split.specs.Join.{are_wide}
use Rattle.rt_eval.proofs.join.are_wide.Given as goal

abbrev pub invariant-loop-at : goal.invariant-loop-at
invariant-loop-at l = are_wide (drop l.at l.widths) (drop l.at l.members) ≡ are_wide l.widths l.members
