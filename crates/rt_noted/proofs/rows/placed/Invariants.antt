use Rattle.std.proofs.Common.{◌+◌, drop}
use Rattle.rt_noted.specs.Annotated.{Along, placed}
use Rattle.rt_noted.proofs.rows.placed.Given as goal

abbrev pub invariant-loop-at : goal.invariant-loop-at
invariant-loop-at l = Along l.fn.dag l.dag l.out (placed (l.base + l.at) (drop l.at l.rows)) (placed l.base l.rows)
