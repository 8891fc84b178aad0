use Rattle.rt_noted.specs.Ann.{Losing}
use Rattle.rt_noted.proofs.difference.missing.Given as goal

abbrev pub invariant-loop-row : goal.invariant-loop-row
invariant-loop-row l = Losing l.fn.dag l.dag l.b l.nodes l.row-iterator l.a
