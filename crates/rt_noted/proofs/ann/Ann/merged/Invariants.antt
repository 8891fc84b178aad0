use Rattle.std.proofs.Common.{take}
use Rattle.rt_noted.specs.Ann.{Merging}
use Rattle.rt_noted.proofs.ann.Ann.merged.Given as goal

abbrev pub invariant-loop-noted : goal.invariant-loop-noted
invariant-loop-noted l = Merging l.fn.dag l.dag l.nodes.entries l.rows (take l.noted-index l.rows)
