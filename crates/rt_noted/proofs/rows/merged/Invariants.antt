use Rattle.std.proofs.Common.{take}
use Rattle.rt_noted.specs.Annotated.{Collecting}
use Rattle.rt_noted.proofs.rows.merged.Given as goal

abbrev pub invariant-loop-noted : goal.invariant-loop-noted
invariant-loop-noted l = Collecting l.fn.dag l.dag l.known l.out l.rows (take l.noted-index l.rows)
