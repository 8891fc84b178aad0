use Rattle.rt_least.specs.Alone.{AreKept}
use Rattle.rt_least.proofs.alone.kept_rows.Given as goal

abbrev pub invariant-loop-row : goal.invariant-loop-row
invariant-loop-row l = AreKept l.keep l.row l.kept
