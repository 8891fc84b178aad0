use Rattle.std.proofs.Common.{◌≡◌, map, take}
use Rattle.rt_least.specs.Widened.{widened}
use Rattle.rt_least.proofs.widened.all_widened.Given as goal

abbrev pub invariant-loop-clause : goal.invariant-loop-clause
invariant-loop-clause l = l.wide ≡ map (widened l.lits) (take l.clause-index l.clauses)
