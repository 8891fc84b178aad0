use Rattle.std.proofs.Common.{◌≡◌, not, filter, take}
use Rattle.rt_clause.specs.Lists.{has}
use Rattle.rt_least.proofs.widened.widened.Given as goal

abbrev pub invariant-loop-lit : goal.invariant-loop-lit
invariant-loop-lit l = l.wide ≡ filter (λ x. not (has l.clause x)) (take l.lit-index l.lits)
