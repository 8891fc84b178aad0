use Rattle.rt_formula.proofs.dag.Dag.is_contrary.Given as goal

abbrev pub invariant-loop-a : goal.invariant-loop-a
invariant-loop-a l = Unit {0}
