use Rattle.rt_solver.proofs.explain.+is_known.Given as goal

abbrev pub decreases-is_known : goal.decreases-is_known
decreases-is_known g l = l.depth
