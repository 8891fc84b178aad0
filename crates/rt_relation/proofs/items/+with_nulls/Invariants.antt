use Rattle.rt_relation.proofs.items.+with_nulls.Given as goal

abbrev pub decreases-with_nulls : goal.decreases-with_nulls
decreases-with_nulls l = l.count
