use Rattle.rt_rules.proofs.tables.+table_at.Given as goal

abbrev pub decreases-table_at : goal.decreases-table_at
decreases-table_at l = l.table
