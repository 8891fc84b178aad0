use Rattle.std.proofs.Common.{length}
use Rattle.rt_schema.proofs.law.+table_at.Given as goal

abbrev pub decreases-table_at : goal.decreases-table_at
decreases-table_at l = length l.all.now
