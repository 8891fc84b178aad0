use Rattle.std.proofs.Common.{length}
use Rattle.rt_scope.proofs.lookup.+find_column.Given as goal

abbrev pub decreases-find_column : goal.decreases-find_column
decreases-find_column l = length l.scopes.now
