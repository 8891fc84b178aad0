use Rattle.std.proofs.Common.{length}
use Rattle.rt_scope.proofs.lookup.+find_qualified.Given as goal

abbrev pub decreases-find_qualified : goal.decreases-find_qualified
decreases-find_qualified l = length l.scopes.now
