use Rattle.std.proofs.Common.{◌≡◌}
use Rattle.rt_clause.proofs.ThinPlaces.{filled}
use Rattle.rt_clause.proofs.thin.ThinClause.of.Given as goal

abbrev pub invariant-loop-i : goal.invariant-loop-i
invariant-loop-i l = (l.places.at ≡ l.start.ptr) × (l.places.slots ≡ filled l.i l.lits)
