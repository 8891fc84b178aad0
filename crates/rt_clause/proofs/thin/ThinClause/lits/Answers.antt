use Rattle.std.proofs.Common.{length, sym, ap, ◌∙◌}
use Rattle.rt_clause.proofs.ThinPlaces.{length-somes, same_literals}
use Rattle.rt_clause.proofs.thin.ThinClause.lits.Goals as goal

pub items-requires : goal.items-requires
items-requires c = (c.self.invariant.places_at, c.len.ensures ∙ ap length (sym c.self.view_is) ∙ length-somes _ c.self.invariant.full, c.self.invariant.full)

pub returns : goal.returns
returns c = same_literals _ _ c.items.ensures ∙ c.self.view_is
