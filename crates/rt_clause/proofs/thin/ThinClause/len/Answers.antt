use Rattle.std.proofs.Common.{length, sym, ap, ◌∙◌}
use Rattle.rt_clause.proofs.ThinPlaces.{length-somes}
use Rattle.rt_clause.proofs.thin.ThinClause.len.Goals as goal

pub returns : goal.returns
returns c = c.count.ensures ∙ sym (length-somes _ c.self.invariant.full) ∙ ap length c.self.view_is
