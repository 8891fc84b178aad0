use Rattle.std.proofs.Common.{sym, ◌∙◌, true, reverse, length}
use Rattle.rt_store.proofs.Tables.{read, status-true, status-false, status-unassigned}
use Rattle.rt_store.proofs.trail.Trail.value.Goals as goal

pub returns-in-True : goal.returns-in-True
returns-in-True c = sym (status-true _ true (sym c.in-True.is ∙
    read c.args.self.now c.self.inside.statuses.items (length c.self.inside.places.items) (reverse c.self.inside.steps.items) _ c.args.v c.index.result.now c.self.view_is c.self.invariant.0 c.requires c.index.ensures))

pub returns-in-False : goal.returns-in-False
returns-in-False c = sym (status-false _ true (sym c.in-False.is ∙
    read c.args.self.now c.self.inside.statuses.items (length c.self.inside.places.items) (reverse c.self.inside.steps.items) _ c.args.v c.index.result.now c.self.view_is c.self.invariant.0 c.requires c.index.ensures))

pub returns-in-Unassigned : goal.returns-in-Unassigned
returns-in-Unassigned c = sym (status-unassigned _ true (sym c.in-Unassigned.is ∙
    read c.args.self.now c.self.inside.statuses.items (length c.self.inside.places.items) (reverse c.self.inside.steps.items) _ c.args.v c.index.result.now c.self.view_is c.self.invariant.0 c.requires c.index.ensures))
