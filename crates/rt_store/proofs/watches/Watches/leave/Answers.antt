use Rattle.std.proofs.Common.{ap, ◌∙◌, ◌-◌}
use Rattle.std.specs.Prelude.{vec_items, vec_capacity, vec_len}
use Rattle.std.specs.List.{swap_remove}
use Rattle.rt_store.proofs.Editing.{within-lists, read-list, set-list, edited, removed-any}
use Rattle.rt_store.proofs.watches.Watches.leave.Goals as goal

pub returns-clause-list : goal.returns-clause-list
returns-clause-list c e r =
    let vs = c.self.inside.lists.items in
    let b = within-lists vs vec_items (λ v. vec_capacity v - vec_len v) c.args.self.now c.args.list c.self.view_is c.requires.list in
    set-list vs vec_items (λ v. vec_capacity v - vec_len v) c.args.list c.swap_remove-entry.new.self b ∙ c.swap_remove-entry.ensures.items
    ∙ ap (λ es. swap_remove es c.args.i c.swap_remove-entry.result) (read-list vs vec_items (λ v. vec_capacity v - vec_len v) c.args.self.now c.args.list c.index_mut.result.now c.self.view_is b c.index_mut.ensures.value)
    ∙ removed-any _ c.args.i c.swap_remove-entry.result e c.requires.within

pub returns-clause-edited : goal.returns-clause-edited
returns-clause-edited c = edited c.self.inside.lists.items vec_items (λ v. vec_capacity v - vec_len v) c.args.self.now c.args.list c.swap_remove-entry.new.self c.self.view_is
