use Rattle.std.proofs.Common.{◌∙◌, ◌-◌}
use Rattle.std.specs.Prelude.{vec_items, vec_capacity, vec_len}
use Rattle.rt_store.proofs.Editing.{within-lists, read-list, set-list, edited, noted-one}
use Rattle.rt_store.proofs.watches.Watches.note.Goals as goal

pub returns-clause-list : goal.returns-clause-list
returns-clause-list c e r =
    let vs = c.self.inside.lists.items in
    let b = within-lists vs vec_items (λ v. vec_capacity v - vec_len v) c.args.self.now c.args.list c.self.view_is c.requires.list in
    set-list vs vec_items (λ v. vec_capacity v - vec_len v) c.args.list _ b
    ∙ noted-one c.index_mut-entries.result.now.items _ c.args.i e c.index.result.now c.noting.result c.args.other (read-list vs vec_items (λ v. vec_capacity v - vec_len v) c.args.self.now c.args.list c.index_mut-entries.result.now c.self.view_is b c.index_mut-entries.ensures.value)
    c.requires.within c.index.ensures r c.noting.ensures

pub returns-clause-edited : goal.returns-clause-edited
returns-clause-edited c = edited c.self.inside.lists.items vec_items (λ v. vec_capacity v - vec_len v) c.args.self.now c.args.list _ c.self.view_is
