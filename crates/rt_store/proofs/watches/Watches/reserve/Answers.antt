use Rattle.std.proofs.Common.{◌-◌, arith}
use Rattle.std.specs.Prelude.{vec_items, vec_capacity, vec_len}
use Rattle.rt_store.proofs.Editing.{within-lists, set-room, same-lists, more-room}
use Rattle.rt_store.proofs.watches.Watches.reserve.Goals as goal

pub returns-in_err-reserve-clause-lists : goal.returns-in_err-reserve-clause-lists
returns-in_err-reserve-clause-lists c =
    let b = within-lists c.self.inside.lists.items vec_items (λ v. vec_capacity v - vec_len v) c.args.self.now c.args.list c.self.view_is c.requires in
    same-lists c.self.inside.lists.items vec_items (λ v. vec_capacity v - vec_len v) c.args.self.now c.args.list c.index_mut.result.now c.reserve.new.self c.self.view_is b c.index_mut.ensures.value c.in_err-reserve.ensures.items

pub returns-in_err-reserve-clause-rooms : goal.returns-in_err-reserve-clause-rooms
returns-in_err-reserve-clause-rooms c =
    let b = within-lists c.self.inside.lists.items vec_items (λ v. vec_capacity v - vec_len v) c.args.self.now c.args.list c.self.view_is c.requires in
    more-room c.self.inside.lists.items vec_items (λ v. vec_capacity v - vec_len v) c.args.self.now c.args.list c.index_mut.result.now c.reserve.new.self c.self.view_is b c.index_mut.ensures.value
    (let l = c.in_err-reserve.ensures.len in let k = c.in_err-reserve.ensures.capacity in omega (arith, l, k))

pub returns-clause-lists : goal.returns-clause-lists
returns-clause-lists c =
    let b = within-lists c.self.inside.lists.items vec_items (λ v. vec_capacity v - vec_len v) c.args.self.now c.args.list c.self.view_is c.requires in
    same-lists c.self.inside.lists.items vec_items (λ v. vec_capacity v - vec_len v) c.args.self.now c.args.list c.index_mut.result.now c.reserve.new.self c.self.view_is b c.index_mut.ensures.value c.in_ok-reserve.ensures.items

pub returns-clause-rooms : goal.returns-clause-rooms
returns-clause-rooms c =
    let b = within-lists c.self.inside.lists.items vec_items (λ v. vec_capacity v - vec_len v) c.args.self.now c.args.list c.self.view_is c.requires in
    more-room c.self.inside.lists.items vec_items (λ v. vec_capacity v - vec_len v) c.args.self.now c.args.list c.index_mut.result.now c.reserve.new.self c.self.view_is b c.index_mut.ensures.value
    (let l = c.in_ok-reserve.ensures.len in let k = c.in_ok-reserve.ensures.capacity in omega (arith, l, k))

pub returns-clause-ok : goal.returns-clause-ok
returns-clause-ok c =
    let b = within-lists c.self.inside.lists.items vec_items (λ v. vec_capacity v - vec_len v) c.args.self.now c.args.list c.self.view_is c.requires in
    let z = set-room c.self.inside.lists.items vec_items (λ v. vec_capacity v - vec_len v) c.args.list c.reserve.new.self b in
    let k = c.in_ok-reserve.ensures.ok in omega (arith, z, k)
