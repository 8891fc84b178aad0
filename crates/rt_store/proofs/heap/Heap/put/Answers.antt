use Rattle.std.proofs.Common.{◌≡◌, ◌<◌, ◌∙◌, ◌+◌, true, length, set, sym, ap, subst, arith}
use Rattle.std.proofs.lemmas.List.{length-map}
use Rattle.rt_store.specs.Members.{members}
use Rattle.rt_store.specs.Places.{exchanged}
use Rattle.rt_store.proofs.Membership.{length-members, same_width, already_in, members-put}
use Rattle.rt_store.proofs.heap.Heap.put.Goals as goal

pub returns-then-place-self : goal.returns-then-place-self
returns-then-place-self c =
    let order = c.self.inside.order in
    let n = c.self.inside.count in
    let var = c.args.var in
    let within = subst (λ w. var < w) (sym (ap length c.self.view_is) ∙ length-members n order) c.requires in
    subst (λ held. held ≡ set held var true) c.self.view_is (already_in n var order within (subst (λ p. p < n) c.place-place.ensures.is c.if-place-self.true))

pub invariant_of-self : goal.invariant_of-self
invariant_of-self c =
    let n = c.self.inside.count in
    let order = c.self.inside.order in
    let width = same_width (n + 1) c.sift_up.new.order c.swap.new.self (c.sift_up.ensures (n + 1) (omega arith)) ∙ ap length c.swap.ensures ∙ length-map order (exchanged c.place-place.result n) in
    (omega (arith, width, c.if-place-self.false, c.place-place.ensures.below), omega (arith, width, c.self.invariant.1))

pub returns : goal.returns
returns c =
    let n = c.self.inside.count in
    let order = c.self.inside.order in
    let var = c.args.var in
    let within = subst (λ w. var < w) (sym (ap length c.self.view_is) ∙ length-members n order) c.requires in
    c.sift_up.ensures (n + 1) (omega arith)
    ∙ ap (members (n + 1)) c.swap.ensures
    ∙ members-put n var c.place-place.result order within (sym c.place-place.ensures.is) c.if-place-self.false c.place-place.ensures.alone
    ∙ ap (λ held. set held var true) c.self.view_is
