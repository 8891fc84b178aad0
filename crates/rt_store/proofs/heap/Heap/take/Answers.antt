use Rattle.std.proofs.Common.{◌∙◌, ◌-◌, refl, sym, ap}
use Rattle.rt_store.specs.Members.{members}
use Rattle.rt_store.proofs.Membership.{cleared, taken}
use Rattle.rt_store.proofs.heap.Heap.take.Goals as goal

pub returns-then-self-eq0 : goal.returns-then-self-eq0
returns-then-self-eq0 c =
    (refl, sym c.self.view_is ∙ ap (λ n. members n c.self.inside.order) c.if-self-eq0.true ∙ cleared c.self.inside.count c.self.inside.order c.args.self.now c.self.view_is)

pub returns : goal.returns
returns c =
    let n = c.self.inside.count in
    let t = taken n c.at-first.result c.self.inside.order c.args.self.now c.self.view_is c.if-self-eq0.false c.at-first.ensures.below c.at-first.ensures.is c.at-first.ensures.alone in
    (t.0, t.1, c.sift_down.ensures ∙ ap (members (n - 1)) c.swap.ensures ∙ t.2)
