use Rattle.std.proofs.Common.{◌≡◌, ◌≤◌, ◌∙◌, [], ◌∷◌, ◌++◌, false, length, replicate, ap, sym, subst, arith}
use Rattle.rt_store.specs.Members.{members}
use Rattle.rt_store.specs.Places.{IsInverse}
use Rattle.rt_store.proofs.Exchanging.{inverse-push}
use Rattle.rt_store.proofs.Membership.{members-grown}
use Rattle.rt_store.proofs.places.HeapOrder.grow.Goals as goal

pub loop-var-preserved : goal.loop-var-preserved
loop-var-preserved c =
    let i = c.loop-var.invariant in
    let places = c.loop-var.self-inside.places.items in
    let items = c.loop-var.self-inside.items.items in
    let var = c.loop-var.var in
    let p = c.push_reserved-in-loop-var.ensures in
    let q = c.push_reserved.ensures in
    let inv = subst (λ ps. IsInverse ps c.push_reserved.new.self.items) (sym p.items) (subst (IsInverse (places ++ var ∷ [])) (sym q.items) (inverse-push places items var i.1 i.0)) in (
      omega (arith, p.len, i.0),
      inv,
      λ n h. ap (members n) p.items ∙ members-grown n var c.len-len.result c.args.self.now places h c.loop-var.auto.var (i.2 n h),
      omega (arith, p.capacity, i.3),
      omega (arith, q.capacity, i.4),
    )

pub returns-clause-ok : goal.returns-clause-ok
returns-clause-ok c = λ n h.
    let width : c.len-len.result ≡ length c.args.self.now = omega (arith, c.len-len.ensures, ap length c.self.view_is) in
    c.loop-var.invariant.2 n (subst (λ w. n ≤ w) (sym width) h)
    ∙ ap (λ k. members n c.args.self.now ++ replicate k false) (omega (arith, width, c.loop-var.auto.var-end, c.loop-var-test.false, c.if-count-len.false))
