use Rattle.std.proofs.Common.{◌≡◌, ◌+◌, ◌∙◌, ◌++◌, append_assoc, ap, List, Bool, Option, Some, length, subst, arith}
use Rattle.rt_least.specs.Alone.{IsOther}
use Rattle.rt_least.specs.Attempts.{IsAnswered}
use Rattle.rt_least.specs.Sought.{IsSought}
use Rattle.rt_least.proofs.Aiming.{fewer-low, model-sought, some-kept}
use Rattle.rt_least.proofs.Attempts.{aimed-grown}
use Rattle.rt_least.proofs.Leading.{least-none, leading-begun}
use Rattle.rt_least.proofs.Only.{only-least}
use Rattle.rt_least.proofs.Ways.{way-on, allows-few, none-fewer, found-fewer}
use Rattle.rt_least.proofs.others.others.Goals as goal

pub others-init : goal.others-init
others-init c =
    let e = c.rows-rows.ensures.is in
    let r = c.requires.rows in
    record { rows = e ∙ r; named = r; way = c.requires.way; room = c.requires.room }

pub returns-then-most-eq0 : goal.returns-then-most-eq0
returns-then-most-eq0 c =
    let v = c.others.invariant in
    let e = c.size-most.ensures in
    let z = c.if-most-eq0.true in
    least-none c.args.dag.now c.args.goal c.args.cone.now c.others.best v.way.sought (omega (arith, e, z))

pub other-requires-clause-best : goal.other-requires-clause-best
other-requires-clause-best c =
    c.others.invariant.way.sought.0

pub other-requires-clause-few : goal.other-requires-clause-few
other-requires-clause-few c =
    let v = c.others.invariant in
    let e = c.size-most.ensures in
    let room = v.way.room v.room in
    allows-few c.args.dag.now c.others.solver.0.lines c.others.named.next c.args.counter.now.outs c.others.best (c.size-most.result + 1) c.fewer-held.result v.way.counted (omega (arith, e)) (omega (arith, e, room)) c.fewer-held.ensures

pub other-requires-clause-low : goal.other-requires-clause-low
other-requires-clause-low c =
    let v = c.others.invariant in
    let e = c.size-most.ensures in
    let room = v.way.room v.room in
    fewer-low c.args.dag.now c.others.solver.0.lines c.others.named.next c.args.counter.now.outs (c.size-most.result + 1) c.fewer-held.result v.way.counted c.fewer-held.ensures (omega arith) (omega (arith, e, room))

pub returns-in-None : goal.returns-in-None
returns-in-None c =
    let O : Option (List Bool) → Type 0 = λ o. IsOther (IsSought c.args.dag.now c.args.goal c.args.cone.now) c.others.best o in
    only-least _ c.others.best c.others.invariant.way.sought (subst O c.in-None.is c.in_ok-other.ensures.other)

pub smaller-requires-clause-best : goal.smaller-requires-clause-best
smaller-requires-clause-best c =
    let O : Option (List Bool) → Type 0 = λ o. IsOther (IsSought c.args.dag.now c.args.goal c.args.cone.now) c.others.best o in
    subst O c.in-Some.is c.in_ok-other.ensures.other

pub others-preserved-then-size-most : goal.others-preserved-then-size-most
others-preserved-then-size-most c =
    let v = c.others.invariant in
    let e = c.size-most.ensures in
    let room = v.way.room v.room in
    let l = c.if-size-most.true in
    let z = c.size.ensures in
    record {
      rows = v.rows;
      named = c.in_ok-other.ensures.rows ∙ v.named;
      way = way-on c.args.dag.now c.args.goal c.args.cone.now c.others.solver.0.lines c.other.new.solver.0.lines _ c.others.named.next c.other.new.named.next c.args.counter.now c.others.best c.in_ok-keep-in-Some.keep c.in_ok-other.ensures.longer.lines c.in_ok-other.ensures.wider c.in_ok-other.ensures.aimed v.way c.in_ok-keep-in-Some.ensures (omega (arith, l, z, e)) v.room;
      room = (let r = v.room in omega (arith, l, z, e, r));
    }

pub others-smaller-then-size-most : goal.others-smaller-then-size-most
others-smaller-then-size-most c =
    let v = c.others.invariant in
    let e = c.size-most.ensures in
    let room = v.way.room v.room in
    let l = c.if-size-most.true in
    let z = c.size.ensures in
    omega (arith, l, z, e)

pub ask-requires-clause-rows : goal.ask-requires-clause-rows
ask-requires-clause-rows c =
    let v = c.others.invariant in
    let e = c.size-most.ensures in
    let room = v.way.room v.room in
    let w = c.in_ok-other.ensures.aimed.wide in
    let r = v.rows in
    omega (arith, w, r)

pub ask-requires-clause-asked : goal.ask-requires-clause-asked
ask-requires-clause-asked c =
    let v = c.others.invariant in
    let e = c.size-most.ensures in
    let room = v.way.room v.room in
    let low = fewer-low c.args.dag.now c.others.solver.0.lines c.others.named.next c.args.counter.now.outs c.size-most.result c.fewer-bound.result v.way.counted c.fewer-bound.ensures (some-kept c.size-most.result c.if-most-eq0.false) (let w = v.way.within in omega (arith, e, w)) in
    let w = c.in_ok-other.ensures.wider in
    omega (arith, low, w)

pub in_order-requires-clause-aimed : goal.in_order-requires-clause-aimed
in_order-requires-clause-aimed c =
    let v = c.others.invariant in
    let e = c.size-most.ensures in
    let room = v.way.room v.room in
    let aim = aimed-grown c.args.dag.now c.args.goal c.args.cone.now c.other.new.solver.0.lines c.ask.new.solver.0.lines (Some c.fewer-held.result) c.other.new.named.next _ c.next.ensures (let h = fewer-low c.args.dag.now c.others.solver.0.lines c.others.named.next c.args.counter.now.outs (c.size-most.result + 1) c.fewer-held.result v.way.counted c.fewer-held.ensures (omega arith) (omega (arith, e, room)) in let w = c.in_ok-other.ensures.wider in omega (arith, h, w)) c.in_ok-other.ensures.aimed c.in_ok-ask.ensures.grown in
    let lines : c.ask.new.solver.0.lines ≡ c.others.solver.0.lines ++ (c.in_ok-other.ensures.longer.more ++ c.in_ok-ask.ensures.grown.more) =
    c.in_ok-ask.ensures.grown.lines ∙ ap (λ ls. ls ++ c.in_ok-ask.ensures.grown.more) c.in_ok-other.ensures.longer.lines ∙ append_assoc c.others.solver.0.lines c.in_ok-other.ensures.longer.more c.in_ok-ask.ensures.grown.more in
    let way = way-on c.args.dag.now c.args.goal c.args.cone.now c.others.solver.0.lines c.ask.new.solver.0.lines _ c.others.named.next c.other.new.named.next c.args.counter.now c.others.best c.others.best lines c.in_ok-other.ensures.wider aim v.way v.way.sought (omega arith) v.room in
    way.aimed

pub in_order-requires-clause-low : goal.in_order-requires-clause-low
in_order-requires-clause-low c =
    let v = c.others.invariant in
    let e = c.size-most.ensures in
    let room = v.way.room v.room in
    let h = fewer-low c.args.dag.now c.others.solver.0.lines c.others.named.next c.args.counter.now.outs (c.size-most.result + 1) c.fewer-held.result v.way.counted c.fewer-held.ensures (omega arith) (omega (arith, e, room)) in
    let w = c.in_ok-other.ensures.wider in
    omega (arith, h, w)

pub in_order-requires-clause-leading : goal.in_order-requires-clause-leading
in_order-requires-clause-leading c =
    let v = c.others.invariant in
    let e = c.size-most.ensures in
    let room = v.way.room v.room in
    let aim = aimed-grown c.args.dag.now c.args.goal c.args.cone.now c.other.new.solver.0.lines c.ask.new.solver.0.lines (Some c.fewer-held.result) c.other.new.named.next _ c.next.ensures (let h = fewer-low c.args.dag.now c.others.solver.0.lines c.others.named.next c.args.counter.now.outs (c.size-most.result + 1) c.fewer-held.result v.way.counted c.fewer-held.ensures (omega arith) (omega (arith, e, room)) in let w = c.in_ok-other.ensures.wider in omega (arith, h, w)) c.in_ok-other.ensures.aimed c.in_ok-ask.ensures.grown in
    let lines : c.ask.new.solver.0.lines ≡ c.others.solver.0.lines ++ (c.in_ok-other.ensures.longer.more ++ c.in_ok-ask.ensures.grown.more) =
    c.in_ok-ask.ensures.grown.lines ∙ ap (λ ls. ls ++ c.in_ok-ask.ensures.grown.more) c.in_ok-other.ensures.longer.lines ∙ append_assoc c.others.solver.0.lines c.in_ok-other.ensures.longer.more c.in_ok-ask.ensures.grown.more in
    let way = way-on c.args.dag.now c.args.goal c.args.cone.now c.others.solver.0.lines c.ask.new.solver.0.lines _ c.others.named.next c.other.new.named.next c.args.counter.now c.others.best c.others.best lines c.in_ok-other.ensures.wider aim v.way v.way.sought (omega arith) v.room in
    let A : Option (List Bool) → Type 0 = λ o. IsAnswered c.ask.new.solver.0.lines c.fewer-held.result c.fewer-bound.result c.rows-rows.result o in
    let few = allows-few c.args.dag.now c.ask.new.solver.0.lines c.other.new.named.next c.args.counter.now.outs c.others.best (c.size-most.result + 1) c.fewer-held.result way.counted (omega (arith, e)) (omega (arith, e, room)) c.fewer-held.ensures in
    let fewest = none-fewer c.args.dag.now c.args.goal c.args.cone.now c.ask.new.solver.0.lines c.other.new.named.next c.args.counter.now.outs c.others.best c.size-most.result c.fewer-held.result c.fewer-bound.result aim way.counted few e (some-kept c.size-most.result c.if-most-eq0.false) (let w = v.way.within in omega (arith, e, w)) c.fewer-bound.ensures (subst A c.in-None-2.is c.in_ok-ask.ensures.answered) in
    leading-begun c.args.dag.now c.args.goal c.args.cone.now c.ask.new.solver.0.lines c.other.new.named.next c.args.counter.now.outs c.others.best (c.size-most.result + 1) c.fewer-held.result v.way.sought fewest way.counted (omega (arith, e)) (omega (arith, e, room)) c.fewer-held.ensures

pub others-preserved : goal.others-preserved
others-preserved c =
    let v = c.others.invariant in
    let e = c.size-most.ensures in
    let room = v.way.room v.room in
    let aim = aimed-grown c.args.dag.now c.args.goal c.args.cone.now c.other.new.solver.0.lines c.ask.new.solver.0.lines (Some c.fewer-held.result) c.other.new.named.next _ c.next.ensures (let h = fewer-low c.args.dag.now c.others.solver.0.lines c.others.named.next c.args.counter.now.outs (c.size-most.result + 1) c.fewer-held.result v.way.counted c.fewer-held.ensures (omega arith) (omega (arith, e, room)) in let w = c.in_ok-other.ensures.wider in omega (arith, h, w)) c.in_ok-other.ensures.aimed c.in_ok-ask.ensures.grown in
    let lines : c.ask.new.solver.0.lines ≡ c.others.solver.0.lines ++ (c.in_ok-other.ensures.longer.more ++ c.in_ok-ask.ensures.grown.more) =
    c.in_ok-ask.ensures.grown.lines ∙ ap (λ ls. ls ++ c.in_ok-ask.ensures.grown.more) c.in_ok-other.ensures.longer.lines ∙ append_assoc c.others.solver.0.lines c.in_ok-other.ensures.longer.more c.in_ok-ask.ensures.grown.more in
    let way = way-on c.args.dag.now c.args.goal c.args.cone.now c.others.solver.0.lines c.ask.new.solver.0.lines _ c.others.named.next c.other.new.named.next c.args.counter.now c.others.best c.others.best lines c.in_ok-other.ensures.wider aim v.way v.way.sought (omega arith) v.room in
    let A : Option (List Bool) → Type 0 = λ o. IsAnswered c.ask.new.solver.0.lines c.fewer-held.result c.fewer-bound.result c.rows-rows.result o in
    let q = subst A c.in-Some-2.is c.in_ok-ask.ensures.answered in
    let less = found-fewer c.args.dag.now c.ask.new.solver.0.lines c.other.new.named.next c.rows-rows.result c.args.counter.now.outs c.size-most.result c.fewer-held.result c.fewer-bound.result c.in-Some-2.keep v.rows way.counted (some-kept c.size-most.result c.if-most-eq0.false) (let w = v.way.within in omega (arith, e, w)) c.fewer-bound.ensures q in
    let sought = model-sought c.args.dag.now c.args.goal c.args.cone.now c.ask.new.solver.0.lines (Some c.fewer-held.result) c.other.new.named.next (length q.0) c.rows-rows.result q.0 c.in-Some-2.keep v.rows q.1 q.4 aim q.2 in
    record {
      rows = v.rows;
      named = c.in_ok-other.ensures.rows ∙ v.named;
      way = way-on c.args.dag.now c.args.goal c.args.cone.now c.others.solver.0.lines c.ask.new.solver.0.lines _ c.others.named.next c.other.new.named.next c.args.counter.now c.others.best c.in-Some-2.keep lines c.in_ok-other.ensures.wider aim v.way sought (omega (arith, less, e)) v.room;
      room = (let r = v.room in omega (arith, less, e, r));
    }

pub others-smaller : goal.others-smaller
others-smaller c =
    let v = c.others.invariant in
    let e = c.size-most.ensures in
    let room = v.way.room v.room in
    let aim = aimed-grown c.args.dag.now c.args.goal c.args.cone.now c.other.new.solver.0.lines c.ask.new.solver.0.lines (Some c.fewer-held.result) c.other.new.named.next _ c.next.ensures (let h = fewer-low c.args.dag.now c.others.solver.0.lines c.others.named.next c.args.counter.now.outs (c.size-most.result + 1) c.fewer-held.result v.way.counted c.fewer-held.ensures (omega arith) (omega (arith, e, room)) in let w = c.in_ok-other.ensures.wider in omega (arith, h, w)) c.in_ok-other.ensures.aimed c.in_ok-ask.ensures.grown in
    let lines : c.ask.new.solver.0.lines ≡ c.others.solver.0.lines ++ (c.in_ok-other.ensures.longer.more ++ c.in_ok-ask.ensures.grown.more) =
    c.in_ok-ask.ensures.grown.lines ∙ ap (λ ls. ls ++ c.in_ok-ask.ensures.grown.more) c.in_ok-other.ensures.longer.lines ∙ append_assoc c.others.solver.0.lines c.in_ok-other.ensures.longer.more c.in_ok-ask.ensures.grown.more in
    let way = way-on c.args.dag.now c.args.goal c.args.cone.now c.others.solver.0.lines c.ask.new.solver.0.lines _ c.others.named.next c.other.new.named.next c.args.counter.now c.others.best c.others.best lines c.in_ok-other.ensures.wider aim v.way v.way.sought (omega arith) v.room in
    let A : Option (List Bool) → Type 0 = λ o. IsAnswered c.ask.new.solver.0.lines c.fewer-held.result c.fewer-bound.result c.rows-rows.result o in
    let q = subst A c.in-Some-2.is c.in_ok-ask.ensures.answered in
    let less = found-fewer c.args.dag.now c.ask.new.solver.0.lines c.other.new.named.next c.rows-rows.result c.args.counter.now.outs c.size-most.result c.fewer-held.result c.fewer-bound.result c.in-Some-2.keep v.rows way.counted (some-kept c.size-most.result c.if-most-eq0.false) (let w = v.way.within in omega (arith, e, w)) c.fewer-bound.ensures q in
    omega (arith, less, e)
