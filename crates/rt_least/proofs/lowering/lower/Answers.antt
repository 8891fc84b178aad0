use Rattle.std.proofs.Common.{Some, subst, arith}
use Rattle.rt_clause.specs.Refuting.{IsRefuted}
use Rattle.rt_solver.specs.declared.solver.Found.{Found}
use Rattle.rt_derive.specs.declared.checker.Checker.{Checker}
use Rattle.rt_least.specs.Attempts.{IsTold}
use Rattle.rt_least.proofs.Leading.{least-none}
use Rattle.rt_least.proofs.Rounds.{round-begun, round-on, round-model, round-least, round-spent}
use Rattle.rt_least.proofs.lowering.lower.Goals as goal

pub lower-smaller : goal.lower-smaller
lower-smaller c =
    let v = c.lower.invariant in
    let r = round-begun c.args.dag.now c.args.goal c.args.cone.now c.lower.solver.0.lines c.args.named.next c.args.counter.now.outs c.lower.best c.size-most.result c.fewer-bound.result v.way.aimed v.way.counted v.way.sought c.fewer-bound.ensures c.size-most.ensures c.if-most-eq0.false v.way.within in
    let on = round-on _ _ _ _ _ _ c.next.result _ _ _ _ c.next.ensures r c.in_ok-model.ensures.grown in
    let F : Found → Type 0 = λ f. IsTold c.lower.solver.0.lines c.attempt.new.solver.0.lines (Some c.fewer-bound.result) c.next.result c.rows-rows.result c.args.budget f in
    let m = round-model _ _ _ _ _ c.rows-rows.result _ _ _ _ _ _ v.rows on (subst F c.in-Model.is c.in_ok-model.ensures.told) c.in_ok-best-in-Model.ensures in
    let s = m.1 in
    let e = c.size-most.ensures in
    omega (arith, s, e)

pub lower-preserved : goal.lower-preserved
lower-preserved c =
    let v = c.lower.invariant in
    let r = round-begun c.args.dag.now c.args.goal c.args.cone.now c.lower.solver.0.lines c.args.named.next c.args.counter.now.outs c.lower.best c.size-most.result c.fewer-bound.result v.way.aimed v.way.counted v.way.sought c.fewer-bound.ensures c.size-most.ensures c.if-most-eq0.false v.way.within in
    let on = round-on _ _ _ _ _ _ c.next.result _ _ _ _ c.next.ensures r c.in_ok-model.ensures.grown in
    let F : Found → Type 0 = λ f. IsTold c.lower.solver.0.lines c.attempt.new.solver.0.lines (Some c.fewer-bound.result) c.next.result c.rows-rows.result c.args.budget f in
    let m = round-model _ _ _ _ _ c.rows-rows.result _ _ _ _ _ _ v.rows on (subst F c.in-Model.is c.in_ok-model.ensures.told) c.in_ok-best-in-Model.ensures in
    let s = m.1 in
    let e = c.size-most.ensures in
    let w = v.way.within in
    record {
      rows = v.rows;
      way = record {
        long = v.way.long;
        aimed = on.aimed;
        counted = on.counted;
        sought = m.0;
        within = omega (arith, s, e, w);
        room = λ h. omega (arith, s, e, w);
      };
    }

pub returns-then-most-eq0 : goal.returns-then-most-eq0
returns-then-most-eq0 c =
    let v = c.lower.invariant in
    let e = c.size-most.ensures in
    let z = c.if-most-eq0.true in
    least-none c.args.dag.now c.args.goal c.args.cone.now c.lower.best v.way.sought (omega (arith, e, z))

pub first-requires-clause-way : goal.first-requires-clause-way
first-requires-clause-way c =
    let v = c.lower.invariant in
    let r = round-begun c.args.dag.now c.args.goal c.args.cone.now c.lower.solver.0.lines c.args.named.next c.args.counter.now.outs c.lower.best c.size-most.result c.fewer-bound.result v.way.aimed v.way.counted v.way.sought c.fewer-bound.ensures c.size-most.ensures c.if-most-eq0.false v.way.within in
    let on = round-on _ _ _ _ _ _ c.next.result _ _ _ _ c.next.ensures r c.in_ok-model.ensures.grown in
    record {
      long = v.way.long;
      aimed = on.aimed;
      counted = on.counted;
      sought = v.way.sought;
      within = v.way.within;
      room = v.way.room;
    }

pub first-requires-clause-fewest : goal.first-requires-clause-fewest
first-requires-clause-fewest c =
    let v = c.lower.invariant in
    let r = round-begun c.args.dag.now c.args.goal c.args.cone.now c.lower.solver.0.lines c.args.named.next c.args.counter.now.outs c.lower.best c.size-most.result c.fewer-bound.result v.way.aimed v.way.counted v.way.sought c.fewer-bound.ensures c.size-most.ensures c.if-most-eq0.false v.way.within in
    let on = round-on _ _ _ _ _ _ c.next.result _ _ _ _ c.next.ensures r c.in_ok-model.ensures.grown in
    let C : Checker → Type 0 = λ x. IsRefuted x.lines (Some c.fewer-bound.result) in
    round-least _ _ _ _ _ _ _ _ _ on (subst C c.lines.ensures (c.refutes.ensures.0 c.if-not-refutes.false))

pub returns-in-Spent : goal.returns-in-Spent
returns-in-Spent c =
    let v = c.lower.invariant in
    let r = round-begun c.args.dag.now c.args.goal c.args.cone.now c.lower.solver.0.lines c.args.named.next c.args.counter.now.outs c.lower.best c.size-most.result c.fewer-bound.result v.way.aimed v.way.counted v.way.sought c.fewer-bound.ensures c.size-most.ensures c.if-most-eq0.false v.way.within in
    let F : Found → Type 0 = λ f. IsTold c.lower.solver.0.lines c.attempt.new.solver.0.lines (Some c.fewer-bound.result) c.next.result c.rows-rows.result c.args.budget f in
    round-spent _ _ _ _ _ _ c.next.result c.rows-rows.result _ _ _ _ _ _ c.next.ensures v.rows r (subst F c.in-Spent.is c.in_ok-model.ensures.told)

pub others-requires-clause-room : goal.others-requires-clause-room
others-requires-clause-room c =
    let v = c.lower.invariant in
    let e = c.size-most.ensures in
    let r = v.rows in
    omega (arith, e, r)
