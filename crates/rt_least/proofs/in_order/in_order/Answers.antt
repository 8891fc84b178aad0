use Rattle.std.proofs.Common.{◌+◌, ◌∙◌, ℕ, List, Option, Bool, subst, sym, arith}
use Rattle.rt_least.specs.Attempts.{IsAnswered}
use Rattle.rt_least.proofs.Asking.{IsSettled, earlier-found, falls, has-asked, none-earlier, row-settled}
use Rattle.rt_least.proofs.Leading.{leading-first}
use Rattle.rt_least.proofs.in_order.in_order.Goals as goal

pub returns-then-row-rows : goal.returns-then-row-rows
returns-then-row-rows c =
    let v = c.first.invariant in
    let t = c.if-row-rows.true in
    let e = v.rows in
    leading-first c.args.dag.now c.args.goal c.args.cone.now _ c.first.best c.first.place c.first.row c.first.held v.settled.leading v.next_is (omega (arith, t, e))

pub first-preserved-then-place-row : goal.first-preserved-then-place-row
first-preserved-then-place-row c =
    let v = c.first.invariant in
    let t = c.if-row-rows.false in
    let e = v.rows in
    let n = c.next_kept-row-then-place-row.ensures in
    record {
      rows = e;
      small = v.small;
      settled = row-settled c.args.dag.now c.args.goal c.args.cone.now c.first.solver.0.lines c.both.new.to.0.lines c.first.next c.first.best c.first.place c.first.row c.first.held
          c.of.result c.in_ok-held.held v.settled v.next_is (omega (arith, t, e)) c.if-place-row.true c.of.ensures.var c.of.ensures.on c.in_ok-held.ensures.var c.in_ok-held.ensures.gate;
      next_is = n;
      from = n.from;
      within = omega arith;
      ahead = λ h. h;
    }

pub first-smaller-in-Some : goal.first-smaller-in-Some
first-smaller-in-Some c =
    let v = c.first.invariant in
    let t = c.if-row-rows.false in
    let e = v.rows in
    let w = v.within in
    let a = has-asked c.args.dag.now c.args.goal c.args.cone.now c.first.solver.0.lines c.none_kept.new.to.0.lines c.both-in-first.new.to.0.lines c.ask.new.solver.0.lines c.first.next c.first.best c.first.place c.first.row c.first.end c.first.held
    c.in_ok-none.none c.negated.result c.in_ok-asked.asked v.settled v.next_is (omega (arith, t, e)) v.from w c.in_ok-none.ensures.var c.in_ok-none.ensures.gate c.negated.ensures c.in_ok-asked.ensures.var c.in_ok-asked.ensures.gate c.in_ok-keep.ensures.grown in
    let F : Option (List Bool) → Type 0 = λ f. IsAnswered c.ask.new.solver.0.lines c.first.held c.in_ok-asked.asked c.rows-rows.result f in
    let m = earlier-found c.args.dag.now c.args.goal c.args.cone.now c.ask.new.solver.0.lines (c.first.next + 2) c.rows-rows.result c.first.best c.first.place c.first.end c.next_kept-row-in-Some.result
    c.first.held c.in_ok-asked.asked c.in-Some.keep e a (subst F c.in-Some.is c.in_ok-keep.ensures.answered) c.next_kept-row-in-Some.ensures in
    let s = m.1 in
    omega (arith, s, w)

pub first-preserved-in-Some : goal.first-preserved-in-Some
first-preserved-in-Some c =
    let v = c.first.invariant in
    let t = c.if-row-rows.false in
    let e = v.rows in
    let w = v.within in
    let a = has-asked c.args.dag.now c.args.goal c.args.cone.now c.first.solver.0.lines c.none_kept.new.to.0.lines c.both-in-first.new.to.0.lines c.ask.new.solver.0.lines c.first.next c.first.best c.first.place c.first.row c.first.end c.first.held
    c.in_ok-none.none c.negated.result c.in_ok-asked.asked v.settled v.next_is (omega (arith, t, e)) v.from w c.in_ok-none.ensures.var c.in_ok-none.ensures.gate c.negated.ensures c.in_ok-asked.ensures.var c.in_ok-asked.ensures.gate c.in_ok-keep.ensures.grown in
    let F : Option (List Bool) → Type 0 = λ f. IsAnswered c.ask.new.solver.0.lines c.first.held c.in_ok-asked.asked c.rows-rows.result f in
    let m = earlier-found c.args.dag.now c.args.goal c.args.cone.now c.ask.new.solver.0.lines (c.first.next + 2) c.rows-rows.result c.first.best c.first.place c.first.end c.next_kept-row-in-Some.result
    c.first.held c.in_ok-asked.asked c.in-Some.keep e a (subst F c.in-Some.is c.in_ok-keep.ensures.answered) c.next_kept-row-in-Some.ensures in
    record {
      rows = e;
      small = v.small;
      settled = m.0;
      next_is = c.next_kept-row-in-Some.ensures;
      from = c.next_end-end.ensures.from;
      within = c.next_end-end.ensures.within;
      ahead = c.next_end-end.ensures.ahead;
    }

pub first-smaller : goal.first-smaller
first-smaller c =
    let v = c.first.invariant in
    let t = c.if-row-rows.false in
    let n = c.if-place-row.false in
    let f = v.next_is.from in
    let w = v.within in
    let a = v.ahead (omega (arith, n, f)) in
    let m = falls c.rows-rows.result c.first.place c.first.end c.first.row c.first.row a (omega (arith, w, t)) (omega (arith, t)) in
    omega (arith, m)

pub first-preserved : goal.first-preserved
first-preserved c =
    let v = c.first.invariant in
    let t = c.if-row-rows.false in
    let e = v.rows in
    let w = v.within in
    let n = v.next_is in
    let from = v.from in
    let a = has-asked c.args.dag.now c.args.goal c.args.cone.now c.first.solver.0.lines c.none_kept.new.to.0.lines c.both-in-first.new.to.0.lines c.ask.new.solver.0.lines c.first.next c.first.best c.first.place c.first.row c.first.end c.first.held
    c.in_ok-none.none c.negated.result c.in_ok-asked.asked v.settled n (omega (arith, t, e)) from w c.in_ok-none.ensures.var c.in_ok-none.ensures.gate c.negated.ensures c.in_ok-asked.ensures.var c.in_ok-asked.ensures.gate c.in_ok-keep.ensures.grown in
    let F : Option (List Bool) → Type 0 = λ f. IsAnswered c.ask.new.solver.0.lines c.first.held c.in_ok-asked.asked c.rows-rows.result f in
    record {
      rows = e;
      small = v.small;
      settled = none-earlier c.args.dag.now c.args.goal c.args.cone.now c.ask.new.solver.0.lines (c.first.next + 2) c.first.best c.first.place c.first.end c.first.held c.in_ok-asked.asked
          a (subst F c.in_default.is c.in_ok-keep.ensures.answered);
      next_is = record { from = w; within = n.within; bare = λ p l b. n.bare p (omega (arith, l, from)) b; kept = n.kept };
      from = w;
      within = omega arith;
      ahead = λ h. h;
    }

pub first-init : goal.first-init
first-init c =
    let e = c.rows-rows.ensures.is in
    let r = c.requires.rows in
    let w = c.requires.aimed.wide in
    let s = c.requires.small in
    let f = c.next_kept-row.ensures.from in
    let N : ℕ → Type 0 = λ n. IsSettled c.args.dag.now c.args.goal c.args.cone.now c.args.solver.now.0.lines n c.args.best 0 c.args.held in
    record {
      rows = e ∙ r;
      small = omega (arith, e, r, w, s);
      settled = subst N (sym c.next-next.ensures) (record { aimed = c.requires.aimed; leading = c.requires.leading; low = c.requires.low });
      next_is = c.next_kept-row.ensures;
      from = f;
      within = omega arith;
      ahead = λ h. h;
    }

pub first-smaller-then-place-row : goal.first-smaller-then-place-row
first-smaller-then-place-row c =
    let v = c.first.invariant in
    let t = c.if-row-rows.false in
    let p = c.if-place-row.true in
    let e = v.rows in
    let w = c.next_kept-row-then-place-row.ensures.within in
    let l = v.settled.leading.best_is.0 in
    let m = falls c.rows-rows.result c.first.place (c.first.place + 1) c.first.row c.next_kept-row-then-place-row.result (omega arith) (omega (arith, p, t)) (omega (arith, w, l, e)) in
    omega (arith, m)

pub none_kept-requires-clause-within : goal.none_kept-requires-clause-within
none_kept-requires-clause-within c =
    let v = c.first.invariant in
    let t = c.if-row-rows.false in
    let e = v.rows in
    let w = v.within in
    let l = c.requires.long in
    omega (arith, t, e, w, l)

pub none_kept-requires-clause-rows : goal.none_kept-requires-clause-rows
none_kept-requires-clause-rows c =
    let v = c.first.invariant in
    let t = c.if-row-rows.false in
    let w = v.within in
    let s = v.small in
    omega (arith, t, w, s)

pub ask-requires-clause-rows : goal.ask-requires-clause-rows
ask-requires-clause-rows c =
    let v = c.first.invariant in
    let e = v.rows in
    let w = v.settled.aimed.wide in
    omega (arith, e, w)
