use Rattle.std.proofs.Common.{refl, ◌≡◌, ◌+◌, ◌++◌, ◌∷◌, [], ◌∙◌, ℕ, Bool, List, Some, map, sym, ap, subst, arith}
use Rattle.rt_clause.specs.Literal.{Literal, negated}
use Rattle.rt_clause.specs.Refuting.{IsRefuted}
use Rattle.rt_derive.specs.declared.checker.Checker.{Checker}
use Rattle.rt_solver.specs.declared.solver.Found.{Found}
use Rattle.rt_least.specs.Attempts.{IsTold}
use Rattle.rt_least.specs.Widened.{widened}
use Rattle.rt_least.proofs.Places.{IsPlaced, placed-all, placed-begun, placed-end, placed-kept, placed-model, placed-out, placed-outside, spent-placed, tried-given, tried-on}
use Rattle.rt_least.proofs.by_rows.by_rows.Goals as goal
use Rattle.rt_least.proofs.by_rows.by_rows.Goals.{then-not-is-2+in_ok-model+in-Model+in_ok-best-in-Model, else-not-is-2}

pub loop-place-init : goal.loop-place-init
loop-place-init c =
    let e = c.rows-rows.ensures.is in
    let r = c.requires.rows in
    let w = c.requires.aimed.wide in
    let s = c.requires.small in
    let N : ℕ → Type 0 = λ n. IsPlaced c.args.dag.now c.args.goal c.args.cone.now c.args.solver.now.0.lines n c.args.best 0 c.args.held c.new-left.result in
    let L : List Literal → Type 0 = λ ls. IsPlaced c.args.dag.now c.args.goal c.args.cone.now c.args.solver.now.0.lines c.args.named.next c.args.best 0 c.args.held ls in
    record {
      rows = omega (arith, e, r);
      small = omega (arith, e, r, w, s);
      placed = subst N (sym c.next-next.ensures) (subst L (sym c.new-left.ensures) (placed-begun c.args.dag.now c.args.goal c.args.cone.now c.args.solver.now.0.lines c.args.named.next c.args.best c.args.held c.requires.aimed c.requires.leading c.requires.low));
    }

pub returns-then-len-size : goal.returns-then-len-size
returns-then-len-size c =
    let v = c.loop-place.invariant in
    let t = c.if-len-size.true in
    let l = c.len.ensures in
    let s = c.size.ensures in
    let b = c.loop-place-test.true in
    let e = v.rows in
    placed-all c.args.dag.now c.args.goal c.args.cone.now _ c.loop-place.next c.loop-place.best c.loop-place.place c.loop-place.held c.loop-place.left v.placed (omega (arith, b, e)) (omega (arith, t, l, s))

pub loop-place-preserved-then-not-is : goal.loop-place-preserved-then-not-is
loop-place-preserved-then-not-is c =
    let v = c.loop-place.invariant in
    let b = c.loop-place-test.true in
    let e = v.rows in
    record {
      rows = v.rows;
      small = v.small;
      placed = placed-outside c.args.dag.now c.args.goal c.args.cone.now _ c.loop-place.next c.loop-place.best c.loop-place.place c.loop-place.held c.loop-place.left v.placed (omega (arith, b, e)) (sym c.is.ensures ∙ c.if-not-is.true);
    }

pub loop-place-preserved-in-Refuted : goal.loop-place-preserved-in-Refuted
loop-place-preserved-in-Refuted c =
    let v = c.loop-place.invariant in
    let b = c.loop-place-test.true in
    let e = v.rows in
    let g = tried-given c.args.dag.now c.args.goal c.args.cone.now c.loop-place.solver.0.lines c.both.new.to.0.lines c.loop-place.next c.loop-place.best c.loop-place.place c.loop-place.held c.of-row.result c.in_ok-asked.asked c.loop-place.left
    v.placed (omega (arith, b, e)) (sym c.is.ensures ∙ c.if-not-is.false) c.of-row.ensures.var c.of-row.ensures.on c.in_ok-asked.ensures.var c.in_ok-asked.ensures.gate in
    let t = tried-on c.args.dag.now c.args.goal c.args.cone.now c.both.new.to.0.lines c.attempt.new.solver.0.lines (c.loop-place.next + 1) c.loop-place.best c.loop-place.place c.loop-place.held c.in_ok-asked.asked c.loop-place.left _
    g c.in_ok-model.ensures.grown in
    let C : Checker → Type 0 = λ x. IsRefuted x.lines (Some c.in_ok-asked.asked) in
    record {
      rows = v.rows;
      small = v.small;
      placed = placed-out c.args.dag.now c.args.goal c.args.cone.now c.attempt.new.solver.0.lines (c.loop-place.next + 1) c.loop-place.best c.loop-place.place c.loop-place.held c.in_ok-asked.asked c.loop-place.left _ t (sym c.is-in-loop-place.ensures ∙ c.if-not-is-2.true)
          (subst C c.lines.ensures (c.refutes.ensures.0 c.if-not-refutes.false));
    }

pub returns-in-Spent : goal.returns-in-Spent
returns-in-Spent c =
    let v = c.loop-place.invariant in
    let b = c.loop-place-test.true in
    let e = v.rows in
    let g = tried-given c.args.dag.now c.args.goal c.args.cone.now c.loop-place.solver.0.lines c.both.new.to.0.lines c.loop-place.next c.loop-place.best c.loop-place.place c.loop-place.held c.of-row.result c.in_ok-asked.asked c.loop-place.left
    v.placed (omega (arith, b, e)) (sym c.is.ensures ∙ c.if-not-is.false) c.of-row.ensures.var c.of-row.ensures.on c.in_ok-asked.ensures.var c.in_ok-asked.ensures.gate in
    let F : Found → Type 0 = λ f. IsTold c.both.new.to.0.lines c.attempt.new.solver.0.lines (Some c.in_ok-asked.asked) (c.loop-place.next + 1) c.rows-rows.result c.args.budget f in
    let now : c.push.new.self ≡ c.loop-place.left ++ negated c.of-row.result ∷ [] = c.in_ok-push-in-Spent.ensures.ok ∙ ap (λ l. c.loop-place.left ++ l ∷ []) c.negated.ensures in
    spent-placed c.args.dag.now c.args.goal c.args.cone.now c.both.new.to.0.lines c.attempt.new.solver.0.lines (c.loop-place.next + 1) (c.loop-place.next + 1) c.rows-rows.result c.loop-place.best c.loop-place.place c.loop-place.held c.in_ok-asked.asked c.loop-place.left
    (c.loop-place.left ++ negated c.of-row.result ∷ []) c.args.budget c.in-Spent.learned c.in_ok-nogoods-in-Spent.nogoods refl v.rows g (subst F c.in-Spent.is c.in_ok-model.ensures.told)
    (c.in_ok-nogoods-in-Spent.ensures ∙ ap (λ ls. map (widened ls) c.in-Spent.learned) now)

pub loop-place-preserved : goal.loop-place-preserved
loop-place-preserved c =
    let v = c.loop-place.invariant in
    let b = c.loop-place-test.true in
    let e = v.rows in
    let left' = c.loop-place.left ++ negated c.of-row.result ∷ [] in
    let here = λ (ls : List (List Literal)) (best : List Bool) (left : List Literal). IsPlaced c.args.dag.now c.args.goal c.args.cone.now ls (c.loop-place.next + 1) best (c.loop-place.place + 1) c.in_ok-asked.asked left in
    let g = tried-given c.args.dag.now c.args.goal c.args.cone.now c.loop-place.solver.0.lines c.both.new.to.0.lines c.loop-place.next c.loop-place.best c.loop-place.place c.loop-place.held c.of-row.result c.in_ok-asked.asked c.loop-place.left
    v.placed (omega (arith, b, e)) (sym c.is.ensures ∙ c.if-not-is.false) c.of-row.ensures.var c.of-row.ensures.on c.in_ok-asked.ensures.var c.in_ok-asked.ensures.gate in
    let S : Checker × Bool → Type 0 = λ s. here s.0.lines c.if-not-is-2.best left' in
    let s : here c.if-not-is-2.solver.0.lines c.if-not-is-2.best left' = elim c.if-not-is-2.branch [
      | then-not-is-2+in_ok-model+in-Model+in_ok-best-in-Model w ↦ (
          let t = tried-on c.args.dag.now c.args.goal c.args.cone.now c.both.new.to.0.lines w.attempt.new.solver.0.lines (c.loop-place.next + 1) c.loop-place.best c.loop-place.place c.loop-place.held c.in_ok-asked.asked c.loop-place.left left'
          g w.in_ok-model.ensures.grown in
          let F : Found → Type 0 = λ f. IsTold c.both.new.to.0.lines w.attempt.new.solver.0.lines (Some c.in_ok-asked.asked) (c.loop-place.next + 1) c.rows-rows.result c.args.budget f in
          let B : List Bool → Type 0 = λ k. here w.attempt.new.solver.0.lines k left' in
          subst S (sym w.solver-is) (subst B (sym w.best-is) (placed-model c.args.dag.now c.args.goal c.args.cone.now w.attempt.new.solver.0.lines (c.loop-place.next + 1) c.rows-rows.result c.loop-place.best c.loop-place.place c.loop-place.held
          c.in_ok-asked.asked c.loop-place.left left' w.in-Model.model w.in_ok-best-in-Model.best v.rows t (sym c.is-in-loop-place.ensures ∙ w.if-not-is-2.true) (subst F w.in-Model.is w.in_ok-model.ensures.told) w.in_ok-best-in-Model.ensures)))
      | else-not-is-2 w ↦ (
          let B : List Bool → Type 0 = λ k. here c.both.new.to.0.lines k left' in
          subst S (sym w.solver-is) (subst B (sym w.best-is) (placed-kept c.args.dag.now c.args.goal c.args.cone.now c.both.new.to.0.lines (c.loop-place.next + 1) c.loop-place.best c.loop-place.place c.loop-place.held c.in_ok-asked.asked c.loop-place.left left' g
          (sym c.is-in-loop-place.ensures ∙ w.if-not-is-2.false))))
    ] in
    let now : c.push-in-loop-place.new.self ≡ left' = c.in_ok-push.ensures.ok ∙ ap (λ l. c.loop-place.left ++ l ∷ []) c.negated-in-loop-place.ensures in
    let L : List Literal → Type 0 = λ ls. here c.if-not-is-2.solver.0.lines c.if-not-is-2.best ls in
    record { rows = v.rows; small = v.small; placed = subst L (sym now) s }

pub returns : goal.returns
returns c =
    let v = c.loop-place.invariant in
    let t = c.loop-place-test.false in
    let e = v.rows in
    placed-end c.args.dag.now c.args.goal c.args.cone.now _ c.loop-place.next c.loop-place.best c.loop-place.place c.loop-place.held c.loop-place.left v.placed (omega (arith, t, e))

pub unreachable-requires : goal.unreachable-requires
unreachable-requires c =
    let F : Found → Type 0 = λ f. IsTold c.both.new.to.0.lines c.attempt.new.solver.0.lines (Some c.in_ok-asked.asked) (c.loop-place.next + 1) c.rows-rows.result c.args.budget f in
    let C : Checker → Type 0 = λ x. IsRefuted x.lines (Some c.in_ok-asked.asked) in
    let t = c.refutes.ensures.1 (subst C (sym c.lines.ensures) (subst F c.in-Refuted.is c.in_ok-model.ensures.told)) in
    let f = c.if-not-refutes.true in
    absurd (cc)

pub attempt-requires-clause-rows : goal.attempt-requires-clause-rows
attempt-requires-clause-rows c = let w = c.loop-place.invariant.placed.aimed.wide in let e = c.loop-place.invariant.rows in omega (arith, w, e)
