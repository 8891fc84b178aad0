use Rattle.std.proofs.Common.{◌<◌, ◌∙◌, None, refl, sym, subst, arith}
use Rattle.rt_clause.specs.Refuting.{IsRefuted}
use Rattle.rt_solver.specs.declared.solver.Found.{Found}
use Rattle.rt_derive.specs.declared.checker.Checker.{Checker}
use Rattle.rt_least.specs.Attempts.{IsTold}
use Rattle.rt_least.proofs.Aiming.{aimed-extends, model-sought, refuted-never}
use Rattle.rt_least.proofs.Attempts.{aimed-grown}
use Rattle.rt_least.proofs.Keeps.{size-most}
use Rattle.rt_least.proofs.Rounds.{none-spent}
use Rattle.rt_search.proofs.search.within.Goals as goal

pub count_among-requires-clause-below : goal.count_among-requires-clause-below
count_among-requires-clause-below c =
    let a = c.requires.aimed in
    (aimed-grown c.args.dag.now c.args.goal c.args.cone.now _ _ None c.args.named.next c.next.result c.next.ensures tt a c.in_ok-model.ensures.grown).below

pub count_among-requires-clause-out : goal.count_among-requires-clause-out
count_among-requires-clause-out c row below off bools m =
    let r = c.requires.rows in
    let a = aimed-grown c.args.dag.now c.args.goal c.args.cone.now _ _ None c.args.named.next c.next.result c.next.ensures tt c.requires.aimed c.in_ok-model.ensures.grown in
    (a.sound bools bools (λ v h. refl) m).1 row (omega (arith, below, r)) off

pub lower-requires-clause-way : goal.lower-requires-clause-way
lower-requires-clause-way c =
    let a = c.requires.aimed in
    let k = c.in_ok-counter-in-Model.ensures in
    let r = c.requires.rows in
    let z = c.size.ensures in
    let t = c.rows-rows.ensures in
    let l = c.in_ok-best-in-Model.ensures.0 in
    let m = size-most c.in_ok-best-in-Model.best in
    let n = k.len in
    record {
      long = c.requires.long;
      aimed = aimed-extends c.args.dag.now c.args.goal c.args.cone.now _ _ c.args.named.next c.count_among.new.named.next
          (aimed-grown c.args.dag.now c.args.goal c.args.cone.now _ _ None c.args.named.next c.next.result c.next.ensures tt a c.in_ok-model.ensures.grown) k.extends;
      counted = record {
        low = k.low;
        counts = λ keep bools l ag m j z b. k.counts keep bools (l ∙ sym r) (λ v h. ag v (let e : v < c.args.dag.now.rows = omega (arith, h, r) in e)) m j z b;
      };
      sought = c.in_ok-best-in-Model.ensures;
      within = (let u = c.one_above-upto.ensures.reach (omega (arith, z, t, l, m)) in omega (arith, z, u, n));
      room = λ h. (let u = c.one_above-upto.ensures.above (omega (arith, z, t, h)) in omega (arith, z, u, n));
    }

pub smaller-requires-clause-best : goal.smaller-requires-clause-best
smaller-requires-clause-best c =
    let a = c.requires.aimed in
    let F : Found → Type 0 = λ f. IsTold c.args.solver.now.0.lines c.attempt.new.solver.0.lines None c.next.result c.rows-rows.result c.args.budget f in
    let m = subst F c.in-Model.is c.in_ok-model.ensures.told in
    model-sought c.args.dag.now c.args.goal c.args.cone.now _ None c.args.named.next _ c.rows-rows.result c.in-Model.model c.in_ok-model-in-Model.model c.rows-rows.ensures m.0 c.in_ok-model-in-Model.ensures
    (aimed-grown c.args.dag.now c.args.goal c.args.cone.now _ _ None c.args.named.next c.next.result c.next.ensures tt a c.in_ok-model.ensures.grown) m.1

pub returns-else-not-refutes : goal.returns-else-not-refutes
returns-else-not-refutes c =
    let a = c.requires.aimed in
    let C : Checker → Type 0 = λ x. IsRefuted x.lines None in
    refuted-never c.args.dag.now c.args.goal c.args.cone.now _ c.args.named.next (aimed-grown c.args.dag.now c.args.goal c.args.cone.now _ _ None c.args.named.next c.next.result c.next.ensures tt a c.in_ok-model.ensures.grown)
    (subst C c.lines.ensures (c.refutes.ensures.0 c.if-not-refutes.false))

pub returns-in-Spent : goal.returns-in-Spent
returns-in-Spent c =
    let a = c.requires.aimed in
    let F : Found → Type 0 = λ f. IsTold c.args.solver.now.0.lines c.attempt.new.solver.0.lines None c.next.result c.rows-rows.result c.args.budget f in
    none-spent c.args.dag.now c.args.goal c.args.cone.now _ _ c.args.named.next c.next.result c.rows-rows.result c.args.budget c.in-Spent.nogoods c.next.ensures c.rows-rows.ensures a
    (subst F c.in-Spent.is c.in_ok-model.ensures.told)
