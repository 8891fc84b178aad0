use Rattle.std.proofs.Common.{◌≡◌, ◌∙◌, ◌++◌, ◌∷◌, [], Bool, false, Option, IsSome, ap, length, length-append, subst, sym, arith}
use Rattle.std.specs.Option.{unwrap_or}
use Rattle.rt_solver.proofs.Reading.{reads-push}
use Rattle.rt_solver.proofs.solver.values.Goals as goal

pub loop-v-preserved : goal.loop-v-preserved
loop-v-preserved c =
    let v = c.loop-v.invariant in
    let t = c.loop-v-test.true in
    let e = c.vars-v-end.ensures.vars in
    let S : Option Bool → Type 0 = λ o. IsSome o in
    let now : c.push.new.self ≡ c.loop-v.bools ++ unwrap_or c.value.result false ∷ [] = c.in_ok-push.ensures.ok ∙ ap (λ b. c.loop-v.bools ++ b ∷ []) c.unwrap_or.ensures in
    let w = ap length now in
    let a = length-append c.loop-v.bools (unwrap_or c.value.result false ∷ []) in
    let l = v.len in
    record {
      len = omega (arith, w, a, l);
      reads = reads-push c.loop-v.v c.args.trail.now.steps c.loop-v.bools c.push.new.self c.value.result v.len v.reads (sym c.value.ensures) (subst S (sym c.value.ensures) (c.requires c.loop-v.v (omega (arith, t, e)))) now;
    }
