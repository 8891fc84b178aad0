use Rattle.rt_noted.proofs.SameRows.{mapped_stay}
use Rattle.std.proofs.Common.{not, ap}
use Rattle.rt_noted.specs.Ann.{node_at, node_value}
use Rattle.rt_noted.proofs.Growing.{grown_trans, node_stays, node_as}
use Rattle.rt_noted.proofs.Walking.{both_over, itself}
use Rattle.rt_noted.proofs.Merged.{rest_first, losing_push, value_stays}
use Rattle.rt_noted.proofs.difference.missing.Goals as goal

pub both-requires-clause-a : goal.both-requires-clause-a
both-requires-clause-a c =
    let d = c.args.dag.now in
    let m = c.loop-row.invariant in
    let l = rest_first d _ _ _ m.rest_below c.in-Some.ensures.steps in
    (node_stays (grown_trans m.grown c.lacks.ensures.grown) (itself d c.in-Some.node.now l)).below

pub loop-row-preserved : goal.loop-row-preserved
loop-row-preserved c =
    let d = c.args.dag.now in
    let m = c.loop-row.invariant in
    let b = c.args.b.now in
    let l = rest_first d _ _ _ m.rest_below c.in-Some.ensures.steps in
    let none = node_as (λ s. not (node_value d s (node_at b c.in-Some.row.now))) (λ s. ap not (value_stays m.grown b c.in-Some.row.now c.requires.b s)) c.in_ok-none.ensures.node in
    losing_push _ c.in_ok-lost.lost m c.in-Some.ensures.steps (grown_trans c.lacks.ensures.grown c.both.ensures.grown)
    (both_over c.in-Some.node.now c.in_ok-none.none c.in_ok-lost.lost (λ s. not (node_value d s (node_at b c.in-Some.row.now))) (grown_trans m.grown c.lacks.ensures.grown) l none c.in_ok-lost.ensures.node)
    c.in_ok-push.ensures.ok

pub returns-in_err-none-clause-grown : goal.returns-in_err-none-clause-grown
returns-in_err-none-clause-grown c = grown_trans c.loop-row.invariant.grown c.lacks.ensures.grown

pub returns-in_err-lost-clause-grown : goal.returns-in_err-lost-clause-grown
returns-in_err-lost-clause-grown c = grown_trans (grown_trans c.loop-row.invariant.grown c.lacks.ensures.grown) c.both.ensures.grown

pub returns-in_err-push-clause-grown : goal.returns-in_err-push-clause-grown
returns-in_err-push-clause-grown c = grown_trans (grown_trans c.loop-row.invariant.grown c.lacks.ensures.grown) c.both.ensures.grown

pub returns-in_err-some-clause-grown : goal.returns-in_err-some-clause-grown
returns-in_err-some-clause-grown c = grown_trans c.loop-row.invariant.grown c.any.ensures.grown

pub returns-clause-grown : goal.returns-clause-grown
returns-clause-grown c = grown_trans c.loop-row.invariant.grown c.any.ensures.grown

pub both-requires-clause-b : goal.both-requires-clause-b
both-requires-clause-b c = c.in_ok-none.ensures.node.below

pub lacks-requires : goal.lacks-requires
lacks-requires c = mapped_stay c.loop-row.invariant.grown c.args.b.now c.requires.b
