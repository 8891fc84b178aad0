use Rattle.std.proofs.Common.{subst, List, ℕ, Option, arith}
use Rattle.std.specs.Prelude.{MatchOption}
use Rattle.rt_store.specs.declared.trail.Step.{Step}
use Rattle.rt_store.specs.Trail.{oldest}
use Rattle.rt_solver.specs.Analysis.{IsWalkedBy, FindsNone, IsGathered}
use Rattle.rt_solver.proofs.Walks.{oldest-none}
use Rattle.rt_solver.proofs.Gathering.{gathered-all, placed-none}
use Rattle.rt_solver.proofs.explain.trace.Goals as goal

pub returns-in-None : goal.returns-in-None
returns-in-None g c =
    let O : Option ℕ → Type 0 = λ o. MatchOption o (FindsNone (g.L.Adds.lines c.args.base.now.0) c.args.assume.now c.args.trail.now c.walk_back.new.walk) (λ i. IsGathered (g.L.Adds.lines c.args.base.now.0) c.args.assume.now c.args.first c.args.trail.now i i c.walk_back.new.walk) in
    let h = subst O c.in-None.is c.in_ok-walk_back.ensures in
    let p = placed-none c.args.first c.args.trail.now.steps (oldest 0 c.args.trail.now.steps) c.walk_back.new.walk.found.items h.none in
    record { within = omega arith; walked = h.walked; chosen = p.0; placed = p.1 }

pub returns-in_ok-cut-in-Some : goal.returns-in_ok-cut-in-Some
returns-in_ok-cut-in-Some g c =
    let h = c.in_ok-cut-in-Some.ensures in
    let e = oldest-none c.args.trail.now.steps in
    let P : List Step → Type 0 = λ t. IsWalkedBy (g.L.Adds.lines c.args.base.now.0) c.args.assume.now c.args.trail.now.vars t c.gather.new.walk.marks c.gather.new.walk.found.items c.gather.new.walk.hints.items in
    let p = gathered-all c.args.first c.args.trail.now.steps (oldest 0 c.args.trail.now.steps) (oldest c.in_ok-cut-in-Some.cut c.args.trail.now.steps) c.gather.new.walk.found.items e h.gathered in
    record { within = h.within; walked = subst P e h.walked; chosen = p.0; placed = p.1 }
