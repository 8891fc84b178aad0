use Rattle.std.proofs.Common.{ap, subst, List}
use Rattle.std.proofs.lemmas.Result.{IfOk-weaker}
use Rattle.rt_clause.specs.Literal.{Literal}
use Rattle.rt_solver.specs.Propagating.{IsPropagated}
use Rattle.rt_solver.proofs.Queues.{propagated-same, all-trans}
use Rattle.rt_solver.proofs.Shorts.{short-same}
use Rattle.rt_solver.proofs.Rounds.{done-of}
use Rattle.rt_solver.proofs.base.Base.propagate.Goals as goal

pub invariant_of-self : goal.invariant_of-self
invariant_of-self g c = record {
  same = all-trans (g.L.Adds.lines c.self.inside.lines) c.self.inside.clauses.items c.propagate.new.clauses.items c.self.invariant.same c.propagate.ensures.same;
  listed = c.propagate.ensures.listed;
  brief = short-same c.self.inside.clauses.items c.propagate.new.clauses.items c.self.inside.short.items c.propagate.ensures.same c.self.invariant.listed.spread c.self.invariant.brief;
  wide = c.self.invariant.wide;
  few = c.self.invariant.few;
}

pub returns-clause-steps : goal.returns-clause-steps
returns-clause-steps g c =
    let P : List (List Literal) → Type 0 = λ ls. IsPropagated ls c.args.trail.now.steps c.propagate.new.trail.steps in
    subst P (ap (λ s. g.L.Adds.lines s.0) c.self.view_is) (propagated-same (g.L.Adds.lines c.self.inside.lines) c.self.inside.clauses.items c.args.trail.now.steps c.propagate.new.trail.steps c.self.invariant.same c.propagate.ensures.steps)

pub returns-clause-done : goal.returns-clause-done
returns-clause-done g c =
    let s = all-trans (g.L.Adds.lines c.self.inside.lines) c.self.inside.clauses.items c.propagate.new.clauses.items c.self.invariant.same c.propagate.ensures.same in
    IfOk-weaker c.propagate.result _ _ (λ o. done-of (g.L.Adds.lines c.self.inside.lines) c.propagate.new.trail.steps c.propagate.new.watches.lists c.propagate.new.clauses.items o s c.propagate.ensures.listed) c.propagate.ensures.done
