use Rattle.std.proofs.Common.{sym, ap, subst, List, [], ℕ, length, ◌<◌}
use Rattle.std.proofs.lemmas.Result.{IfOk-weaker}
use Rattle.rt_clause.specs.Literal.{Literal}
use Rattle.rt_clause.specs.Lists.{line_at}
use Rattle.rt_store.specs.Trail.{lits}
use Rattle.rt_solver.specs.Propagating.{IsPropagated, IsWatched, IsQueued}
use Rattle.rt_solver.proofs.Queues.{propagated-same, propagated-trans, all-trans, before-none}
use Rattle.rt_solver.proofs.Shorts.{short-same}
use Rattle.rt_solver.proofs.Rounds.{done-of}
use Rattle.rt_solver.proofs.Settling.{begun-queue, undecided-grown}
use Rattle.rt_solver.proofs.Walks.{oldest-none}
use Rattle.rt_solver.proofs.base.Base.begin.Goals as goal

pub returns-in-Some-clause-steps : goal.returns-in-Some-clause-steps
returns-in-Some-clause-steps g c =
    let P : List (List Literal) → Type 0 = λ ls. IsPropagated ls c.args.trail.now.steps c.settle.new.trail.steps in
    subst P (ap (λ s. g.L.Adds.lines s.0) c.self.view_is) (propagated-same (g.L.Adds.lines c.self.inside.lines) c.self.inside.clauses.items c.args.trail.now.steps c.settle.new.trail.steps c.self.invariant.same (subst P c.as_slice.ensures.value c.settle.ensures.steps))

pub returns-in-Some-clause-before : goal.returns-in-Some-clause-before
returns-in-Some-clause-before g c = λ i b. before-none (λ set. IsWatched set set (line_at c.args.self.now.1 i)) c.settle.new.trail.steps (undecided-grown c.as_slice.result.now c.args.trail.now.steps c.settle.new.trail.steps c.settle.ensures.steps c.requires.undecided)

pub propagate-requires-clause-queued : goal.propagate-requires-clause-queued
propagate-requires-clause-queued g c =
    let P : List Literal → Type 0 = λ e. IsQueued c.self.inside.clauses.items e c.settle.new.trail.steps in
    let Q : List (List Literal) → Type 0 = λ ls. (i : ℕ) → i < length ls → IsWatched [] (lits c.settle.new.trail.steps) (line_at ls i) in
    subst P (sym (ap lits (oldest-none c.settle.new.trail.steps)))
    (begun-queue c.self.inside.clauses.items c.settle.new.trail.steps (undecided-grown c.as_slice.result.now c.args.trail.now.steps c.settle.new.trail.steps c.settle.ensures.steps c.requires.undecided)
    (subst Q c.as_slice.ensures.value c.in_default.ensures.settled))

pub invariant_of-self : goal.invariant_of-self
invariant_of-self g c = record {
  same = all-trans (g.L.Adds.lines c.self.inside.lines) c.self.inside.clauses.items c.propagate.new.clauses.items c.self.invariant.same c.propagate.ensures.same;
  listed = c.propagate.ensures.listed;
  brief = short-same c.self.inside.clauses.items c.propagate.new.clauses.items c.self.inside.short.items c.propagate.ensures.same c.self.invariant.listed.spread c.self.invariant.brief;
  wide = c.self.invariant.wide;
  few = c.self.invariant.few;
}

pub returns-clause-steps : goal.returns-clause-steps
returns-clause-steps g c =
    let P : List (List Literal) → Type 0 = λ ls. IsPropagated ls c.args.trail.now.steps c.settle.new.trail.steps in
    let R : List (List Literal) → Type 0 = λ ls. IsPropagated ls c.args.trail.now.steps c.propagate.new.trail.steps in
    subst R (ap (λ s. g.L.Adds.lines s.0) c.self.view_is)
    (propagated-same (g.L.Adds.lines c.self.inside.lines) c.self.inside.clauses.items c.args.trail.now.steps c.propagate.new.trail.steps c.self.invariant.same
    (propagated-trans c.self.inside.clauses.items c.args.trail.now.steps c.settle.new.trail.steps c.propagate.new.trail.steps (subst P c.as_slice.ensures.value c.settle.ensures.steps) c.propagate.ensures.steps))

pub returns-clause-done : goal.returns-clause-done
returns-clause-done g c =
    let s = all-trans (g.L.Adds.lines c.self.inside.lines) c.self.inside.clauses.items c.propagate.new.clauses.items c.self.invariant.same c.propagate.ensures.same in
    IfOk-weaker c.propagate.result _ _ (λ o. done-of (g.L.Adds.lines c.self.inside.lines) c.propagate.new.trail.steps c.propagate.new.watches.lists c.propagate.new.clauses.items o s c.propagate.ensures.listed) c.propagate.ensures.done
