use Rattle.std.proofs.Common.{◌≡◌, ◌≤◌, ◌∙◌, ℕ, refl, sym, ap, subst, Option, IfSome, max, arith}
use Rattle.std.proofs.Math.Nat.{le-max_left}
use Rattle.rt_solver.proofs.Widths.{reach-least, assumed-below}
use Rattle.std.specs.Option.{option_to_list}
use Rattle.rt_solver.specs.declared.solver.Found.{Found}
use Rattle.rt_solver.specs.declared.search.Ending.{Ending}
use Rattle.rt_solver.specs.Answers.{IsFound, IsUnspent, IsReplied}
use Rattle.rt_solver.specs.Solving.{reach, variables, HasSearched, IsEnding, IsSettled, IsUnspentEnding}
use Rattle.rt_solver.proofs.Founds.{searched-none, begun-ready, modelled, refuted, spent-found}
use Rattle.rt_solver.proofs.solver.find.Goals.{in-Whole+in_ok-values-in-Whole, in-Refuted, in-Spent, in-Missed}
use Rattle.rt_solver.specs.Analysis.{IsRested}
use Rattle.rt_solver.specs.Fixed.{AreSmallest, IsInOrder}
use Rattle.rt_solver.proofs.Ordered.{greatest, if-fixed, read-true}
use Rattle.rt_solver.proofs.Seeks.{if-some, all-some, asked-bound}
use Rattle.rt_solver.proofs.Denials.{refuted-denied}
use Rattle.rt_solver.proofs.solver.find.Goals as goal

pub returns-then-vars-gt-MOST_SEARCHED-clause-searched : goal.returns-then-vars-gt-MOST_SEARCHED-clause-searched
returns-then-vars-gt-MOST_SEARCHED-clause-searched g c =
    searched-none _ _ _ _ c.args.assume.now c.args.question.now c.args.first _ refl refl

pub returns-in_err-trail-clause-searched : goal.returns-in_err-trail-clause-searched
returns-in_err-trail-clause-searched g c =
    searched-none _ _ _ _ c.args.assume.now c.args.question.now c.args.first _ refl refl

pub run-requires-clause-ready : goal.run-requires-clause-ready
run-requires-clause-ready g c = begun-ready (g.L.Adds.lines c.args.base.now.0) c.args.assume.now c.args.first _ _ c.in_ok-trail.trail c.vars.ensures.is c.variables_of-vars.ensures c.in_ok-trail.ensures

pub returns-clause-found : goal.returns-clause-found
returns-clause-found g c =
    let m : c.run.new.trail.vars ≡ variables (g.L.Adds.lines c.args.base.now.0) c.args.assume.now c.args.first =
    c.in_ok-run.ensures.vars ∙ c.in_ok-trail.ensures.vars ∙ c.variables_of-vars.ensures ∙ ap (λ n. reach (max c.args.first n) (option_to_list c.args.assume.now)) c.vars.ensures.is in
    let P : Option Found → Type 0 = λ o. IfSome o (λ f. IsFound (g.L.Adds.lines c.args.base.now.0) (g.L.Adds.lines c.run.new.base.0) c.args.assume.now c.args.first (variables (g.L.Adds.lines c.args.base.now.0) c.args.assume.now c.args.first) c.args.budget f) in
    let E : Ending → Type 0 = λ e. IsEnding (g.L.Adds.lines c.args.base.now.0) (g.L.Adds.lines c.run.new.base.0) c.args.assume.now c.args.first c.run.new.trail c.args.budget e in
    elim c.match-branch-5.branch [
      | in-Whole+in_ok-values-in-Whole w ↦ (let e = subst E w.in-Whole.is c.in_ok-run.ensures.ending in subst P (sym w.found-is) (
          modelled _ (g.L.Adds.lines c.run.new.base.0) c.args.assume.now _ c.run.new.trail _ refl m e.0 e.1 w.in_ok-values-in-Whole.ensures.len w.in_ok-values-in-Whole.ensures.reads))
      | in-Refuted w ↦ (let e = subst E w.in-Refuted.is c.in_ok-run.ensures.ending in subst P (sym w.found-is) (refuted _ e.0 (g.L.Adds.lines c.run.new.base.0) c.args.assume.now refl e.1))
      | in-Spent w ↦ (let e = subst E w.in-Spent.is c.in_ok-run.ensures.ending in subst P (sym w.found-is) (spent-found _ (g.L.Adds.lines c.args.base.now.0) _ (g.L.Adds.lines c.run.new.base.0) c.args.assume.now c.args.first _ c.run.new.trail.vars c.args.budget _ refl refl m e))
      | in-Missed w ↦ subst P (sym w.found-is) tt
    ]

pub returns-clause-replied : goal.returns-clause-replied
returns-clause-replied g c =
    let r = c.in_ok-run.ensures in
    let P : Option Found → Type 0 = λ o. IsReplied (g.L.Adds.lines c.run.new.base.0) c.args.assume.now c.args.question.now o in
    let S : Ending → Type 0 = λ e. IsSettled (g.L.Adds.lines c.run.new.base.0) c.args.assume.now c.args.question.now c.run.new.trail.steps e in
    let E : Ending → Type 0 = λ e. IsEnding (g.L.Adds.lines c.args.base.now.0) (g.L.Adds.lines c.run.new.base.0) c.args.assume.now c.args.first c.run.new.trail c.args.budget e in
    elim c.match-branch-5.branch [
      | in-Whole+in_ok-values-in-Whole w ↦ (let e = subst E w.in-Whole.is r.ending in subst P (sym w.found-is)
          (if-some _ _ c.args.question.now (λ a h. read-true c.run.new.trail.vars c.run.new.trail.steps _ e.0.apart w.in_ok-values-in-Whole.ensures.reads a h) (subst S w.in-Whole.is r.settled)))
      | in-Refuted w ↦ (let e = subst E w.in-Refuted.is r.ending in let d = refuted _ e.0 (g.L.Adds.lines c.run.new.base.0) c.args.assume.now refl e.1 in
          subst P (sym w.found-is) (all-some _ c.args.question.now (λ a. refuted-denied (g.L.Adds.lines c.run.new.base.0) c.args.assume.now a d)))
      | in-Spent w ↦ subst P (sym w.found-is) tt
      | in-Missed w ↦ subst P (sym w.found-is) (subst S w.in-Missed.is r.settled)
    ]

pub returns-clause-order : goal.returns-clause-order
returns-clause-order g c =
    let r = c.in_ok-run.ensures in
    let low : c.args.first ≤ c.run.new.trail.vars = (let a = reach-least (max c.args.first c.vars.result) (option_to_list c.args.assume.now) in let m = le-max_left c.args.first c.vars.result in let b = c.variables_of-vars.ensures in let d = c.in_ok-trail.ensures.vars in let e = r.vars in omega (arith, a, m, b, d, e)) in
    let P : Option Found → Type 0 = λ o. IfSome o (λ f. IsInOrder c.args.order (g.L.Adds.lines c.args.base.now.0) c.args.assume.now c.args.first f) in
    let E : Ending → Type 0 = λ e. IsEnding (g.L.Adds.lines c.args.base.now.0) (g.L.Adds.lines c.run.new.base.0) c.args.assume.now c.args.first c.run.new.trail c.args.budget e in
    elim c.match-branch-5.branch [
      | in-Whole+in_ok-values-in-Whole w ↦ (let e = subst E w.in-Whole.is r.ending in subst P (sym w.found-is)
          (if-fixed c.args.order (AreSmallest c.run.new.trail.steps) _
          (λ o. greatest (g.L.Adds.lines c.args.base.now.0) (g.L.Adds.lines c.run.new.base.0) c.args.assume.now c.args.first c.run.new.trail.vars c.run.new.trail.steps _ low e.0.apart e.0.founded o w.in_ok-values-in-Whole.ensures.reads r.searched.sound) r.smallest))
      | in-Refuted w ↦ subst P (sym w.found-is) tt
      | in-Spent w ↦ subst P (sym w.found-is) tt
      | in-Missed w ↦ subst P (sym w.found-is) tt
    ]

pub returns-in_err-begin-clause-searched : goal.returns-in_err-begin-clause-searched
returns-in_err-begin-clause-searched g c =
    searched-none _ _ _ _ c.args.assume.now c.args.question.now c.args.first _ refl refl

pub run-requires-clause-offered : goal.run-requires-clause-offered
run-requires-clause-offered g c = c.in_ok-begin.ensures.offered c.in_ok-trail.trail.steps

pub returns-clause-unspent : goal.returns-clause-unspent
returns-clause-unspent g c =
    let P : Option Found → Type 0 = λ o. IfSome o (λ f. IsUnspent (g.L.Adds.lines c.args.base.now.0) (g.L.Adds.lines c.run.new.base.0) c.args.budget f) in
    let E : Ending → Type 0 = λ e. IsUnspentEnding (g.L.Adds.lines c.args.base.now.0) (g.L.Adds.lines c.run.new.base.0) c.args.budget e in
    elim c.match-branch-5.branch [
      | in-Whole+in_ok-values-in-Whole w ↦ subst P (sym w.found-is) (subst E w.in-Whole.is c.in_ok-run.ensures.unspent)
      | in-Refuted w ↦ subst P (sym w.found-is) (subst E w.in-Refuted.is c.in_ok-run.ensures.unspent)
      | in-Spent w ↦ subst P (sym w.found-is) tt
      | in-Missed w ↦ subst P (sym w.found-is) tt
    ]

pub returns-in_err-run-clause-searched : goal.returns-in_err-run-clause-searched
returns-in_err-run-clause-searched g c =
    let H : ℕ → Type 0 = λ n. HasSearched (g.L.Adds.lines c.args.base.now.0) (g.L.Adds.lines c.run.new.base.0) (g.L.Adds.derived c.args.base.now.0) (g.L.Adds.derived c.run.new.base.0) c.args.assume.now c.args.question.now c.args.first n in
    subst H (c.in_ok-trail.ensures.vars ∙ c.variables_of-vars.ensures ∙ ap (λ n. reach (max c.args.first n) (option_to_list c.args.assume.now)) c.vars.ensures.is) c.in_err-run.ensures.searched

pub returns-in_err-values-in-Whole-clause-searched : goal.returns-in_err-values-in-Whole-clause-searched
returns-in_err-values-in-Whole-clause-searched g c =
    let H : ℕ → Type 0 = λ n. HasSearched (g.L.Adds.lines c.args.base.now.0) (g.L.Adds.lines c.run.new.base.0) (g.L.Adds.derived c.args.base.now.0) (g.L.Adds.derived c.run.new.base.0) c.args.assume.now c.args.question.now c.args.first n in
    subst H (c.in_ok-trail.ensures.vars ∙ c.variables_of-vars.ensures ∙ ap (λ n. reach (max c.args.first n) (option_to_list c.args.assume.now)) c.vars.ensures.is) c.in_ok-run.ensures.searched

pub returns-clause-searched : goal.returns-clause-searched
returns-clause-searched g c =
    let H : ℕ → Type 0 = λ n. HasSearched (g.L.Adds.lines c.args.base.now.0) (g.L.Adds.lines c.run.new.base.0) (g.L.Adds.derived c.args.base.now.0) (g.L.Adds.derived c.run.new.base.0) c.args.assume.now c.args.question.now c.args.first n in
    subst H (c.in_ok-trail.ensures.vars ∙ c.variables_of-vars.ensures ∙ ap (λ n. reach (max c.args.first n) (option_to_list c.args.assume.now)) c.vars.ensures.is) c.in_ok-run.ensures.searched

pub begun-requires : goal.begun-requires
begun-requires g c = assumed-below (max c.args.first c.vars.result) _ c.args.assume.now c.variables_of-vars.ensures

pub run-requires-clause-first : goal.run-requires-clause-first
run-requires-clause-first g c =
    let a = reach-least (max c.args.first c.vars.result) (option_to_list c.args.assume.now) in
    let m = le-max_left c.args.first c.vars.result in
    let b = c.variables_of-vars.ensures in
    let d = c.in_ok-trail.ensures.vars in
    omega (arith, a, m, b, d)

pub run-requires-clause-undecided : goal.run-requires-clause-undecided
run-requires-clause-undecided g c = c.in_ok-trail.ensures.undecided

pub values-requires : goal.values-requires
values-requires g c =
    let E : Ending → Type 0 = λ e. IsEnding (g.L.Adds.lines c.args.base.now.0) (g.L.Adds.lines c.run.new.base.0) c.args.assume.now c.args.first c.run.new.trail c.args.budget e in
    (subst E c.in-Whole.is c.in_ok-run.ensures.ending).1.decided

pub run-requires-clause-asked : goal.run-requires-clause-asked
run-requires-clause-asked g c =
    let q = c.in_ok-begin.ensures.bound in
    asked-bound c.args.order c.args.question.now c.args.first _ (λ f. q ∙ c.bound.ensures.free f) c.requires.free c.requires.asked

pub run-requires-clause-rested : goal.run-requires-clause-rested
run-requires-clause-rested g c = let W : ℕ → Type 0 = λ n. IsRested n c.in_ok-walk.walk in subst W (sym c.in_ok-trail.ensures.vars) c.in_ok-walk.ensures

pub returns-in_err-walk-clause-searched : goal.returns-in_err-walk-clause-searched
returns-in_err-walk-clause-searched g c =
    searched-none _ _ _ _ c.args.assume.now c.args.question.now c.args.first _ refl refl
