use Rattle.std.proofs.Common.{◌∙◌, subst, List, Bool, get_or}
use Rattle.rt_clause.specs.Literal.{Literal}
use Rattle.rt_store.specs.Trail.{lits}
use Rattle.rt_solver.specs.Looking.{IsBroken}
use Rattle.rt_solver.specs.Propagating.{IsShortAs}
use Rattle.rt_solver.proofs.Visiting.{line-read}
use Rattle.rt_solver.proofs.Settling.{settled-grown, settled-more, settled-all, settled-below}
use Rattle.rt_solver.proofs.propagate.settle.Goals as goal

pub is_broken-requires-clause-below : goal.is_broken-requires-clause-below
is_broken-requires-clause-below c =
    let n = get_or c.args.short.now c.loop-n.n-index 0 in
    let b = c.requires.short.within c.loop-n.n-index 0 c.loop-n-test.true in
    settled-below c.args.trail.now.vars c.loop-n.trail.vars c.args.clauses.now n c.index-clauses-number.result b (line-read c.args.clauses.now n c.index-clauses-number.result b c.index-clauses-number.is) c.loop-n.invariant.vars c.requires.below

pub returns-then-is_broken-clause-steps : goal.returns-then-is_broken-clause-steps
returns-then-is_broken-clause-steps c =
    let n = get_or c.args.short.now c.loop-n.n-index 0 in
    let b = c.requires.short.within c.loop-n.n-index 0 c.loop-n-test.true in
    settled-grown c.args.clauses.now c.index-clauses-number.result c.args.trail.now.steps c.loop-n.trail.steps c.is_broken.new.trail.steps n b
    (line-read c.args.clauses.now n c.index-clauses-number.result b c.index-clauses-number.is) c.loop-n.invariant.steps c.is_broken.ensures.taken

pub returns-then-is_broken-clause-settled : goal.returns-then-is_broken-clause-settled
returns-then-is_broken-clause-settled c =
    let n = get_or c.args.short.now c.loop-n.n-index 0 in
    let b = c.requires.short.within c.loop-n.n-index 0 c.loop-n-test.true in
    let B : Bool → Type 0 = λ b. IsShortAs b c.index-clauses-number.result c.is_broken.new.trail.steps in
    let P : List Literal → Type 0 = λ d. IsBroken (lits c.is_broken.new.trail.steps) d in
    (b, subst P (line-read c.args.clauses.now n c.index-clauses-number.result b c.index-clauses-number.is) (subst B c.if-is_broken.true c.is_broken.ensures.short))

pub loop-n-preserved : goal.loop-n-preserved
loop-n-preserved c =
    let n = get_or c.args.short.now c.loop-n.n-index 0 in
    let b = c.requires.short.within c.loop-n.n-index 0 c.loop-n-test.true in
    let line = line-read c.args.clauses.now n c.index-clauses-number.result b c.index-clauses-number.is in
    let B : Bool → Type 0 = λ b. IsShortAs b c.index-clauses-number.result c.is_broken.new.trail.steps in
    record {
      vars = c.is_broken.ensures.vars ∙ c.loop-n.invariant.vars;
      apart = c.is_broken.ensures.apart;
      steps = settled-grown c.args.clauses.now c.index-clauses-number.result c.args.trail.now.steps c.loop-n.trail.steps c.is_broken.new.trail.steps n b line c.loop-n.invariant.steps c.is_broken.ensures.taken;
      settled = settled-more c.args.clauses.now c.args.short.now c.index-clauses-number.result c.loop-n.trail.steps c.is_broken.new.trail.steps c.loop-n.n-index line c.is_broken.ensures.taken (subst B c.if-is_broken.false c.is_broken.ensures.short) c.loop-n.invariant.settled;
    }

pub returns-clause-settled : goal.returns-clause-settled
returns-clause-settled c = settled-all c.args.clauses.now c.args.short.now c.loop-n.trail.steps c.loop-n.n-index c.requires.short c.loop-n-test.false c.loop-n.invariant.settled
