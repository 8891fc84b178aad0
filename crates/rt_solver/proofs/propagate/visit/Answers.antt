use Rattle.std.proofs.Common.{◌≡◌, ◌+◌, ◌-◌, ◌/◌, ◌%◌, ◌∙◌, List, refl, sym, subst, arith}
use Rattle.std.proofs.lemmas.List.{get_or_default}
use Rattle.rt_clause.specs.Literal.{Literal}
use Rattle.rt_clause.specs.Lists.{line_at}
use Rattle.rt_store.specs.declared.trail.Step.{Step}
use Rattle.rt_solver.specs.declared.turn.Turn.TheVariants.{Met, Stays, Moves, Broken}
use Rattle.rt_store.specs.Watching.{Listed}
use Rattle.rt_solver.specs.Turning.{IsTurned, IsTurn, IsUnwatched}
use Rattle.rt_solver.specs.Propagating.{AreWatchedBefore}
use Rattle.rt_solver.proofs.Visiting.{turned, met-at, stays-at, small-at, unwatched-at, moves-at, begin-at, end-at, none-at}
use Rattle.rt_solver.proofs.propagate.visit.Goals as goal

pub returns-then-len-home-clause-visited : goal.returns-then-len-home-clause-visited
returns-then-len-home-clause-visited c =
    none-at c.args.clauses.now.items c.args.watches.now.lists c.index-home.result c.args.done c.at-step.result c.negated.result c.args.trail.now.steps c.at-step.ensures.step c.negated.ensures c.index-home.ensures.is c.requires.listed c.requires.queued
    (let t = c.if-len-home.true in let l = c.len.ensures in omega (arith, t, l))

pub watches-init : goal.watches-init
watches-init c = record {
  visit = begin-at c.args.clauses.now.items c.args.watches.now.lists c.index-home.result c.args.done c.count-left.result c.at-step.result c.negated.result c.args.trail.now.steps c.count-left.ensures c.at-step.ensures.step c.negated.ensures c.index-home.ensures.is c.requires.listed c.requires.queued;
  apart = c.at-step.ensures.apart;
  vars = refl;
  home = (let t = c.if-len-home.false in let l = c.len.ensures in omega (arith, t, l));
}

pub examine-requires-clause-entry : goal.examine-requires-clause-entry
examine-requires-clause-entry c =
    let a : c.watches.left ≡ (c.watches.left - 1) + 1 = (let t = c.watches-test.true in omega (arith, t)) in
    let v = c.watches.invariant.visit in
    let P : List (List Literal) → Type 0 = λ ls. IsTurned ls c.watches.trail.steps c.at-entry.result in
    subst P (sym c.as_slice.ensures.value) (turned _ _ _ _ c.watches.left (c.watches.left - 1) _ _ _ c.at-entry.result v a c.at-entry.ensures)

pub watches-preserved-in-Met : goal.watches-preserved-in-Met
watches-preserved-in-Met c =
    let a : c.watches.left ≡ (c.watches.left - 1) + 1 = (let t = c.watches-test.true in omega (arith, t)) in
    let e = c.at-entry.result in
    let T : List (List Literal) → Type 0 = λ ls. IsTurn (line_at ls (e.watch / 2)) c.watches.trail.steps c.examine.new.trail.steps (e.watch % 2) (e.watch / 2) Met in
    let t = subst T c.as_slice.ensures.value c.in-Met.ensures.turn in
    record {
      visit = met-at _ _ _ _ c.watches.left (c.watches.left - 1) _ _ _ c.examine.new.trail.steps e t.0 c.watches.invariant.visit a c.at-entry.ensures t.1;
      apart = c.in-Met.ensures.apart;
      vars = c.in-Met.ensures.vars ∙ c.watches.invariant.vars;
      home = c.watches.invariant.home;
    }

pub note-requires-clause-other : goal.note-requires-clause-other
note-requires-clause-other c =
    let a : c.watches.left ≡ (c.watches.left - 1) + 1 = (let t = c.watches-test.true in omega (arith, t)) in
    let e = c.at-entry.result in
    let T : List (List Literal) → Type 0 = λ ls. IsTurn (line_at ls (e.watch / 2)) c.watches.trail.steps c.examine.new.trail.steps (e.watch % 2) (e.watch / 2) (Stays c.in-Stays.other) in
    small-at _ _ _ _ c.watches.left (c.watches.left - 1) _ _ _ c.examine.new.trail.steps e c.in-Stays.other c.watches.invariant.visit a c.at-entry.ensures (subst T c.as_slice.ensures.value c.in-Stays.ensures.turn)

pub watches-preserved-in-Stays : goal.watches-preserved-in-Stays
watches-preserved-in-Stays c =
    let a : c.watches.left ≡ (c.watches.left - 1) + 1 = (let t = c.watches-test.true in omega (arith, t)) in
    let e = c.at-entry.result in
    let T : List (List Literal) → Type 0 = λ ls. IsTurn (line_at ls (e.watch / 2)) c.watches.trail.steps c.examine.new.trail.steps (e.watch % 2) (e.watch / 2) (Stays c.in-Stays.other) in
    let t = subst T c.as_slice.ensures.value c.in-Stays.ensures.turn in
    record {
      visit = stays-at _ _ c.watches.watches c.note.new.self _ c.watches.left (c.watches.left - 1) _ _ _ c.examine.new.trail.steps e c.in-Stays.other c.watches.invariant.visit a c.at-entry.ensures t (c.note.ensures.list e c.at-entry.ensures) c.note.ensures.edited;
      apart = c.in-Stays.ensures.apart;
      vars = c.in-Stays.ensures.vars ∙ c.watches.invariant.vars;
      home = (let h = c.watches.invariant.home in let l = c.note.ensures.edited.len in omega (arith, h, l));
    }

pub shift-requires-clause-unwatched : goal.shift-requires-clause-unwatched
shift-requires-clause-unwatched c f r =
    let a : c.watches.left ≡ (c.watches.left - 1) + 1 = (let t = c.watches-test.true in omega (arith, t)) in
    let e = c.at-entry.result in
    let T : List (List Literal) → Type 0 = λ ls. IsTurn (line_at ls (e.watch / 2)) c.watches.trail.steps c.examine.new.trail.steps (e.watch % 2) (e.watch / 2) (Moves c.in-Moves.ended) in
    let t = subst T c.as_slice.ensures.value c.in-Moves.ensures.turn in
    let U : Listed → Type 0 = λ x. IsUnwatched (line_at c.watches.clauses.items (x.watch / 2)) c.in-Moves.ended in
    subst U (c.at-entry.ensures ∙ get_or_default _ (c.watches.left - 1) e f (let l = c.watches.invariant.visit.low in omega (arith, a, l)) ∙ sym r)
    (unwatched-at c.watches.clauses.items c.watches.trail.steps e c.in-Moves.ended (turned _ _ _ _ c.watches.left (c.watches.left - 1) _ _ _ e c.watches.invariant.visit a c.at-entry.ensures) t.0)

pub watches-preserved : goal.watches-preserved
watches-preserved c =
    let a : c.watches.left ≡ (c.watches.left - 1) + 1 = (let t = c.watches-test.true in omega (arith, t)) in
    let e = c.at-entry.result in
    let T : List (List Literal) → Type 0 = λ ls. IsTurn (line_at ls (e.watch / 2)) c.watches.trail.steps c.examine.new.trail.steps (e.watch % 2) (e.watch / 2) (Moves c.in-Moves.ended) in
    let t = subst T c.as_slice.ensures.value c.in-Moves.ensures.turn in
    let s = c.in_ok-shift-in-Moves.ensures.ok in
    record {
      visit = moves-at _ _ _ _ _ _ c.watches.left (c.watches.left - 1) c.in-Moves.ended _ _ _ c.examine.new.trail.steps e c.watches.invariant.visit a c.at-entry.ensures t.0 t.1 s;
      apart = c.in-Moves.ensures.apart;
      vars = c.in-Moves.ensures.vars ∙ c.watches.invariant.vars;
      home = (let h = c.watches.invariant.home in let l = s.len in omega (arith, h, l));
    }

pub returns-in_err-shift-in-Moves-clause-before : goal.returns-in_err-shift-in-Moves-clause-before
returns-in_err-shift-in-Moves-clause-before c =
    let a : c.watches.left ≡ (c.watches.left - 1) + 1 = (let t = c.watches-test.true in omega (arith, t)) in
    let e = c.at-entry.result in
    let T : List (List Literal) → Type 0 = λ ls. IsTurn (line_at ls (e.watch / 2)) c.watches.trail.steps c.examine.new.trail.steps (e.watch % 2) (e.watch / 2) (Moves c.in-Moves.ended) in
    let t = subst T c.as_slice.ensures.value c.in-Moves.ensures.turn in
    let B : List (List Literal) → Type 0 = λ ls. AreWatchedBefore ls c.examine.new.trail.steps in
    let S : List Step → Type 0 = AreWatchedBefore c.watches.clauses.items in
    subst B (sym c.in_err-shift-in-Moves.ensures.err_clauses) (subst S (sym t.1) c.watches.invariant.visit.before)

pub returns-in-Broken-clause-before : goal.returns-in-Broken-clause-before
returns-in-Broken-clause-before c =
    let a : c.watches.left ≡ (c.watches.left - 1) + 1 = (let t = c.watches-test.true in omega (arith, t)) in
    let e = c.at-entry.result in
    let T : List (List Literal) → Type 0 = λ ls. IsTurn (line_at ls (e.watch / 2)) c.watches.trail.steps c.examine.new.trail.steps (e.watch % 2) (e.watch / 2) Broken in
    let t = subst T c.as_slice.ensures.value c.in-Broken.ensures.turn in
    let S : List Step → Type 0 = AreWatchedBefore c.watches.clauses.items in
    subst S (sym t.1) c.watches.invariant.visit.before

pub returns-clause-visited : goal.returns-clause-visited
returns-clause-visited c =
    end-at _ _ _ _ c.args.done c.watches.left c.at-step.result c.negated.result _ _ c.at-step.ensures.step c.requires.place c.negated.ensures c.index-home.ensures.is c.watches.invariant.visit
    (let t = c.watches-test.false in omega (arith, t))
