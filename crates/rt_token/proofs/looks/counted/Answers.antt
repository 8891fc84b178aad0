use Rattle.std.proofs.Common.{arith, sym, ap, ◌∙◌, ℕ}
use Rattle.rt_token.specs.Terminals.{Kinds}
use Rattle.rt_token.proofs.FrontLemmas.{counted-some, counted-stop}
use Rattle.rt_token.proofs.looks.counted.Goals as goal

pub run-preserved : goal.run-preserved
run-preserved c =
    let more = counted-some c.args.fixed c.run.rest.now c.in-Some.next.now (sym c.in-Some.ensures) in
    let count = ap (λ (q : ℕ × Kinds). q.0) more.0 in
    let rest = ap (λ (q : ℕ × Kinds). q.1) more.0 in
    let invariant = c.run.invariant in
    record { count = omega (arith, count, invariant.count); rest = sym rest ∙ invariant.rest; within = omega (arith, more.1, invariant.within) }

pub returns-clause-count : goal.returns-clause-count
returns-clause-count c = let none = ap (λ (q : ℕ × Kinds). q.0) (counted-stop c.args.fixed c.run.rest.now (sym c.in_default.ensures)) in omega (arith, none, c.run.invariant.count)

pub returns-clause-rest : goal.returns-clause-rest
returns-clause-rest c = let none = ap (λ (q : ℕ × Kinds). q.1) (counted-stop c.args.fixed c.run.rest.now (sym c.in_default.ensures)) in sym none ∙ c.run.invariant.rest

pub run-smaller : goal.run-smaller
run-smaller c = let more = counted-some c.args.fixed c.run.rest.now c.in-Some.next.now (sym c.in-Some.ensures) in omega (arith, more.1)
