use Rattle.std.proofs.Common.{◌≡◌, ap, ◌∙◌, sym, subst, arith, length, ◌<◌, ℕ, ◌+◌, take, refl, List, Bool, true, false, not}
use Rattle.std.specs.Bool.{beq}
use Rattle.std.specs.List.{All as Each}
use Rattle.rt_formula.specs.Shared.{val}
use Rattle.rt_formula.specs.Gathering.{gate_value}
use Rattle.rt_formula.proofs.Gates.{keeps-neutral, keeps-put, each-put}
use Rattle.rt_formula.proofs.dag.Dag.sift.Goals as goal
use Rattle.rt_formula.proofs.dag.Dag.sift.Goals.{in-Some+else-value-deciding, in-None+in_ok-put-in-None}

differs : (a b : Bool) → beq a b ≡ false → a ≡ not b
differs true true h = cc
differs true false h = refl
differs false true h = refl
differs false false h = cc

pub loop-a-preserved : goal.loop-a-preserved
loop-a-preserved c =
    let d = c.args.self.now in
    let xs = c.args.of.now in
    let i = c.loop-a.a-index in
    let a = c.a-item.result in
    let E : List ℕ → Type 0 = λ ks. Each (λ k. k < length d.entries) ks in
    let S : List ℕ → Type 0 = λ ks. (keep : List Bool) → gate_value c.args.gate (val d keep) ks ≡ gate_value c.args.gate (val d keep) (take (i + 1) xs) in
    elim c.match-constant.branch [
      | in-Some+else-value-deciding w ↦ record {
        below = subst E (sym w.kept-is) c.loop-a.invariant.below;
        same = subst S (sym w.kept-is) (λ keep. keeps-neutral c.args.gate (val d keep) c.loop-a.kept xs i a c.loop-a-test.true c.a-item.is (w.in-Some.ensures keep ∙ differs _ _ w.if-value-deciding.false ∙ ap not w.deciding.ensures) (c.loop-a.invariant.same keep));
      }
      | in-None+in_ok-put-in-None w ↦ (let q = w.kept-is ∙ w.in_ok-put-in-None.ensures in record {
        below = subst E (sym q) (each-put (length d.entries) c.loop-a.kept a c.loop-a.invariant.below (let g = c.requires.nodes i a c.loop-a-test.true in let e = c.a-item.is in omega (arith, g, e)));
        same = subst S (sym q) (λ keep. keeps-put c.args.gate (val d keep) c.loop-a.kept xs i a c.loop-a-test.true c.a-item.is (c.loop-a.invariant.same keep));
      })
    ]
