use Rattle.std.proofs.Common.{◌≡◌, ℕ, ◌+◌, ◌<◌, ap, sym, subst, ◌∙◌, length, get_or, rules, arith}
use Rattle.std.proofs.lemmas.List.Elements.{All-more}
use Rattle.rt_formula.specs.Runs.{StandsOver}
use Rattle.rt_formula.proofs.runs.length_over.Goals as goal

pub loop-node-preserved : goal.loop-node-preserved
loop-node-preserved c =
    let d = c.args.dag.now in
    let xs = c.args.of.now in
    let i = c.loop-node.length in
    let node = c.node-item.result in
    let place = c.loop-node.invariant.place in
    let within : i < length xs = (let t = c.loop-node-test.true in omega (arith, t, place)) in
    let same : c.in-Some.other ≡ c.args.first = search rules in
    let F : ℕ → Type 0 = λ f. StandsOver d f node in
    let N : ℕ → Type 0 = λ n. StandsOver d c.args.first n in
    let at : node ≡ get_or xs i node = c.node-item.is ∙ ap (λ k. get_or xs k node) (sym place) in
    record {
      place = ap (λ n. n + 1) place;
      over = All-more N xs i node within c.loop-node.invariant.over (subst N at (subst F same c.in-Some.ensures.over));
    }
