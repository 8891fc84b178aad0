use Rattle.std.proofs.Common.{◌≡◌, Bool, List, [], ◌∷◌, ap, ◌∙◌}
use Rattle.std.proofs.lemmas.Result.{IfOk-weaker}
use Rattle.std.specs.List.{list_all, list_any}
use Rattle.rt_formula.specs.Shared.{val}
use Rattle.rt_formula.proofs.RunLemmas.{all-shared}
use Rattle.rt_formula.proofs.runs.joined.Goals as goal

pub returns-clause-means : goal.returns-clause-means
returns-clause-means c =
    let d = c.args.dag.now in
    let run = c.args.run.now in
    let tails = c.tails_into.new.tails in
    let tail = c.in_ok-tail.tail in
    IfOk-weaker c.all.result
    (λ n. (keep : List Bool) → val c.all.new.self keep n ≡ list_all (val c.any_plain.new.self keep) (c.args.first ∷ tail ∷ []))
    (λ n. (keep : List Bool) → val c.all.new.self keep n ≡ list_any (val d keep) run)
    (λ n h keep. h keep ∙ all-shared c.tails_into.ensures.grown c.any_plain.ensures.grown keep c.args.first tail run tails c.requires.first
    (c.in_ok-tail.ensures.means keep ∙ ap (list_any (val c.tails_into.new.dag keep)) c.as_slice.ensures)
    (c.in_ok-tails_into.ensures.means c.args.first c.requires.first c.requires.over keep))
    c.all.ensures.means
