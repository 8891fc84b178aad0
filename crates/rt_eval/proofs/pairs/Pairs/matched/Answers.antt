use Rattle.std.proofs.Common.{◌∙◌, ap, ap₂, List, ℕ}
use Rattle.rt_schema.specs.Given.{Rows}
use Rattle.rt_split.specs.Join.{matches}
use Rattle.rt_eval.specs.Pairs.{all_joined}
use Rattle.rt_eval.proofs.Pairing.{matched_pairs}
use Rattle.rt_eval.proofs.pairs.Pairs.matched.Goals as goal

pub returns : goal.returns
returns c =
    ap (λ (places : List (List ℕ)). all_joined c.args.befores c.args.rows places)
    (c.in_ok-places.ensures ∙ ap₂ (λ (xs ys : Rows). matches c.args.keys.now xs ys) c.as_slice.ensures c.as_slice-2.ensures)
    ∙ matched_pairs c.args.keys.now c.args.befores c.args.rows
