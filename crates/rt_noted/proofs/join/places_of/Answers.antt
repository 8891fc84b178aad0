use Rattle.std.proofs.Common.{◌∙◌, ap, ap₂, map}
use Rattle.std.proofs.lemmas.Result.{IfOk-weaker}
use Rattle.rt_schema.specs.Given.{Rows}
use Rattle.rt_split.specs.Join.{matches}
use Rattle.rt_noted.proofs.join.places_of.Goals as goal

pub returns : goal.returns
returns c =
    let firsts = ap (map (λ r. r.now)) c.as_slice.ensures ∙ c.in_ok-firsts.ensures in
    let seconds = ap (map (λ r. r.now)) c.as_slice-2.ensures ∙ c.in_ok-seconds.ensures in
    IfOk-weaker c.matches.result _ _ (λ out h. h ∙ ap₂ (λ (xs ys : Rows). matches c.args.keys.now xs ys) firsts seconds) c.matches.ensures
