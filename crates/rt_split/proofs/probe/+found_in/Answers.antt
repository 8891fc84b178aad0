use Rattle.std.proofs.Common.{◌∙◌, ◌∷◌, List, Bor, drop, ap, sym, map}
use Rattle.std.proofs.lemmas.Result.{IfOk-weaker}
use Rattle.rt_value.specs.declared.value.Value.{Value}
use Rattle.rt_algebra.specs.Answer.{is_yes}
use Rattle.rt_algebra.specs.Expression.{Env}
use Rattle.rt_algebra.specs.declared.query.Pred.TheVariants as p
use Rattle.rt_algebra.proofs.Equations.{at_and}
use Rattle.rt_split.proofs.Probing.{one_met}
use Rattle.rt_split.proofs.probe.+found_in.Goals as goal

-- the rows around the innermost one
abbrev outer_of : List (Bor (List Value)) → Env
outer_of rows = drop 1 (map (λ r. r.now) rows)

pub found_in-returns-in-And : goal.found_in-returns-in-And
found_in-returns-in-And t c =
    IfOk-weaker c.found_in_one.result _ _
    (λ found h row f db. ap is_yes (at_and db (row ∷ outer_of c.args.env.now) c.as_slice.result.now (c.in-And.is ∙ ap p.And (sym c.as_slice.ensures))) ∙ h row f db) c.found_in_one.ensures

pub found_in_one-returns-in-Some : goal.found_in_one-returns-in-Some
found_in_one-returns-in-Some t c =
    one_met c.args.members.now c.loop-member.member-index c.member-item.result (outer_of c.args.env.now) c.loop-member-test.true c.member-item.is _ _ c.in-Some.is c.in_ok-found.ensures
