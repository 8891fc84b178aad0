use Rattle.std.proofs.Common.{◌∙◌, List, Bor, ap, sym, map}
use Rattle.std.proofs.lemmas.Result.{IfOk-weaker}
use Rattle.rt_value.specs.declared.value.Value.{Value}
use Rattle.rt_algebra.specs.Answer.{is_yes}
use Rattle.rt_algebra.specs.Expression.{Env}
use Rattle.rt_algebra.specs.declared.query.Pred.TheVariants as p
use Rattle.rt_algebra.proofs.Equations.{at_and}
use Rattle.rt_split.proofs.Refusing.{one_untrue}
use Rattle.rt_split.proofs.refused.+refused.Goals as goal

abbrev scope_of : List (Bor (List Value)) → Env
scope_of rows = map (λ r. r.now) rows

pub is_refused-returns-in-And : goal.is_refused-returns-in-And
is_refused-returns-in-And t c =
    IfOk-weaker c.one_refused.result _ _
    (λ b h true db. ap is_yes (at_and db (scope_of c.args.env.now) c.as_slice.result.now (c.in-And.is ∙ ap p.And (sym c.as_slice.ensures))) ∙ h true db) c.one_refused.ensures

pub one_refused-returns-then-branch : goal.one_refused-returns-then-branch
one_refused-returns-then-branch t c true db =
    one_untrue db (scope_of c.args.env.now) c.args.members.now c.loop-member.member-index c.member-item.result c.loop-member-test.true c.member-item.is (c.in_ok-is_refused.ensures c.if-branch.true db)
