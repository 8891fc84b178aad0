use Rattle.std.proofs.Common.{◌∙◌, ap, map, sym, List, ℕ}
use Rattle.std.proofs.lemmas.Result.{IfOk-weaker}
use Rattle.rt_noted.specs.Narrowed.{are_long}
use Rattle.rt_noted.proofs.Narrowing.{joined_narrowed, whole_narrowed}
use Rattle.rt_noted.proofs.join.narrowed.Goals as goal

pub returns-then-are_long : goal.returns-then-are_long
returns-then-are_long c =
    IfOk-weaker c.chosen.result _ _
    (λ out h. joined_narrowed c.args.condition.now (map (λ r. r.now) c.args.env.now) c.args.members.now c.as_slice-then-are_long.result.now c.in_ok-parts.parts out c.in_ok-parts.ensures.joins
    (ap (λ (ws : List ℕ). are_long ws c.args.members.now) (c.as_slice-then-are_long.ensures ∙ sym c.as_slice.ensures) ∙ sym c.are_long.ensures ∙ c.if-are_long.true)
    h) c.chosen.ensures

pub returns-then-lacks_rows : goal.returns-then-lacks_rows
returns-then-lacks_rows c = IfOk-weaker c.product.result _ _ (λ out h. whole_narrowed c.args.condition.now (map (λ r. r.now) c.args.env.now) c.args.members.now out h) c.product.ensures

pub returns : goal.returns
returns c = IfOk-weaker c.product-else-are_long.result _ _ (λ out h. whole_narrowed c.args.condition.now (map (λ r. r.now) c.args.env.now) c.args.members.now out h) c.product-else-are_long.ensures
