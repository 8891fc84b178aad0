use Rattle.std.proofs.Common.{◌∙◌, ap, sym, List, ℕ}
use Rattle.rt_algebra.specs.Expression.{wrapped}
use Rattle.rt_split.specs.Join.{are_wide}
use Rattle.rt_eval.proofs.narrow.parts_of.Goals as goal

pub returns-clause-enough : goal.returns-clause-enough
returns-clause-enough c =
    let wide = ap (λ (ws : List ℕ). are_wide ws c.args.members.now) (c.as_slice-2.ensures ∙ sym c.as_slice.ensures) ∙ sym c.are_wide.ensures ∙ c.if-not-are_wide.false in
    λ env db. c.in_ok-parts.ensures.joins wrapped db env c.args.members.now wide

pub returns-clause-chosen : goal.returns-clause-chosen
returns-clause-chosen c =
    let wide = ap (λ (ws : List ℕ). are_wide ws c.args.members.now) (c.as_slice-2.ensures ∙ sym c.as_slice.ensures) ∙ sym c.are_wide.ensures ∙ c.if-not-are_wide.false in
    λ none env db. c.in_ok-parts.ensures.joins_whole wrapped db env c.args.members.now wide none
