use Rattle.std.proofs.Common.{◌∙◌, ap, List, Bool, arith}
use Rattle.std.proofs.lemmas.List.{take_all}
use Rattle.std.specs.List.{filter}
use mathlib.Core.Path.{fun_ext}
use Rattle.rt_value.specs.declared.value.Value.{Value}
use Rattle.rt_algebra.specs.Answer.{has_row}
use Rattle.std.proofs.lemmas.Grind.{common_steps}
use Rattle.rt_eval.proofs.lists.common.Goals as goal

pub returns : goal.returns
returns c =
    c.loop-row.invariant ∙ ap (filter (has_row c.in_ok-set.set)) (take_all c.loop-row.row-index c.args.rows.now c.loop-row-test.false)
    ∙ ap (λ (f : List Value → Bool). filter f c.args.rows.now) (fun_ext c.in_ok-set.ensures.members)

pub loop-row-preserved : goal.loop-row-preserved
loop-row-preserved c = grind (arith, common_steps)
