use Rattle.std.proofs.Common.{◌∙◌, ◌∷◌, [], arith, sym}
use Rattle.std.proofs.lemmas.Grind.{common_steps}
use Rattle.rt_eval.proofs.Joining.{without_rows}
use Rattle.rt_eval.proofs.join.product.Goals as goal

pub returns-then-lacks_rows : goal.returns-then-lacks_rows
returns-then-lacks_rows c = c.new.ensures ∙ sym (without_rows ([] ∷ []) c.args.members.now (sym c.lacks_rows.ensures ∙ c.if-lacks_rows.true))

pub loop-rows-preserved : goal.loop-rows-preserved
loop-rows-preserved c = grind (arith, common_steps)
