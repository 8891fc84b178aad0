use Rattle.std.proofs.Common.{◌∙◌, arith, sym}
use Rattle.std.proofs.lemmas.Grind.{common_steps}
use Rattle.rt_noted.specs.Joints.{unit_joints}
use Rattle.rt_noted.proofs.Narrowing.{without_rows}
use Rattle.rt_noted.proofs.joint.product.Goals as goal

pub returns-then-lacks_rows : goal.returns-then-lacks_rows
returns-then-lacks_rows c = c.new.ensures ∙ sym (without_rows unit_joints c.args.members.now (sym c.lacks_rows.ensures ∙ c.if-lacks_rows.true))

pub loop-rows-preserved : goal.loop-rows-preserved
loop-rows-preserved c = grind (arith, common_steps)
