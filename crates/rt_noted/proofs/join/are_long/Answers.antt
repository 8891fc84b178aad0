use Rattle.std.proofs.Common.{arith}
use Rattle.std.proofs.lemmas.Grind.{common_steps}
use Rattle.rt_noted.proofs.Narrowing.{uneven}
use Rattle.rt_noted.proofs.join.are_long.Goals as goal

pub returns-then-widths-members : goal.returns-then-widths-members
returns-then-widths-members c = uneven c.args.widths.now c.args.members.now c.if-widths-members.true

pub loop-at-preserved : goal.loop-at-preserved
loop-at-preserved c = grind (arith, common_steps)
