use Rattle.std.proofs.Common.{true, false}
use Rattle.rt_store.proofs.Tables.{true-has, false-has, status-unassigned}
use Rattle.rt_store.proofs.Tables.{true-none, true-some}
use Rattle.rt_store.proofs.trail.Trail.is_true.Goals as goal

pub returns-in-True-clause-is : goal.returns-in-True-clause-is
returns-in-True-clause-is c = true-some c.args.self.now.vars c.args.self.now.steps c.args.lit true c.in-True.ensures.apart (true-has c.args.self.now.steps c.args.lit c.in-True.ensures.is)

pub returns-in-False-clause-is : goal.returns-in-False-clause-is
returns-in-False-clause-is c = true-some c.args.self.now.vars c.args.self.now.steps c.args.lit false c.in-False.ensures.apart (false-has c.args.self.now.steps c.args.lit c.in-False.ensures.is)

pub returns-in-Unassigned-clause-is : goal.returns-in-Unassigned-clause-is
returns-in-Unassigned-clause-is c = true-none c.args.self.now.steps c.args.lit (status-unassigned _ c.args.lit.on c.in-Unassigned.ensures.is)
