use Rattle.std.proofs.Common.{true, false}
use Rattle.rt_store.proofs.Tables.{true-has, false-has, status-unassigned}
use Rattle.rt_store.proofs.Tables.{false-none, false-some}
use Rattle.rt_store.proofs.trail.Trail.is_false.Goals as goal

pub returns-in-True : goal.returns-in-True
returns-in-True c = false-some c.args.self.now.vars c.args.self.now.steps c.args.lit true c.in-True.ensures.apart (true-has c.args.self.now.steps c.args.lit c.in-True.ensures.is)

pub returns-in-False : goal.returns-in-False
returns-in-False c = false-some c.args.self.now.vars c.args.self.now.steps c.args.lit false c.in-False.ensures.apart (false-has c.args.self.now.steps c.args.lit c.in-False.ensures.is)

pub returns-in-Unassigned : goal.returns-in-Unassigned
returns-in-Unassigned c = false-none c.args.self.now.steps c.args.lit (status-unassigned _ c.args.lit.on c.in-Unassigned.ensures.is)
