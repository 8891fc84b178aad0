use Rattle.rt_store.proofs.Tables.{true-has, false-has}
use Rattle.rt_store.proofs.trail.Trail.is.Goals as goal

pub returns-in-True-clause-status : goal.returns-in-True-clause-status
returns-in-True-clause-status c = true-has c.args.self.now.steps c.args.lit c.in-True.ensures.is

pub returns-in-False-clause-status : goal.returns-in-False-clause-status
returns-in-False-clause-status c = false-has c.args.self.now.steps c.args.lit c.in-False.ensures.is
