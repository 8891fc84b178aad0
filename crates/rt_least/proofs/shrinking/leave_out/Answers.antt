use Rattle.rt_least.proofs.Leaving.{length-again, sought-again}
use Rattle.rt_least.proofs.shrinking.leave_out.Goals as goal

pub returns-then-not-branch-clause-long : goal.returns-then-not-branch-clause-long
returns-then-not-branch-clause-long c = length-again c.args.best.now c.set.new.self c.set-then-not-branch.new.self c.args.place c.requires.kept c.set.ensures c.set-then-not-branch.ensures

pub returns-then-not-branch-clause-sought : goal.returns-then-not-branch-clause-sought
returns-then-not-branch-clause-sought c =
    sought-again c.args.dag.now c.args.goal c.args.cone.now c.args.best.now c.set.new.self c.set-then-not-branch.new.self c.args.place c.requires.best c.requires.kept c.set.ensures c.set-then-not-branch.ensures
