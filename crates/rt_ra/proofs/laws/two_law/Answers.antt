use Rattle.rt_ra.proofs.Meant.{two-ok}
use Rattle.rt_ra.proofs.Typings as typing
use Rattle.rt_ra.proofs.laws.two_law.Goals as goal

pub returns-clause-keeps : goal.returns-clause-keeps
returns-clause-keeps c = λ db m n h k. two-ok db c.args.op c.args.left.now c.args.right.now m n h k

pub returns-clause-typed : goal.returns-clause-typed
returns-clause-typed c = λ tables h k. typing.two-ok tables c.args.left.now c.args.right.now h k c.args.op
