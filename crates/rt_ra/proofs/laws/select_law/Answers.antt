use Rattle.rt_ra.proofs.Meant.{select-keeps}
use Rattle.rt_ra.proofs.Typings.{select-ok}
use Rattle.rt_ra.proofs.laws.select_law.Goals as goal

pub returns-clause-keeps : goal.returns-clause-keeps
returns-clause-keeps c = select-keeps c.args.of.now c.args.tests.now

pub returns-clause-typed : goal.returns-clause-typed
returns-clause-typed c = λ f tables h. select-ok tables c.args.of.now c.args.tests.now h f
