use Rattle.rt_ra.proofs.Meant.{rename-keeps}
use Rattle.rt_ra.proofs.Typings.{rename-ok}
use Rattle.rt_ra.proofs.laws.rename_law.Goals as goal

pub returns-clause-keeps : goal.returns-clause-keeps
returns-clause-keeps c = rename-keeps c.args.of.now c.args.names.now

pub returns-clause-typed : goal.returns-clause-typed
returns-clause-typed c = λ tables h. rename-ok tables c.args.of.now c.args.names.now h
