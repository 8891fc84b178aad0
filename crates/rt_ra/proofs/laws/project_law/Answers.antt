use Rattle.rt_ra.proofs.Meant.{project-keeps}
use Rattle.rt_ra.proofs.Typings.{project-ok}
use Rattle.rt_ra.proofs.laws.project_law.Goals as goal

pub returns-clause-keeps : goal.returns-clause-keeps
returns-clause-keeps c = project-keeps c.args.of.now c.args.names.now

pub returns-clause-typed : goal.returns-clause-typed
returns-clause-typed c = λ tables h. project-ok tables c.args.of.now c.args.names.now h
