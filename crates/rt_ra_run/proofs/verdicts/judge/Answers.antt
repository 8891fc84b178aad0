use Rattle.rt_ra_run.proofs.JudgeLemmas.{judges}
use Rattle.rt_ra_run.proofs.verdicts.judge.Goals as goal

pub returns-in-Ok : goal.returns-in-Ok
returns-in-Ok c = judges c.args.asked.now c.requires.sound c.requires.means c.requires.files c.in-Ok.answer.outcome c.in-Ok.answer.text c.in-Ok.ensures
