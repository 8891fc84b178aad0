use Rattle.rt_solver.specs.Marking.{marked_by}
use Rattle.rt_solver.proofs.Gathering.{lead-decided}
use Rattle.rt_solver.proofs.lead.lead.Goals as goal

pub returns-in-Decided : goal.returns-in-Decided
returns-in-Decided c = lead-decided c.args.first c.args.trail.now.steps (marked_by c.args.marks.now) c.args.place c.args.step.now c.requires.step c.in-Decided.is
