use Rattle.rt_recorder.proofs.Recorded.{steps-added}
use Rattle.rt_recorder.proofs.recorder.RecorderAdds.add.Goals as goal

pub invariant_of-self : goal.invariant_of-self
invariant_of-self c =
    steps-added c.add.result c.self.inside.checker.lines c.add.new.self.lines c.args.lits.now c.self.inside.checker.derived.items c.add.new.self.derived.items c.self.inside.steps.items c.self.invariant
    c.add.ensures.lines c.add.ensures.derived c.add.ensures.err_lines c.add.ensures.err_derived
