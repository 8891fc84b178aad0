use Rattle.rt_top.proofs.DecideLemmas.{of_input}
use Rattle.rt_top.proofs.decision.decide.Goals as goal

pub returns : goal.returns
returns c =
    of_input c.args.input.now c.schema-schema.result.now c.given.result.now c.left.result.now c.right.result.now c.conflicts.result c.decide_between.result
    c.schema-schema.ensures.same c.given.ensures c.left.ensures c.right.ensures c.conflicts.ensures c.decide_between.ensures
