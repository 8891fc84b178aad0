use Rattle.std.proofs.Common.{drop, take}
use Rattle.rt_recorder.proofs.LineLemmas.{no-hints, no-lits, step-read}
use Rattle.rt_recorder.proofs.Spaced.{cut-at}
use Rattle.rt_recorder.proofs.lines.step.Goals as goal

pub returns-in_default-after : goal.returns-in_default-after
returns-in_default-after c =
    no-hints c.args.line.now c.in-Some.rest.now c.split_at.result.0.now c.split_at.result.1.now c.in-Some.ensures
    (cut-at 59 c.in-Some.rest.now (take c.span.result c.in-Some.rest.now) (drop c.span.result c.in-Some.rest.now) c.span.ensures.cut c.split_at.result.0.now c.split_at.result.1.now c.split_at.ensures.front c.split_at.ensures.back)
    (c.in_default-after.ensures {u = tt})

pub returns-in_default-before_space : goal.returns-in_default-before_space
returns-in_default-before_space c =
    no-lits c.args.line.now c.in-Some.rest.now c.split_at.result.0.now c.split_at.result.1.now c.in-Some.ensures
    (cut-at 59 c.in-Some.rest.now (take c.span.result c.in-Some.rest.now) (drop c.span.result c.in-Some.rest.now) c.span.ensures.cut c.split_at.result.0.now c.split_at.result.1.now c.split_at.ensures.front c.split_at.ensures.back)
    (c.in_default-before_space.ensures {u = tt})

pub returns : goal.returns
returns c =
    step-read c.args.line.now c.in-Some.rest.now c.split_at.result.0.now c.split_at.result.1.now c.in-Some-before_space.lits.now c.in-Some-after.hints.now c.in-Some.ensures
    (cut-at 59 c.in-Some.rest.now (take c.span.result c.in-Some.rest.now) (drop c.span.result c.in-Some.rest.now) c.span.ensures.cut c.split_at.result.0.now c.split_at.result.1.now c.split_at.ensures.front c.split_at.ensures.back)
    c.in-Some-before_space.ensures c.in-Some-after.ensures c.step_of.result c.step_of.ensures
