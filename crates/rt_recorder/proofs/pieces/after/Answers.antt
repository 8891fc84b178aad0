use Rattle.rt_recorder.proofs.Cuts.{after-cases}
use Rattle.rt_recorder.proofs.pieces.after.Goals as goal

pub returns : goal.returns
returns c = after-cases (λ r. r.now) c.args.text.now c.args.front.now c.strip_prefix.result c.strip_prefix.ensures.cases
