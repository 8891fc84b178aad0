use Rattle.rt_recorder.proofs.LineLemmas.{before-cases}
use Rattle.rt_recorder.proofs.pieces.before_space.Goals as goal

pub returns : goal.returns
returns c = before-cases (λ r. r.now) c.args.text.now c.strip_suffix.result c.strip_suffix.ensures.cases
