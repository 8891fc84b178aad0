use Rattle.rt_tools.proofs.OneGradingLemmas.{text-one}
use Rattle.rt_tools.proofs.laws.grading_text_is_one.Goals as goal

pub returns : goal.returns
returns c = record { answer = text-one }
