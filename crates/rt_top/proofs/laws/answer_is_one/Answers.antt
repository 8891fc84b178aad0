use Rattle.rt_top.proofs.OneLemmas.{answer-one, same-given, same-input, smallest-none, smallest-one, verdict-one}
use Rattle.rt_top.proofs.laws.answer_is_one.Goals as goal

pub returns : goal.returns
returns c = record { one = smallest-one; none = smallest-none; verdict = verdict-one; answer = λ a b h. answer-one a b (same-input a b h); given = λ a b h. answer-one a b (same-given a b h) }
