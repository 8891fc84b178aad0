use Rattle.std.specs.List.Sorted.{IsStrictlySortedBy}
use Rattle.rt_data_cases.proofs.printed.answer.Goals as goal

pub returns-then-is_empty : goal.returns-then-is_empty
unfolding IsStrictlySortedBy
returns-then-is_empty g c = rw c.new-rows.ensures tt

pub returns : goal.returns
unfolding IsStrictlySortedBy
returns g c = rw (c.in_ok-push.ensures.ok, c.new-rows.ensures) (tt, tt)
