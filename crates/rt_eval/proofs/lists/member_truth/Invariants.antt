use Rattle.std.proofs.Common.{◌≡◌, drop}
use Rattle.rt_value.specs.Truth.{truth_or}
use Rattle.rt_algebra.specs.Answer.{member_truth}
use Rattle.rt_eval.proofs.lists.member_truth.Given as goal

abbrev pub invariant-loop-row : goal.invariant-loop-row
invariant-loop-row l =
    truth_or l.truth (member_truth l.value (drop l.row-index l.rows)) ≡ member_truth l.value l.rows
