use Rattle.std.proofs.Common.{◌≡◌, map, drop}
use Rattle.rt_value.specs.Truth.{truth_any, truth_or}
use Rattle.rt_schema.specs.Check.{check_truth, part_truth}
use Rattle.rt_schema.proofs.check_truth.check_truth.Given as goal

abbrev pub invariant-loop-part : goal.invariant-loop-part
invariant-loop-part l = truth_or l.truth (truth_any (map (part_truth l.row) (drop l.part-index l.check.any))) ≡ check_truth l.row l.check
