use Rattle.std.proofs.Common.{◌≡◌, map, drop}
use Rattle.rt_value.specs.Truth.{truth_any, truth_or}
use Rattle.rt_value.specs.Value.{value_truth}
use Rattle.rt_value.specs.declared.value.Op.TheVariants.{Eq}
use Rattle.rt_schema.specs.Check.{side_value}
use Rattle.rt_schema.proofs.check_truth.one_of_truth.Given as goal

abbrev pub invariant-loop-item : goal.invariant-loop-item
invariant-loop-item l = truth_or l.truth (truth_any (map (λ b. value_truth Eq (side_value l.row l.a) (side_value l.row b)) (drop l.item-index l.items)))
    ≡ truth_any (map (λ b. value_truth Eq (side_value l.row l.a) (side_value l.row b)) l.items)
