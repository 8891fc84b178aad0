-- What a CHECK says of a row (ISO/IEC 9075-2, check constraint definition, comparison predicate,
-- null predicate, between predicate, in predicate).
use Rattle.std.specs.Prelude.{cond, List, map}
use Rattle.rt_value.specs.declared.value.Value.{Value}
use Rattle.rt_value.specs.declared.value.Op.TheVariants as op
use Rattle.rt_value.specs.declared.truth.Truth.{Truth}
use Rattle.rt_value.specs.Truth.{truth_and, truth_not, truth_all, truth_any}
use Rattle.rt_value.specs.Value.{value_truth, null_truth}
use Rattle.rt_schema.specs.Cells.{cell}
use Rattle.rt_schema.specs.declared.check.Check.{Check}
use Rattle.rt_schema.specs.declared.check.CheckAtom.{CheckAtom}
use Rattle.rt_schema.specs.declared.check.CheckLeaf.{CheckLeaf}
use Rattle.rt_schema.specs.declared.check.CheckLeaf.TheVariants as leaf
use Rattle.rt_schema.specs.declared.check.CheckPart.{CheckPart}
use Rattle.rt_schema.specs.declared.check.Side.{Side}
use Rattle.rt_schema.specs.declared.check.Side.TheVariants as side

-- the value of a side in a row
abbrev pub side_value : List Value → Side → Value
side_value row (side.Column c) = cell row c
side_value row (side.Constant x) = x

abbrev pub leaf_truth : List Value → CheckLeaf → Truth
leaf_truth row (leaf.Cmp o a b) = value_truth o (side_value row a) (side_value row b)
leaf_truth row (leaf.IsNull a) = null_truth (side_value row a)
leaf_truth row (leaf.Between a low high) = truth_and (value_truth op.Ge (side_value row a) (side_value row low)) (value_truth op.Le (side_value row a) (side_value row high))
leaf_truth row (leaf.OneOf a items) = truth_any (map (λ b. value_truth op.Eq (side_value row a) (side_value row b)) items)

abbrev pub atom_truth : List Value → CheckAtom → Truth
atom_truth row atom = cond atom.not (truth_not (leaf_truth row atom.of)) (leaf_truth row atom.of)

abbrev pub part_truth : List Value → CheckPart → Truth
part_truth row part = truth_all (map (atom_truth row) part.all)

abbrev pub check_truth : List Value → Check → Truth
check_truth row check = truth_any (map (part_truth row) check.any)
