-- The check that a condition makes, its columns by their numbers (ISO/IEC 9075-2, check constraint
-- definition). A number after a minus stays within 128 bits, as each number of a text does.
--
-- NOT before a comparison and the NOT inside it cancel out where both are there.
use Rattle.std.specs.Prelude.{ℕ, Bool, true, false, not, ◌∷◌, map}
use Rattle.std.specs.Int.{int_wrapping_neg, w128}
use Rattle.rt_token.specs.Terminals.{Word}
use Rattle.rt_value.specs.declared.value.Value.TheVariants as value
use Rattle.rt_schema.specs.declared.check.Check.{Check}
use Rattle.rt_schema.specs.declared.check.CheckAtom.{CheckAtom}
use Rattle.rt_schema.specs.declared.check.CheckLeaf.{CheckLeaf}
use Rattle.rt_schema.specs.declared.check.CheckLeaf.TheVariants as made
use Rattle.rt_schema.specs.declared.check.CheckPart.{CheckPart}
use Rattle.rt_schema.specs.declared.check.Side.{Side}
use Rattle.rt_schema.specs.declared.check.Side.TheVariants as made_side
use Rattle.rt_ddl_tree.specs.declared.test_tree.Test.{Test}
use Rattle.rt_ddl_tree.specs.declared.test_tree.TestForm.{TestForm}
use Rattle.rt_ddl_tree.specs.declared.test_tree.TestForm.TheVariants as form
use Rattle.rt_ddl_tree.specs.declared.test_tree.TestLeaf.{TestLeaf}
use Rattle.rt_ddl_tree.specs.declared.test_tree.TestPart.{TestPart}
use Rattle.rt_ddl_tree.specs.declared.test_tree.TestSide.{TestSide}
use Rattle.rt_ddl_tree.specs.declared.test_tree.TestSide.TheVariants as side

abbrev pub side_made : (Word → ℕ) → TestSide → Side
side_made place (side.Column n) = made_side.Column (place n.text)
side_made place (side.Number false n) = made_side.Constant (value.Int n)
side_made place (side.Number true n) = made_side.Constant (value.Int (int_wrapping_neg w128 n))
side_made place (side.Str t) = made_side.Constant (value.Text t)
side_made place side.Null = made_side.Constant value.Null

abbrev pub form_made : (Word → ℕ) → TestForm → CheckLeaf
form_made place (form.Cmp a o b) = made.Cmp o (side_made place a) (side_made place b)
form_made place (form.IsNull a n) = made.IsNull (side_made place a)
form_made place (form.Between a n low high) = made.Between (side_made place a) (side_made place low) (side_made place high)
form_made place (form.OneOf a n b bs) = made.OneOf (side_made place a) (side_made place b ∷ map (side_made place) bs)

-- the NOT inside
abbrev pub form_not : TestForm → Bool
form_not (form.Cmp a o b) = false
form_not (form.IsNull a n) = n
form_not (form.Between a n low high) = n
form_not (form.OneOf a n b bs) = n

-- just one of the two
abbrev pub just_one : Bool → Bool → Bool
just_one true b = not b
just_one false b = b

abbrev pub leaf_made : (Word → ℕ) → TestLeaf → CheckAtom
leaf_made place l = record { not = just_one l.not (form_not l.form); of = form_made place l.form }

abbrev pub part_made : (Word → ℕ) → TestPart → CheckPart
part_made place p = record { all = leaf_made place p.head ∷ map (leaf_made place) p.tail }

abbrev pub check_made : (Word → ℕ) → Test → Check
check_made place t = record { any = part_made place t.head ∷ map (part_made place) t.tail }
