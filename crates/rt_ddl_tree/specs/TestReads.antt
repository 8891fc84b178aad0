-- The grammar of conditions, as readers of terminals from the left.
--
-- They define what the reading of a schema answers. By the law `read_is_tree` that is the tree that
-- the tokens spell (`TestSpelled`).
use Rattle.std.specs.Prelude.{Bool, true, false, List, [], ◌∷◌, if◌then◌else◌, Some, None, is_some}
use Rattle.rt_value.specs.declared.value.Op.{Op}
use Rattle.rt_token.specs.Comparisons.{op_at, read_op}
use Rattle.rt_token.specs.Readers.{Parser, Step, alternative, both, done, either, flag_at, flagged, lead, list_of, made, paren, starts, step_after}
use Rattle.rt_token.specs.Terminals.{Kinds, front, tail_of}
use Rattle.rt_token.specs.declared.fixed.Fixed.TheVariants as fixed
use Rattle.rt_token.specs.declared.terminal.Terminal.TheVariants as terminal
use Rattle.rt_ddl_tree.specs.declared.test_tree.Test.{Test}
use Rattle.rt_ddl_tree.specs.declared.test_tree.TestForm.{TestForm}
use Rattle.rt_ddl_tree.specs.declared.test_tree.TestForm.TheVariants as form
use Rattle.rt_ddl_tree.specs.declared.test_tree.TestLeaf.{TestLeaf}
use Rattle.rt_ddl_tree.specs.declared.test_tree.TestPart.{TestPart}
use Rattle.rt_ddl_tree.specs.declared.test_tree.TestSide.{TestSide}
use Rattle.rt_ddl_tree.specs.declared.test_tree.TestSide.TheVariants as side

-- ---- sides

abbrev pub read_plain_side : Parser TestSide
read_plain_side [] = None
read_plain_side (terminal.Name n ∷ ks) = Some (side.Column n, ks)
read_plain_side (terminal.Number n ∷ ks) = Some (side.Number false n, ks)
read_plain_side (terminal.Str t ∷ ks) = Some (side.Str t, ks)
read_plain_side (k ∷ ks) = None

abbrev pub read_negative : Parser TestSide
read_negative [] = None
read_negative (terminal.Number n ∷ ks) = Some (side.Number true n, ks)
read_negative (k ∷ ks) = None

unfoldable pub read_side : Parser TestSide
read_side = alternative fixed.Minus read_negative (alternative fixed.Null (made (λ u. side.Null) done) read_plain_side)

abbrev pub side_step : Step TestSide
side_step = step_after fixed.Comma read_side

unfoldable pub read_sides : Parser (TestSide × List TestSide)
read_sides = paren (both read_side (list_of side_step))

-- ---- forms

abbrev pub compared : TestSide × (Op × TestSide) → TestForm
compared x = form.Cmp x.0 x.1.0 x.1.1

unfoldable pub read_compared : Parser TestForm
read_compared = made compared (both read_side (both read_op read_side))

abbrev pub null_of : TestSide × (Bool × Unit {0}) → TestForm
null_of x = form.IsNull x.0 x.1.0

unfoldable pub read_is_null : Parser TestForm
read_is_null = made null_of (both read_side (lead fixed.Is (flagged fixed.Not (lead fixed.Null done))))

abbrev pub one_of : TestSide × (Bool × (TestSide × List TestSide)) → TestForm
one_of x = form.OneOf x.0 x.1.0 x.1.1.0 x.1.1.1

unfoldable pub read_one_of : Parser TestForm
read_one_of = made one_of (both read_side (flagged fixed.Not (lead fixed.In read_sides)))

unfoldable pub read_bounds : Parser (TestSide × TestSide)
read_bounds = lead fixed.Between (both read_side (lead fixed.And read_side))

abbrev pub between : TestSide × (Bool × (TestSide × TestSide)) → TestForm
between x = form.Between x.0 x.1.0 x.1.1.0 x.1.1.1

unfoldable pub read_between : Parser TestForm
read_between = made between (both read_side (flagged fixed.Not read_bounds))

-- what follows the side at the front
abbrev pub past_side : Kinds → Kinds
past_side ks = if starts fixed.Minus ks then tail_of (tail_of ks) else tail_of ks

abbrev pub is_compared : Kinds → Bool
is_compared ks = is_some (op_at (front (past_side ks)))

abbrev pub is_null_test : Kinds → Bool
is_null_test ks = starts fixed.Is (past_side ks)

abbrev pub is_one_of : Kinds → Bool
is_one_of ks = starts fixed.In (flag_at fixed.Not (past_side ks)).1

unfoldable pub read_form : Parser TestForm
read_form = either is_compared read_compared (either is_null_test read_is_null (either is_one_of read_one_of read_between))

-- ---- conditions

abbrev pub leaf_of : Bool × TestForm → TestLeaf
leaf_of x = record { not = x.0; form = x.1 }

unfoldable pub read_leaf : Parser TestLeaf
read_leaf = made leaf_of (flagged fixed.Not read_form)

abbrev pub leaf_step : Step TestLeaf
leaf_step = step_after fixed.And read_leaf

abbrev pub part_of : TestLeaf × List TestLeaf → TestPart
part_of x = record { head = x.0; tail = x.1 }

unfoldable pub read_part : Parser TestPart
read_part = made part_of (both read_leaf (list_of leaf_step))

abbrev pub part_step : Step TestPart
part_step = step_after fixed.Or read_part

abbrev pub test_of : TestPart × List TestPart → Test
test_of x = record { head = x.0; tail = x.1 }

unfoldable pub read_test : Parser Test
read_test = made test_of (both read_part (list_of part_step))

-- a condition in parentheses
unfoldable pub read_condition : Parser Test
read_condition = paren read_test
