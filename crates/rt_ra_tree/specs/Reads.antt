-- The grammar of algebra texts, as readers of terminals from the left.
--
-- They define what the reading of a text answers. By the law `read_is_tree` that is the tree that
-- the tokens spell.
use Rattle.std.specs.Prelude.{ℕ, ℤ, zero, suc, ◌+◌, ◌&&◌, Bool, true, false, List, [], ◌∷◌, length, Option, Some, None}
use Rattle.rt_token.specs.Comparisons.{read_op}
use Rattle.rt_token.specs.Readers.{Parser, Step, both, done, either, flagged, lead, list_of, made, paren, read_end, read_name, starts, starts_name, step_after, ◌>>=◌}
use Rattle.rt_token.specs.Terminals.{Kinds, tail_of}
use Rattle.rt_token.specs.declared.fixed.Fixed.TheVariants as fixed
use Rattle.rt_token.specs.declared.terminal.Name.{Name}
use Rattle.rt_token.specs.declared.terminal.Terminal.TheVariants as terminal
use Rattle.rt_value.specs.declared.value.Op.{Op}
use Rattle.rt_ra_tree.specs.Heads.{head_at}
use Rattle.rt_ra_tree.specs.Operands.{first_operand, last_operand}
use Rattle.rt_ra_tree.specs.declared.heads.Head.{Head}
use Rattle.rt_ra_tree.specs.declared.heads.Head.TheVariants as head
use Rattle.rt_ra_tree.specs.declared.tree.Ra.{Ra}
use Rattle.rt_ra_tree.specs.declared.tree.Ra.TheVariants as ra
use Rattle.rt_ra_tree.specs.declared.tree.RaNames.{RaNames}
use Rattle.rt_ra_tree.specs.declared.tree.RaOp.{RaOp}
use Rattle.rt_ra_tree.specs.declared.tree.RaSide.{RaSide}
use Rattle.rt_ra_tree.specs.declared.tree.RaSide.TheVariants as side
use Rattle.rt_ra_tree.specs.declared.tree.RaTest.{RaTest}
use Rattle.rt_ra_tree.specs.declared.tree.RaTest.TheVariants as test
use Rattle.rt_ra_tree.specs.declared.tree.RaTests.{RaTests}
use Rattle.rt_ra_tree.specs.declared.tree.RaText.{RaText}

-- ---- tests

abbrev pub read_plain_side : Parser RaSide
read_plain_side [] = None
read_plain_side (terminal.Name n ∷ ks) = Some (side.Col n, ks)
read_plain_side (terminal.Number n ∷ ks) = Some (side.Number false n, ks)
read_plain_side (terminal.Str t ∷ ks) = Some (side.Str t, ks)
read_plain_side (k ∷ ks) = None

abbrev pub read_number : Parser ℤ
read_number [] = None
read_number (terminal.Number n ∷ ks) = Some (n, ks)
read_number (k ∷ ks) = None

abbrev pub negative : ℤ → RaSide
negative n = side.Number true n

unfoldable pub read_side : Parser RaSide
read_side = either (starts fixed.Minus) (made negative (lead fixed.Minus read_number)) read_plain_side

abbrev pub compared : RaSide × (Op × RaSide) → RaTest
compared x = test.Cmp x.1.0 x.0 x.1.1

abbrev pub read_compared : Parser RaTest
read_compared = made compared (both read_side (both read_op read_side))

abbrev pub null_of : Name × (Bool × Unit {0}) → RaTest
null_of x = test.IsNull x.0 x.1.0

abbrev pub read_null : Parser (Unit {0})
read_null = lead fixed.Null done

abbrev pub read_is_null : Parser RaTest
read_is_null = made null_of (both read_name (lead fixed.Is (flagged fixed.Not read_null)))

-- whether a name and IS come next
abbrev pub is_null_test : Kinds → Bool
is_null_test ks = starts_name ks && starts fixed.Is (tail_of ks)

unfoldable pub read_test : Parser RaTest
read_test = either is_null_test read_is_null read_compared

abbrev pub tests_of : RaTest × List RaTest → RaTests
tests_of x = record { head = x.0; tail = x.1 }

abbrev pub test_step : Step RaTest
test_step = step_after fixed.And read_test

unfoldable pub read_tests : Parser RaTests
read_tests = made tests_of (both read_test (list_of test_step))

-- ---- names

abbrev pub names_of : Name × List Name → RaNames
names_of x = record { head = x.0; tail = x.1 }

abbrev pub name_step : Step Name
name_step = step_after fixed.Comma read_name

unfoldable pub read_names : Parser RaNames
read_names = made names_of (paren (both read_name (list_of name_step)))

-- ---- operators, over a reader of their operands

-- in parentheses: an operand, a comma, and the rest
abbrev pub operands : {A : Type 0} → Parser Ra → Parser A → Parser (Ra × A)
operands inner p = both (first_operand inner) (last_operand p)

abbrev pub select_of : Ra × RaTests → Ra
select_of x = ra.Select x.0 x.1

abbrev pub project_of : Ra × RaNames → Ra
project_of x = ra.Project x.0 x.1

abbrev pub rename_of : Ra × RaNames → Ra
rename_of x = ra.Rename x.0 x.1

abbrev pub two_of : RaOp → Ra × Ra → Ra
two_of o x = ra.Two o x.0 x.1

abbrev pub read_select : Parser Ra → Parser Ra
read_select inner = made select_of (operands inner read_tests)

abbrev pub read_project : Parser Ra → Parser Ra
read_project inner = made project_of (operands inner read_names)

abbrev pub read_rename : Parser Ra → Parser Ra
read_rename inner = made rename_of (operands inner read_names)

abbrev pub read_two : RaOp → Parser Ra → Parser Ra
read_two o inner = made (two_of o) (operands inner inner)

-- what follows the keyword of an operator
abbrev pub read_with : Head → Parser Ra → Parser Ra
read_with head.Select inner = read_select inner
read_with head.Project inner = read_project inner
read_with head.Rename inner = read_rename inner
read_with (head.Two o) inner = read_two o inner

abbrev pub read_from : Parser Ra → Kinds → Option (Head × Kinds) → Option (Ra × Kinds)
read_from inner ks None = made ra.Table read_name ks
read_from inner ks (Some h) = read_with h.0 inner h.1

-- with fewer than n operators in one another
unfoldable pub read_ra : ℕ → Parser Ra
read_ra zero ks = None
read_ra (suc n) ks = read_from (read_ra n) ks (head_at ks)

-- ---- all the terminals

abbrev pub text_of : Ra × Bool → RaText
text_of x = record { of = x.0; semi = x.1 }

unfoldable pub read_text : Kinds → Option RaText
read_text ks = read_ra (length ks + 1) ks >>= λ t. read_end t.1 >>= λ b. Some (text_of (t.0, b))
