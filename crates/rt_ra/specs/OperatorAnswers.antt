-- What each operator answers on the rows of its operands, over plain lists (Codd 1970; a comparison
-- with NULL is unknown, as in ISO/IEC 9075-2).
use Rattle.std.specs.Prelude.{ℕ, ℤ, ◌+◌, neg_ℤ, Bool, true, false, not, ◌&&◌, if◌then◌else◌, map, List, [], ◌∷◌, ◌++◌, length, replicate, bytes_eq, slice_index_or}
use Rattle.std.specs.List.{filter, flat_map, list_all, list_any}
use Rattle.rt_algebra.specs.Answer.{has_row, is_yes, pairs}
use Rattle.rt_schema.specs.Given.{Rows, Tables, rows_at}
use Rattle.rt_schema.specs.declared.table.Table.{Table}
use Rattle.rt_value.specs.Row.{row_eq}
use Rattle.rt_value.specs.Truth.{truth_not}
use Rattle.rt_value.specs.Value.{null_truth, value_truth}
use Rattle.rt_value.specs.declared.truth.Truth.{Truth}
use Rattle.rt_value.specs.declared.value.Op.TheVariants.{Eq}
use Rattle.rt_value.specs.declared.value.Value.{Value}
use Rattle.rt_value.specs.declared.value.Value.TheVariants as v
use Rattle.rt_relation.specs.Columns.{Text, further_names, has, place}
use Rattle.rt_ra_tree.specs.declared.tree.RaOp.{RaOp}
use Rattle.rt_ra_tree.specs.declared.tree.RaOp.TheVariants as op
use Rattle.rt_ra_tree.specs.declared.tree.RaSide.{RaSide}
use Rattle.rt_ra_tree.specs.declared.tree.RaSide.TheVariants as side_
use Rattle.rt_ra_tree.specs.declared.tree.RaTest.{RaTest}
use Rattle.rt_ra_tree.specs.declared.tree.RaTest.TheVariants as test_

-- rows with the names of their columns
pub record Named : Type 0 where
  pub names : List Text
  pub rows : Rows

-- ---- cells and tests

abbrev pub cell : List Text → Text → List Value → Value
cell names n row = slice_index_or row (place n names) v.Null

abbrev pub cells : List Text → List Text → List Value → List Value
cells names [] row = []
cells names (n ∷ ns) row = cell names n row ∷ cells names ns row

abbrev pub number : Bool → ℤ → Value
number true n = v.Int (neg_ℤ n)
number false n = v.Int n

abbrev pub side_value : List Text → RaSide → List Value → Value
side_value names (side_.Col n) row = cell names n.text row
side_value names (side_.Number m n) row = number m n
side_value names (side_.Str t) row = v.Text t

abbrev pub negated : Bool → Truth → Truth
negated true t = truth_not t
negated false t = t

abbrev pub test_truth : List Text → RaTest → List Value → Truth
test_truth names (test_.Cmp o a b) row = value_truth o (side_value names a row) (side_value names b row)
test_truth names (test_.IsNull n b) row = negated b (null_truth (cell names n.text row))

-- every test is Yes
abbrev pub all_yes : List Text → List RaTest → List Value → Bool
all_yes names [] row = true
all_yes names (t ∷ ts) row = is_yes (test_truth names t row) && all_yes names ts row

-- ---- joins

-- the cells of the columns that the others have not
abbrev pub further_cells : List Text → List Text → List Value → List Value
further_cells [] others row = []
further_cells (n ∷ ns) others [] = []
further_cells (n ∷ ns) others (x ∷ row) = if has n others then further_cells ns others row else x ∷ further_cells ns others row

-- the common columns all compare Yes with Eq
abbrev pub meets : List Text → List Text → List Value → List Value → Bool
meets [] others r s = true
meets (n ∷ ns) others [] s = true
meets (n ∷ ns) others (x ∷ r) s = if has n others then is_yes (value_truth Eq x (cell others n s)) && meets ns others r s else meets ns others r s

abbrev pub met : Named → Named → List Value → Bool
met t u r = list_any (meets t.names u.names r) u.rows

-- a row with each row that it meets
abbrev pub joined : Named → Named → Rows
joined t u = flat_map (λ r. map (λ s. r ++ further_cells u.names t.names s) (filter (meets t.names u.names r) u.rows)) t.rows

abbrev pub semi : Named → Named → Rows
semi t u = filter (met t u) t.rows

abbrev pub anti : Named → Named → Rows
anti t u = filter (λ r. not (met t u r)) t.rows

abbrev pub filled : Named → Named → Rows
filled t u = map (λ r. r ++ replicate (length (further_names u.names t.names)) v.Null) (anti t u)

-- ---- division

-- some row of the first has these further cells, and those of the second
abbrev pub paired : Named → Named → List Value → List Value → Bool
paired t u x y = list_any (λ r. row_eq x (further_cells t.names u.names r) && row_eq y (cells t.names u.names r)) t.rows

abbrev pub divided : Named → Named → Rows
divided t u = filter (λ x. list_all (paired t u x) u.rows) (map (further_cells t.names u.names) t.rows)

-- ---- operators of one operand

abbrev pub select : Named → List RaTest → Named
select t ts = record { names = t.names; rows = filter (all_yes t.names ts) t.rows }

abbrev pub project : Named → List Text → Named
project t ns = record { names = ns; rows = map (cells t.names ns) t.rows }

abbrev pub rename : Named → List Text → Named
rename t ns = record { names = ns; rows = t.rows }

-- ---- operators of two operands

abbrev pub two : RaOp → Named → Named → Named
two op.Cross t u = record { names = t.names ++ u.names; rows = pairs t.rows u.rows }
two op.Join t u = record { names = t.names ++ further_names u.names t.names; rows = joined t u }
two op.Semi t u = record { names = t.names; rows = semi t u }
two op.Anti t u = record { names = t.names; rows = anti t u }
two op.LeftJoin t u = record { names = t.names ++ further_names u.names t.names; rows = joined t u ++ filled t u }
two op.Divide t u = record { names = further_names t.names u.names; rows = divided t u }
two op.Union t u = record { names = t.names; rows = t.rows ++ u.rows }
two op.Except t u = record { names = t.names; rows = filter (λ r. not (has_row u.rows r)) t.rows }
two op.Intersect t u = record { names = t.names; rows = filter (has_row u.rows) t.rows }

-- the first table has the number `at`
abbrev pub table_rows : Text → ℕ → List Table → Tables → Named
table_rows n at [] db = record { names = []; rows = [] }
table_rows n at (t ∷ ts) db = if bytes_eq t.name n then record { names = map (λ c. c.name) t.columns; rows = rows_at db at } else table_rows n (at + 1) ts db
