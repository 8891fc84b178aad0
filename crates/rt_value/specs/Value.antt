-- Values: when two are the same, their order, the comparison of SQL, and IS NULL
-- (ISO/IEC 9075-2, comparison predicate, null predicate).
use Rattle.std.specs.Prelude.{Bool, true, false, ◌==◌}
use Rattle.std.specs.declared.cmp.Ordering.{Ordering}
use Rattle.std.specs.declared.cmp.Ordering.TheVariants.{Less, Equal, Greater}
use Rattle.std.specs.Ordering.{nat_cmp, int_cmp, int_eq}
use Rattle.std.specs.Cmp.Lexicographic.{slice_cmp}
use lib.Pointwise.{pointwise}
use Rattle.rt_value.specs.declared.truth.Truth.{Truth}
use Rattle.rt_value.specs.declared.truth.Truth.TheVariants.{Yes, No, Unknown}
use Rattle.rt_value.specs.declared.value.Op.{Op}
use Rattle.rt_value.specs.declared.value.Op.TheVariants.{Eq, Ne, Lt, Le, Gt, Ge}
use Rattle.rt_value.specs.declared.value.Value.{Value}
use Rattle.rt_value.specs.declared.value.Value.TheVariants.{Null, Int, Text}

-- the same as data: NULL is the same as NULL
abbrev pub value_eq : Value → Value → Bool
value_eq Null Null = true
value_eq (Int x) (Int y) = int_eq x y
value_eq (Text s) (Text t) = pointwise ◌==◌ s t
value_eq _ _ = false

-- NULL first, then whole numbers by size, then texts by bytes
abbrev pub value_cmp : Value → Value → Ordering
value_cmp Null Null = Equal
value_cmp Null b = Less
value_cmp (Int x) Null = Greater
value_cmp (Int x) (Int y) = int_cmp x y
value_cmp (Int x) (Text t) = Less
value_cmp (Text s) (Text t) = slice_cmp nat_cmp s t
value_cmp (Text s) b = Greater

-- what `op` says of two values that are ordered so
abbrev pub op_truth : Op → Ordering → Truth
op_truth Eq Equal = Yes
op_truth Eq o = No
op_truth Ne Equal = No
op_truth Ne o = Yes
op_truth Lt Less = Yes
op_truth Lt o = No
op_truth Le Greater = No
op_truth Le o = Yes
op_truth Gt Greater = Yes
op_truth Gt o = No
op_truth Ge Less = No
op_truth Ge o = Yes

-- a comparison is unknown where either value is NULL
abbrev pub value_truth : Op → Value → Value → Truth
value_truth op Null b = Unknown
value_truth op (Int x) Null = Unknown
value_truth op (Int x) (Int y) = op_truth op (value_cmp (Int x) (Int y))
value_truth op (Int x) (Text t) = op_truth op (value_cmp (Int x) (Text t))
value_truth op (Text s) Null = Unknown
value_truth op (Text s) (Int y) = op_truth op (value_cmp (Text s) (Int y))
value_truth op (Text s) (Text t) = op_truth op (value_cmp (Text s) (Text t))

-- IS NULL, which is never unknown
abbrev pub null_truth : Value → Truth
null_truth Null = Yes
null_truth (Int n) = No
null_truth (Text t) = No
