-- Rows: when two are the same, and their order.
use Rattle.std.specs.Prelude.{Bool, List}
use Rattle.std.specs.declared.cmp.Ordering.{Ordering}
use Rattle.std.specs.Cmp.Lexicographic.{slice_cmp}
use lib.Pointwise.{pointwise}
use Rattle.rt_value.specs.declared.value.Value.{Value}
use Rattle.rt_value.specs.Value.{value_eq, value_cmp}

-- as long as one another, and the same value by value
abbrev pub row_eq : List Value → List Value → Bool
row_eq = pointwise value_eq

-- value by value; a prefix comes first
abbrev pub row_cmp : List Value → List Value → Ordering
row_cmp = slice_cmp value_cmp
