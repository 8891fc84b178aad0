-- A set of rows as a list: in the order of rows, each row once.
use Rattle.std.specs.Prelude.{List, [], ◌∷◌}
use Rattle.std.specs.declared.cmp.Ordering.{Ordering}
use Rattle.std.specs.declared.cmp.Ordering.TheVariants.{Less, Equal, Greater}
use Rattle.rt_value.specs.declared.value.Value.{Value}
use Rattle.rt_value.specs.Row.{row_cmp}
use Rattle.rt_schema.specs.Given.{Rows}

-- a row at its place among rows in order, unless it is there already
abbrev pub placed_by : Ordering → List Value → List Value → Rows → Rows → Rows
placed_by Less row first rest others = row ∷ first ∷ rest
placed_by Equal row first rest others = first ∷ rest
placed_by Greater row first rest others = first ∷ others

abbrev pub placed : List Value → Rows → Rows
placed row [] = row ∷ []
placed row (first ∷ rest) = placed_by (row_cmp row first) row first rest (placed row rest)

abbrev pub distinct : Rows → Rows
distinct [] = []
distinct (row ∷ rows) = placed row (distinct rows)
