-- Columns of queries in SQL, as columns of whatever type are made.
use Rattle.std.specs.Prelude.{ℕ, List, Some}
use Rattle.rt_schema.specs.declared.table.ColKind.{ColKind}
use Rattle.rt_scope.specs.declared.column.Column.{Column}

abbrev pub bounded : ℕ → Column → Column
bounded n c = record c { bound = n }

abbrev pub called : List ℕ → ColKind → ℕ → Column
called name kind bound = record { name = Some name; kind = kind; bound = bound }
