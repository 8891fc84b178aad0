-- Columns of a query that is being made, whatever their type: what the algebra sees of them, those of
-- a table, and those of two operands of a set operator (ISO/IEC 9075-2, query expression).
use Rattle.std.specs.Prelude.{ℕ, ◌&&◌, Bool, true, max, map, List, [], ◌∷◌, Option}
use Rattle.rt_algebra.specs.Columns as algebra
use Rattle.rt_algebra.specs.declared.query.Query.{Query}
use Rattle.rt_algebra.specs.declared.typed.Typed.{Typed}
use Rattle.rt_schema.specs.Schema.{kind_eq}
use Rattle.rt_schema.specs.declared.table.ColKind.{ColKind}
use Rattle.rt_schema.specs.declared.table.Column.{Column as TableColumn}

abbrev pub Text : Type 0
Text = List ℕ

-- the columns as the algebra sees them
abbrev pub columns_as : {C : Type 0} → (C → ColKind) → (C → ℕ) → List C → algebra.Columns
columns_as kind bound cs = map (λ c. algebra.column (kind c) (bound c)) cs

-- the query with the kinds, bounds and names of its columns
abbrev pub typed_of : {C : Type 0} → (C → ColKind) → (C → ℕ) → (C → Option Text) → Query → List C → Typed
typed_of kind bound name query cs = record { query = query; kinds = map kind cs; bounds = map bound cs; names = map name cs }

-- ---- tables

abbrev pub table_column : {C : Type 0} → (Text → ColKind → ℕ → C) → TableColumn → C
table_column named c = named c.name c.kind (algebra.table_column c.kind).bound

abbrev pub table_columns : {C : Type 0} → (Text → ColKind → ℕ → C) → List TableColumn → List C
table_columns named cs = map (table_column named) cs

-- ---- set operators

-- the first operand's column, with the greater bound
abbrev pub wider : {C : Type 0} → (C → ℕ) → (ℕ → C → C) → C → C → C
wider bound bounded c d = bounded (max (bound c) (bound d)) c

abbrev pub widened : {C : Type 0} → (C → ℕ) → (ℕ → C → C) → List C → List C → List C
widened bound bounded [] ds = []
widened bound bounded (c ∷ cs) [] = []
widened bound bounded (c ∷ cs) (d ∷ ds) = wider bound bounded c d ∷ widened bound bounded cs ds

abbrev pub same_kinds : {C : Type 0} → (C → ColKind) → List C → List C → Bool
same_kinds kind [] ds = true
same_kinds kind (c ∷ cs) [] = true
same_kinds kind (c ∷ cs) (d ∷ ds) = kind_eq (kind c) (kind d) && same_kinds kind cs ds
