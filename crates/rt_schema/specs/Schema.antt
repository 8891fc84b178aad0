-- Which lists of tables are a schema: each rule names columns and tables that are there, and
-- compares values of one kind (ISO/IEC 9075-2, table definition, table constraint definition).
use Rattle.std.specs.Prelude.{ℕ, Bool, true, false, ◌&&◌, List, [], ◌∷◌, length, map, Option, None, Some, nat_lt, slice_get}
use Rattle.std.specs.Option.{option_map}
use Rattle.rt_value.specs.declared.value.Value.TheVariants as v
use Rattle.rt_schema.specs.declared.check.Check.{Check as Condition}
use Rattle.rt_schema.specs.declared.check.CheckLeaf.{CheckLeaf}
use Rattle.rt_schema.specs.declared.check.CheckLeaf.TheVariants as leaf
use Rattle.rt_schema.specs.declared.check.CheckPart.{CheckPart}
use Rattle.rt_schema.specs.declared.check.Side.{Side}
use Rattle.rt_schema.specs.declared.check.Side.TheVariants as side
use Rattle.std.specs.List.{list_all}
use Rattle.rt_schema.specs.declared.table.ColKind.{ColKind}
use Rattle.rt_schema.specs.declared.table.ColKind.TheVariants.{Whole, Text}
use Rattle.rt_schema.specs.declared.table.Column.{Column}
use Rattle.rt_schema.specs.declared.table.Foreign.{Foreign as ForeignKey}
use Rattle.rt_schema.specs.declared.table.Rule.{Rule}
use Rattle.rt_schema.specs.declared.table.Rule.TheVariants.{NotNull, Key, Foreign, Check, Depend}
use Rattle.rt_schema.specs.declared.table.Table.{Table}

abbrev pub kind_eq : ColKind → ColKind → Bool
kind_eq Whole Whole = true
kind_eq Whole Text = false
kind_eq Text Whole = false
kind_eq Text Text = true

-- two columns that are both there, of one kind
abbrev pub same_kind : Option Column → Option Column → Bool
same_kind None d = false
same_kind (Some c) None = false
same_kind (Some c) (Some d) = kind_eq c.kind d.kind

-- the columns numbered `from` of one table and `to` of another: as many, of the same kinds
abbrev pub columns_match : List Column → List ℕ → List Column → List ℕ → Bool
columns_match columns [] others [] = true
columns_match columns [] others (d ∷ to) = false
columns_match columns (c ∷ from) others [] = false
columns_match columns (c ∷ from) others (d ∷ to) =
    same_kind (slice_get columns c) (slice_get others d) && columns_match columns from others to

-- a foreign key of a table with these columns; the referenced table, if it is there
abbrev pub foreign_sound : List Column → Option Table → ForeignKey → Bool
foreign_sound columns None foreign = false
foreign_sound columns (Some other) foreign = columns_match columns foreign.from other.columns foreign.to

-- the columns are there
abbrev pub are_below : List ℕ → ℕ → Bool
are_below numbers end = list_all (λ n. nat_lt n end) numbers

abbrev pub side_there : List Column → Side → Bool
side_there columns (side.Column c) = nat_lt c (length columns)
side_there columns (side.Constant x) = true

abbrev pub leaf_there : List Column → CheckLeaf → Bool
leaf_there columns (leaf.Cmp o a b) = side_there columns a && side_there columns b
leaf_there columns (leaf.IsNull a) = side_there columns a
leaf_there columns (leaf.Between a low high) = side_there columns a && (side_there columns low && side_there columns high)
leaf_there columns (leaf.OneOf a items) = side_there columns a && list_all (side_there columns) items

abbrev pub part_there : List Column → CheckPart → Bool
part_there columns part = list_all (λ atom. leaf_there columns atom.of) part.all

-- the columns that a check names are there
abbrev pub check_there : List Column → Condition → Bool
check_there columns check = list_all (part_there columns) check.any

-- the kind of a side; NULL has none
abbrev pub side_kind : List Column → Side → Option ColKind
side_kind columns (side.Column c) = option_map (λ column. column.kind) (slice_get columns c)
side_kind columns (side.Constant v.Null) = None
side_kind columns (side.Constant (v.Int n)) = Some Whole
side_kind columns (side.Constant (v.Text t)) = Some Text

-- equal kinds, or one that is missing
abbrev pub kinds_match : Option ColKind → Option ColKind → Bool
kinds_match None k = true
kinds_match (Some k) None = true
kinds_match (Some k) (Some l) = kind_eq k l

abbrev pub sides_fit : List Column → Side → Side → Bool
sides_fit columns a b = kinds_match (side_kind columns a) (side_kind columns b)

-- BETWEEN compares the first with the second and with the third, IN the first with each item
abbrev pub leaf_typed : List Column → CheckLeaf → Bool
leaf_typed columns (leaf.Cmp o a b) = sides_fit columns a b
leaf_typed columns (leaf.IsNull a) = true
leaf_typed columns (leaf.Between a low high) = sides_fit columns a low && sides_fit columns a high
leaf_typed columns (leaf.OneOf a items) = list_all (sides_fit columns a) items

abbrev pub part_typed : List Column → CheckPart → Bool
part_typed columns part = list_all (λ atom. leaf_typed columns atom.of) part.all

-- a check compares no whole number with a text
abbrev pub check_typed : List Column → Condition → Bool
check_typed columns check = list_all (part_typed columns) check.any

abbrev pub rule_sound : List Table → List Column → Rule → Bool
rule_sound tables columns (NotNull column) = nat_lt column (length columns)
rule_sound tables columns (Key key) = are_below key (length columns)
rule_sound tables columns (Foreign foreign) = foreign_sound columns (slice_get tables foreign.table) foreign
rule_sound tables columns (Check check) = check_there columns check && check_typed columns check
rule_sound tables columns (Depend d) = are_below d.from (length columns) && are_below d.to (length columns)

abbrev pub table_sound : List Table → Table → Bool
table_sound tables table = list_all (rule_sound tables table.columns) table.rules

abbrev pub is_sound : List Table → Bool
is_sound tables = list_all (table_sound tables) tables

-- the kinds of a table's columns
abbrev pub kinds_of : List Column → List ColKind
kinds_of columns = map (λ column. column.kind) columns

-- the kinds of all columns, table by table
abbrev pub schema_kinds : List Table → List (List ColKind)
schema_kinds tables = map (λ table. kinds_of table.columns) tables
