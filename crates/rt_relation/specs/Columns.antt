-- Columns by their names: the place of a name, and what two lists of columns share.
use Rattle.std.specs.Prelude.{ℕ, ◌+◌, Bool, true, false, ◌&&◌, if◌then◌else◌, map, List, [], ◌∷◌, ◌++◌, length, Option, Some, None, Result, Ok, Err, nat_lt, ◌==◌, slice_get, bytes_eq, take}
use Rattle.rt_algebra.specs.TextColumns as columns
use Rattle.rt_schema.specs.Schema.{kind_eq}
use Rattle.rt_schema.specs.declared.table.ColKind.{ColKind}
use Rattle.rt_relation.specs.Fault.{◌>>=◌}
use Rattle.rt_relation.specs.declared.column.Column.{Column}
use Rattle.rt_ra_tree.specs.declared.fault.RaFault.{RaFault}
use Rattle.rt_ra_tree.specs.declared.fault.RaFault.TheVariants as fault
use Rattle.rt_ra_tree.specs.declared.tree.RaNames.{RaNames}

abbrev pub Text : Type 0
Text = List ℕ

abbrev pub bounded : ℕ → Column → Column
bounded n c = record c { bound = n }

abbrev pub called : Text → ColKind → ℕ → Column
called name kind bound = record { name = name; kind = kind; bound = bound }

-- the place of the name among the names, or their number where there is none
abbrev pub place : Text → List Text → ℕ
place n [] = 0
place n (m ∷ ms) = if bytes_eq m n then 0 else place n ms + 1

abbrev pub has : Text → List Text → Bool
has n ms = nat_lt (place n ms) (length ms)

-- the names that are not among the others
abbrev pub further_names : List Text → List Text → List Text
further_names [] others = []
further_names (n ∷ ns) others = if has n others then further_names ns others else n ∷ further_names ns others

abbrev pub names : List Column → List Text
names cs = map (λ c. c.name) cs

abbrev pub texts : RaNames → List Text
texts ns = ns.head.text ∷ map (λ n. n.text) ns.tail

-- ---- names that are refused

abbrev pub known : Text → Option Column → Result Column RaFault
known n None = Err (fault.UnknownColumn n)
known n (Some c) = Ok c

abbrev pub column_at : Text → List Column → Result Column RaFault
column_at n cs = known n (slice_get cs (place n (names cs)))

abbrev pub among : Text → List Text → Bool
among n [] = false
among n (m ∷ ms) = if bytes_eq m n then true else among n ms

-- the first name that is among those before it, from number `at` on
abbrev pub twice : List Text → ℕ → List Text → Option Text
twice all at [] = None
twice all at (n ∷ ns) = if among n (take at all) then Some n else twice all (at + 1) ns

abbrev pub unless_twice : {A : Type 0} → Option Text → A → Result A RaFault
unless_twice None x = Ok x
unless_twice (Some n) x = Err (fault.DuplicateColumn n)

-- the first of the columns that the others have, or lack
abbrev pub shared : List Column → List Column → Option Text
shared [] others = None
shared (c ∷ cs) others = if has c.name (names others) then Some c.name else shared cs others

abbrev pub lacked : List Column → List Column → Option Text
lacked [] others = None
lacked (c ∷ cs) others = if has c.name (names others) then lacked cs others else Some c.name

-- ---- columns of two operands

abbrev pub fits : Column → Option Column → Bool
fits c None = true
fits c (Some d) = kind_eq c.kind d.kind

-- whether columns of one name are of one kind
abbrev pub common_fit : List Column → List Column → Bool
common_fit [] others = true
common_fit (c ∷ cs) others = fits c (slice_get others (place c.name (names others))) && common_fit cs others

abbrev pub if_fit : {A : Type 0} → List Column → List Column → A → Result A RaFault
if_fit cs ds x = if common_fit cs ds then Ok x else Err fault.TypeMismatch

-- the columns that the others have not
abbrev pub further_columns : List Column → List Column → List Column
further_columns [] others = []
further_columns (c ∷ cs) others = if has c.name (names others) then further_columns cs others else c ∷ further_columns cs others

-- the columns of these names, after those so far
abbrev pub picked : List Column → List Text → List Column → Result (List Column) RaFault
picked all [] cs = Ok all
picked all (n ∷ ns) cs = column_at n cs >>= λ c. picked (all ++ c ∷ []) ns cs

abbrev pub named : Text → Column → Column
named n c = record c { name = n }

abbrev pub renamed : List Text → List Column → List Column
renamed [] cs = []
renamed (n ∷ ns) [] = []
renamed (n ∷ ns) (c ∷ cs) = named n c ∷ renamed ns cs

-- the first operand's names, and the greater bounds
abbrev pub widened : List Column → List Column → List Column
widened cs ds = columns.widened (λ c. c.bound) bounded cs ds

abbrev pub same_kinds : List Column → List Column → Bool
same_kinds cs ds = columns.same_kinds (λ c. c.kind) cs ds

-- the columns of two operands of a set operator
abbrev pub united_columns : List Column → List Column → Result (List Column) RaFault
united_columns cs ds =
    if length cs == length ds then (if same_kinds cs ds then Ok (widened cs ds) else Err fault.TypeMismatch)
    else Err fault.Columns
