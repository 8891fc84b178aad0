-- Where the columns of the sources are in the rows in scope, and what names mean there.
use Rattle.std.proofs.Common.{◌≡◌, ◌∙◌, ℕ, suc, ◌+◌, Bool, true, false, List, [], ◌∷◌, map, Option, None, Some, Result, Err, ap, arith, slice_get}
use Rattle.std.specs.Prelude.{IfOk, if◌then◌else◌}
use Rattle.std.specs.Str.{bytes_eq}
use Rattle.rt_algebra.specs.Columns as algebra
use Rattle.rt_algebra.proofs.Columned.{column-Col}
use Rattle.rt_schema.specs.declared.table.ColKind.{ColKind}
use Rattle.rt_scope.specs.Lookup.{Text, Scopes, is_named, found, see, seen_columns, seen_sources, meant, find_column, source_named, of_source, find_qualified}
use Rattle.rt_scope.specs.declared.column.Column.{Column}
use Rattle.rt_scope.specs.declared.fault.NameFault.{NameFault}
use Rattle.rt_scope.specs.declared.fault.NameFault.TheVariants.{UnknownColumn}
use Rattle.rt_scope.specs.declared.lookup.Seen.{Seen}
use Rattle.rt_scope.specs.declared.lookup.Seen.TheVariants.{Nobody, One, Many}
use Rattle.rt_scope.specs.declared.scalar.Scalar.{Scalar}
use Rattle.rt_scope.specs.declared.source.Source.{Source}

-- a column as the algebra sees it
abbrev pub column_as : Column → algebra.Column
column_as c = algebra.column c.kind c.bound

abbrev pub kinded : Option ColKind → ℕ → algebra.Column
kinded k n = record { kind = k; bound = n }

abbrev pub columns_as : List Column → algebra.Columns
columns_as cs = map column_as cs

-- the columns are in the row, from a place on
abbrev pub Stand : ℕ → List Column → algebra.Columns → Type 0
Stand at [] row = Unit {0}
Stand at (c ∷ cs) row = (slice_get row at ≡ Some (column_as c)) × Stand (at + 1) cs row

abbrev pub SourcesStand : List Source → algebra.Columns → Type 0
SourcesStand [] row = Unit {0}
SourcesStand (s ∷ ss) row = Stand s.start s.columns row × SourcesStand ss row

abbrev pub ScopesStand : Scopes → algebra.Scopes → Type 0
ScopesStand [] [] = Unit {0}
ScopesStand [] (row ∷ rows) = ⊥
ScopesStand (s ∷ ss) [] = ⊥
ScopesStand (s ∷ ss) (row ∷ rows) = SourcesStand s row × ScopesStand ss rows

-- an expression is typed under the rows, with its kind and its bound
abbrev pub IsTypedScalar : algebra.Scopes → Scalar → Type 0
IsTypedScalar rows x = algebra.column_of x.expr rows ≡ Some (kinded x.kind x.bound)

-- ---- columns that are seen

abbrev SeenStands : algebra.Columns → Seen → Type 0
SeenStands row Nobody = Unit {0}
SeenStands row (One f) = slice_get row f.at ≡ Some (algebra.column f.kind f.bound)
SeenStands row Many = Unit {0}

sees : (row : algebra.Columns) (seen : Seen) (at : ℕ) (c : Column) (b : Bool) → SeenStands row seen → slice_get row at ≡ Some (column_as c)
    → SeenStands row (if b then see seen (found at c) else seen)
sees row seen at c false h e = h
sees row Nobody at c true h e = e
sees row (One f) at c true h e = tt
sees row Many at c true h e = tt

columns-seen : (row : algebra.Columns) (name : Text) (seen : Seen) (at : ℕ) (cs : List Column) → SeenStands row seen → Stand at cs row → SeenStands row (seen_columns name seen at cs)
columns-seen row name seen at [] h s = h
columns-seen row name seen at (c ∷ cs) h s =
    columns-seen row name (if is_named name c then see seen (found at c) else seen) (at + 1) cs (sees row seen at c (is_named name c) h s.0) s.1

sources-seen : (row : algebra.Columns) (name : Text) (seen : Seen) (ss : List Source) → SeenStands row seen → SourcesStand ss row → SeenStands row (seen_sources name seen ss)
sources-seen row name seen [] h s = h
sources-seen row name seen (x ∷ xs) h s =
    sources-seen row name (seen_columns name seen x.start x.columns) xs (columns-seen row name seen x.start x.columns h s.0) s.1

abbrev pub SourceStands : algebra.Columns → Option Source → Type 0
SourceStands row None = Unit {0}
SourceStands row (Some s) = Stand s.start s.columns row

named-or : (row : algebra.Columns) (b : Bool) (s : Source) (o : Option Source) → Stand s.start s.columns row → SourceStands row o → SourceStands row (if b then Some s else o)
named-or row true s o h k = h
named-or row false s o h k = k

pub source-stands : (row : algebra.Columns) (name : Text) (ss : List Source) → SourcesStand ss row → SourceStands row (source_named name ss)
source-stands row name [] s = tt
source-stands row name (x ∷ xs) s = named-or row (bytes_eq x.name name) x (source_named name xs) s.0 (source-stands row name xs s.1)

-- ---- columns that are meant

-- the rows from number `up` on
abbrev RowsFrom : algebra.Scopes → ℕ → algebra.Scopes → Type 0
RowsFrom all up rows = (k : ℕ) → slice_get all (up + k) ≡ slice_get rows k

here : (all : algebra.Scopes) (up : ℕ) (row : algebra.Columns) (rows : algebra.Scopes) → RowsFrom all up (row ∷ rows) → slice_get all up ≡ Some row
here all up row rows from = let e : up ≡ up + 0 = omega arith in ap (slice_get all) e ∙ from 0

further : (all : algebra.Scopes) (up : ℕ) (row : algebra.Columns) (rows : algebra.Scopes) → RowsFrom all up (row ∷ rows) → RowsFrom all (up + 1) rows
further all up row rows from k = let e : up + 1 + k ≡ up + suc k = omega arith in ap (slice_get all) e ∙ from (suc k)

meant-typed : (all : algebra.Scopes) (up : ℕ) (name : Text) (seen : Seen) (outer : Result Scalar NameFault) (row : algebra.Columns) → slice_get all up ≡ Some row
    → SeenStands row seen → IfOk outer (IsTypedScalar all) → IfOk (meant up name seen outer) (IsTypedScalar all)
meant-typed all up name Nobody outer row at h k = k
meant-typed all up name (One f) outer row at h k = column-Col all up f.at ∙ ap (λ o. algebra.column_at o f.at) at ∙ h
meant-typed all up name Many outer row at h k = tt

pub column-typed : (all : algebra.Scopes) (up : ℕ) (name : Text) (ss : Scopes) (rows : algebra.Scopes) → RowsFrom all up rows → ScopesStand ss rows
    → IfOk (find_column up name ss) (IsTypedScalar all)
column-typed all up name [] rows from s = tt
column-typed all up name (x ∷ xs) [] from s = absurd s
column-typed all up name (x ∷ xs) (row ∷ rows) from s =
    meant-typed all up name (seen_sources name Nobody x) (find_column (up + 1) name xs) row (here all up row rows from)
    (sources-seen row name Nobody x tt s.0) (column-typed all (up + 1) name xs rows (further all up row rows from) s.1)

of-source-typed : (all : algebra.Scopes) (up : ℕ) (name : Text) (o : Option Source) (outer : Result Scalar NameFault) (row : algebra.Columns) → slice_get all up ≡ Some row
    → SourceStands row o → IfOk outer (IsTypedScalar all) → IfOk (of_source up name o outer) (IsTypedScalar all)
of-source-typed all up name None outer row at h k = k
of-source-typed all up name (Some s) outer row at h k =
    meant-typed all up name (seen_columns name Nobody s.start s.columns) (Err (UnknownColumn name)) row at (columns-seen row name Nobody s.start s.columns tt h) tt

pub qualified-typed : (all : algebra.Scopes) (up : ℕ) (source name : Text) (ss : Scopes) (rows : algebra.Scopes) → RowsFrom all up rows → ScopesStand ss rows
    → IfOk (find_qualified up source name ss) (IsTypedScalar all)
qualified-typed all up source name [] rows from s = tt
qualified-typed all up source name (x ∷ xs) [] from s = absurd s
qualified-typed all up source name (x ∷ xs) (row ∷ rows) from s =
    of-source-typed all up name (source_named source x) (find_qualified (up + 1) source name xs) row (here all up row rows from)
    (source-stands row source x s.0) (qualified-typed all (up + 1) source name xs rows (further all up row rows from) s.1)

pub rows-from-first : (rows : algebra.Scopes) → RowsFrom rows 0 rows
rows-from-first rows k = let e : 0 + k ≡ k = omega arith in ap (slice_get rows) e
