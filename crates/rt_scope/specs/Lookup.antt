-- Which column a name means (ISO/IEC 9075-2, column reference, scope of a correlation name).
use Rattle.std.specs.Prelude.{ℕ, ◌+◌, Bool, false, List, [], ◌∷◌, Option, Some, None, Result, Ok, Err, if◌then◌else◌}
use Rattle.std.specs.Str.{bytes_eq}
use Rattle.rt_algebra.specs.declared.expr.Expr.TheVariants.{Col}
use Rattle.rt_scope.specs.declared.column.Column.{Column}
use Rattle.rt_scope.specs.declared.fault.NameFault.{NameFault}
use Rattle.rt_scope.specs.declared.fault.NameFault.TheVariants.{Ambiguous, UnknownColumn, UnknownTable}
use Rattle.rt_scope.specs.declared.lookup.Found.{Found}
use Rattle.rt_scope.specs.declared.lookup.Seen.{Seen}
use Rattle.rt_scope.specs.declared.lookup.Seen.TheVariants.{Nobody, One, Many}
use Rattle.rt_scope.specs.declared.scalar.Scalar.{Scalar}
use Rattle.rt_scope.specs.declared.source.Source.{Source}

abbrev pub Text : Type 0
Text = List ℕ

-- the visible sources of each SELECT around, innermost first
abbrev pub Scopes : Type 0
Scopes = List (List Source)

abbrev pub has_name : Text → Option Text → Bool
has_name name (Some own) = bytes_eq own name
has_name name None = false

abbrev pub is_named : Text → Column → Bool
is_named name c = has_name name c.name

abbrev pub found : ℕ → Column → Found
found at c = record { at = at; kind = c.kind; bound = c.bound }

abbrev pub see : Seen → Found → Seen
see Nobody f = One f
see (One g) f = Many
see Many f = Many

-- the columns of the name, the first one of all being at `at`
abbrev pub seen_columns : Text → Seen → ℕ → List Column → Seen
seen_columns name seen at [] = seen
seen_columns name seen at (c ∷ cs) = seen_columns name (if is_named name c then see seen (found at c) else seen) (at + 1) cs

abbrev pub seen_sources : Text → Seen → List Source → Seen
seen_sources name seen [] = seen
seen_sources name seen (s ∷ ss) = seen_sources name (seen_columns name seen s.start s.columns) ss

-- a column found `up` scopes outward
abbrev pub column_of : ℕ → Found → Scalar
column_of up f = record { expr = Col up f.at; kind = Some f.kind; bound = f.bound }

-- just one column is meant; where there is none, what the scopes further out give
abbrev pub meant : ℕ → Text → Seen → Result Scalar NameFault → Result Scalar NameFault
meant up name Nobody outer = outer
meant up name (One f) outer = Ok (column_of up f)
meant up name Many outer = Err (Ambiguous name)

-- a name without a qualifier: the innermost scope that has it
abbrev pub find_column : ℕ → Text → Scopes → Result Scalar NameFault
find_column up name [] = Err (UnknownColumn name)
find_column up name (s ∷ ss) = meant up name (seen_sources name Nobody s) (find_column (up + 1) name ss)

abbrev pub source_named : Text → List Source → Option Source
source_named name [] = None
source_named name (s ∷ ss) = if bytes_eq s.name name then Some s else source_named name ss

abbrev pub of_source : ℕ → Text → Option Source → Result Scalar NameFault → Result Scalar NameFault
of_source up name None outer = outer
of_source up name (Some s) outer = meant up name (seen_columns name Nobody s.start s.columns) (Err (UnknownColumn name))

-- a qualified name: the innermost scope that has the source
abbrev pub find_qualified : ℕ → Text → Text → Scopes → Result Scalar NameFault
find_qualified up source name [] = Err (UnknownTable source)
find_qualified up source name (s ∷ ss) = of_source up name (source_named source s) (find_qualified (up + 1) source name ss)
