-- Clauses under a list of Bools, one a variable.
use Rattle.std.specs.Prelude.{◌≡◌, ℕ, ◌<◌, Bool, true, false, List, length, slice_index_or}
use Rattle.std.specs.Bool.{beq}
use Rattle.std.specs.List.{list_any}
use Rattle.rt_clause.specs.Literal.{Literal}
use Rattle.rt_clause.specs.Lists.{line_at}

abbrev pub lit_true : List Bool → Literal → Bool
lit_true bools l = beq (slice_index_or bools l.var false) l.on

-- some literal of the clause is true
abbrev pub clause_true : List Bool → List Literal → Bool
clause_true bools clause = list_any (lit_true bools) clause

-- each line has a true literal
abbrev pub IsModel : List (List Literal) → List Bool → Type 0
IsModel lines bools = (i : ℕ) → i < length lines → clause_true bools (line_at lines i) ≡ true
