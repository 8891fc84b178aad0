-- A set of literals: marks of some of them, and an ordered set of the others.
use Rattle.std.specs.Prelude.{◌≡◌, ℕ, Bool, false, List, length, nat_lt, if◌then◌else◌, slice_index_or}
use Rattle.std.specs.BTreeMap.{is_at}
use Rattle.std.specs.List.{list_any}
use Rattle.std.specs.Ordering.{nat_cmp}
use Rattle.rt_clause.specs.Literal.{Literal}
use Rattle.rt_clause.specs.Lists.{has}
use Rattle.rt_clause.specs.Packed.{packed}

-- the marks end where the numbers of the ordered set may begin
abbrev pub marked_at : List Bool → List ℕ → Literal → Bool
marked_at marks far l = if nat_lt (packed l) (length marks) then slice_index_or marks (packed l) false else list_any (is_at (nat_cmp (packed l))) far

-- just the literals of the list are marked
abbrev pub AreMarks : List Bool → List ℕ → List Literal → Type 0
AreMarks marks far lits = (l : Literal) → marked_at marks far l ≡ has lits l
