-- Which nodes and rows are under a node; marks of nodes are a Bool for each node up to it.
use Rattle.std.specs.Prelude.{◌≡◌, ℕ, ◌+◌, ◌≤◌, Bool, true, false, List, length, slice_get, slice_index_or, Some}
use Rattle.std.specs.List.{All as Each}
use Rattle.rt_formula.specs.declared.entry.Entry.{Entry}
use Rattle.rt_formula.specs.declared.entry.Entry.TheVariants.{Row}
use Rattle.rt_formula.specs.Shared.{Shared, children}

abbrev pub is_marked : List Bool → ℕ → Bool
is_marked marks k = slice_index_or marks k false

-- a mark stays as further ones are set
abbrev pub MarksStay : List Bool → List Bool → Type 0
MarksStay old new = (k : ℕ) → is_marked old k ≡ true → is_marked new k ≡ true

-- the marks from a place on are as they were
abbrev pub SameFrom : ℕ → List Bool → List Bool → Type 0
SameFrom low old new = (k : ℕ) → low ≤ k → is_marked new k ≡ is_marked old k

-- with each marked node from `low` up to the goal those are marked that its entry names
abbrev pub AreClosedFrom : Shared → ℕ → ℕ → List Bool → Type 0
AreClosedFrom d goal low marks = (k : ℕ) (e : Entry) → low ≤ k → k ≤ goal → slice_get d.entries k ≡ Some e → is_marked marks k ≡ true
    → Each (λ c. is_marked marks c ≡ true) (children e)

-- with each marked node those are marked that its entry names
abbrev pub AreClosed : Shared → List Bool → Type 0
AreClosed d marks = (k : ℕ) (e : Entry) → slice_get d.entries k ≡ Some e → is_marked marks k ≡ true → Each (λ c. is_marked marks c ≡ true) (children e)

-- a node is under the goal if it is in each set of nodes that has the goal and, with each node,
-- those that its entry names
abbrev pub StandsUnder : Shared → ℕ → ℕ → Type 0
StandsUnder d goal n = (marks : List Bool) → is_marked marks goal ≡ true → AreClosed d marks → is_marked marks n ≡ true

-- just the nodes under the goal are marked, so the goal is, and with each marked node those that
-- its entry names
pub record AreUnder (d : Shared) (goal : ℕ) (marks : List Bool) : Type 0 where
  pub long : length marks ≡ goal + 1
  pub goal_is : is_marked marks goal ≡ true
  pub closed : AreClosedFrom d goal 0 marks
  pub stand : (k : ℕ) → is_marked marks k ≡ true → StandsUnder d goal k

-- a row whose variable is under the goal
pub record RowStands (d : Shared) (goal v : ℕ) : Type 0 where
  pub node : ℕ
  pub stands : StandsUnder d goal node
  pub names : slice_get d.entries node ≡ Some (Row v)

-- one Bool for each row, true where its variable is under the goal
pub record AreRowsUnder (d : Shared) (goal : ℕ) (rows : List Bool) : Type 0 where
  pub long : length rows ≡ d.rows
  pub all : (v : ℕ) → RowStands d goal v → is_marked rows v ≡ true
  pub only : (v : ℕ) → is_marked rows v ≡ true → RowStands d goal v
