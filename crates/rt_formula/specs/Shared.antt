-- Shared formulas: entries, each over nodes before it, and their values.
use Rattle.std.specs.Prelude.{◌≡◌, ℕ, ◌<◌, ◌^◌, Bool, true, false, not, List, [], ◌∷◌, ◌++◌, length, take, slice_get, slice_index_or, fold, Some}
use Rattle.std.specs.List.{list_all, list_any, All as Each}
use Rattle.rt_formula.specs.declared.entry.Entry.{Entry}
use Rattle.rt_formula.specs.declared.entry.Entry.TheVariants.{Yes, No, Row, Not, All, Any}

-- a number of row variables, and the entries in order: a node is the number of its entry
pub record Shared : Type 0 where
  pub rows : ℕ
  pub entries : List Entry

-- the Bool at a place, and false past the end
abbrev pub bool_at : List Bool → ℕ → Bool
bool_at bools n = slice_index_or bools n false

-- the value of an entry, given the values of the nodes before it
abbrev pub entry_value : List Bool → List Bool → Entry → Bool
entry_value keep before Yes = true
entry_value keep before No = false
entry_value keep before (Row v) = bool_at keep v
entry_value keep before (Not a) = not (bool_at before a)
entry_value keep before (All of) = list_all (bool_at before) of
entry_value keep before (Any of) = list_any (bool_at before) of

-- the values of all nodes, in order
unfoldable pub values : List Bool → List Entry → List Bool
values keep entries = fold (λ before e. before ++ entry_value keep before e ∷ []) [] entries

-- the value of a node at a choice of rows, one Bool for each
abbrev pub val : Shared → List Bool → ℕ → Bool
val shared keep node = bool_at (values keep shared.entries) node

-- the nodes that an entry names
abbrev pub children : Entry → List ℕ
children (Not a) = a ∷ []
children (All of) = of
children (Any of) = of
children Yes = []
children No = []
children (Row v) = []

-- the rows that an entry names
abbrev pub named_rows : Entry → List ℕ
named_rows (Row v) = v ∷ []
named_rows Yes = []
named_rows No = []
named_rows (Not a) = []
named_rows (All of) = []
named_rows (Any of) = []

-- an entry at a place names rows, and nodes before it
pub record Fits (rows place : ℕ) (e : Entry) : Type 0 where
  pub below : Each (λ k. k < place) (children e)
  pub row : Each (λ v. v < rows) (named_rows e)

-- The first two nodes are yes and no, and each entry is over nodes before it. There are fewer than
-- 2 ^ 60, and no two are equal.
pub record IsSound (shared : Shared) : Type 0 where
  pub yes : slice_get shared.entries 0 ≡ Some Yes
  pub no : slice_get shared.entries 1 ≡ Some No
  pub fits : (i : ℕ) (e : Entry) → slice_get shared.entries i ≡ Some e → Fits shared.rows i e
  pub few : length shared.entries < 2 ^ 60
  pub distinct : (i j : ℕ) (e : Entry) → slice_get shared.entries i ≡ Some e → slice_get shared.entries j ≡ Some e → i ≡ j

-- the rows stay, and entries may be added at the end
pub record IsGrown (old new : Shared) : Type 0 where
  pub rows : new.rows ≡ old.rows
  pub more : List Entry
  pub entries : new.entries ≡ old.entries ++ more

-- the first entries alone
abbrev pub truncated : ℕ → Shared → Shared
truncated len shared = record { rows = shared.rows; entries = take len shared.entries }
