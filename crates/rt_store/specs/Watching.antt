-- Two watched literals: the first two of each clause, and the lists that hold their watches.
use Rattle.std.specs.Prelude.{◌≡◌, ◌≢◌, ℕ, ◌≤◌, Bool, false, cond, nat_eq, List, [], ◌∷◌, length, slice_index_or, Option, Some, None}
use Rattle.std.specs.List.{sum_by}
use Rattle.rt_clause.specs.Literal.{Literal}

-- what a list says of a watch: whether its clause has two literals only, and another literal of the clause
pub record Listed : Type 0 where
  pub watch : ℕ
  pub two : Bool
  pub other : Literal

-- the same watch with another literal
abbrev pub noted : Listed → Literal → Listed
noted e l = record { watch = e.watch; two = false; other = l }

-- the lists of watches, and for how many more each has room
pub record Lists : Type 0 where
  pub lists : List (List Listed)
  pub rooms : List ℕ

abbrev pub list_at : List (List Listed) → ℕ → List Listed
list_at lists k = slice_index_or lists k []

abbrev pub room_at : List ℕ → ℕ → ℕ
room_at rooms k = slice_index_or rooms k 0

-- 1 for an entry of the watch, and 0 for another
abbrev pub tells : ℕ → Listed → ℕ
tells w e = cond (nat_eq e.watch w) 1 0

-- how many entries a watch has in a list
abbrev pub times : ℕ → List Listed → ℕ
times w entries = sum_by (tells w) entries

-- only one list differs, and no room is lost elsewhere
pub record IsEdited (old new : Lists) (k : ℕ) : Type 0 where
  pub others : (j : ℕ) → j ≢ k → list_at new.lists j ≡ list_at old.lists j
  pub rooms : (j : ℕ) → j ≢ k → room_at old.rooms j ≤ room_at new.rooms j
  pub len : length new.lists ≡ length old.lists

-- the literal at one of the first two places, where there are two
abbrev pub literal_in : List Literal → ℕ → Option Literal
literal_in [] p = None
literal_in (a ∷ []) p = None
literal_in (a ∷ b ∷ ls) p = Some (cond (nat_eq p 0) a b)
