-- What becomes of a watched literal that is false.
use Rattle.std.specs.Prelude.{◌≡◌, ◌≢◌, ℕ, ◌+◌, ◌-◌, ◌/◌, ◌%◌, ◌<◌, ◌≤◌, Bool, true, false, List, ◌∷◌, length, Some, ◌⊎◌, slice_index_or, slice_set}
use Rattle.rt_clause.specs.Literal.{Literal}
use Rattle.rt_clause.specs.Lists.{has, is_false, line_at}
use Rattle.rt_store.specs.declared.trail.Step.{Step}
use Rattle.rt_store.specs.declared.trail.Why.TheVariants.{Line}
use Rattle.rt_solver.specs.declared.turn.Turn.{Turn}
use Rattle.rt_solver.specs.declared.turn.Turn.TheVariants.{Met, Stays, Moves, Broken}
use Rattle.rt_store.specs.Trail.{lits, IsUnit}
use Rattle.rt_store.specs.Same.{IsSame, IsSpread}
use Rattle.rt_store.specs.Watching.{Listed, list_at, literal_in}
use Rattle.rt_solver.specs.Looking.{IsBroken}
use Rattle.rt_solver.specs.Propagating.{IsEntry, AreListed}

-- from one place on and before another each literal is false, or the other watched one
abbrev pub AreFalseWithin : List Step → List Literal → Literal → ℕ → ℕ → Type 0
AreFalseWithin trail clause other from to = (j : ℕ) (l : Literal) → from ≤ j → j < to → l ≡ slice_index_or clause j l → (l ≡ other) ⊎ (is_false (lits trail) l ≡ true)

-- so is each from the third place on
abbrev pub AreFalseFrom : List Step → List Literal → Literal → Type 0
AreFalseFrom trail clause other = AreFalseWithin trail clause other 2 (length clause)

-- a literal that may be watched
pub record IsFreeAt (trail : List Step) (clause : List Literal) (other : Literal) (j : ℕ) : Type 0 where
  pub low : 2 ≤ j
  pub within : j < length clause
  pub usable : (l : Literal) → l ≡ slice_index_or clause j l → (l ≢ other) × (is_false (lits trail) l ≡ false)

-- a literal of the clause is true, and was so or is now, since the others were false
pub record IsHeld (clause : List Literal) (old new : List Step) (number : ℕ) (l : Literal) : Type 0 where
  pub among : has clause l ≡ true
  pub true_now : has (lits new) l ≡ true
  pub steps : (new ≡ old) ⊎ ((new ≡ record { lit = l; why = Line number } ∷ old) × IsUnit clause (lits old) l)

-- the literal at a place may be watched in place of the one at a watched place
abbrev pub IsFree : List Step → List Literal → ℕ → ℕ → Type 0
IsFree trail clause place j = (other : Literal) × (literal_in clause (1 - place) ≡ Some other) × IsFreeAt trail clause other j

-- the last literal of a clause that was left is false, or is true now
abbrev pub IsLast : List Literal → List Step → List Step → ℕ → Literal → Bool → Type 0
IsLast clause old new number l true = IsBroken (lits old) clause × (new ≡ old)
IsLast clause old new number l false = IsHeld clause old new number l

abbrev pub IsTurn : List Literal → List Step → List Step → ℕ → ℕ → Turn → Type 0
IsTurn clause old new place number Met = (l : Literal) × IsHeld clause old new number l
IsTurn clause old new place number (Stays l) = IsHeld clause old new number l
IsTurn clause old new place number (Moves j) = IsFree old clause place j × (new ≡ old)
IsTurn clause old new place number Broken = IsBroken (lits old) clause × (new ≡ old)

-- an entry whose watched literal is false
pub record IsTurned (clauses : List (List Literal)) (trail : List Step) (e : Listed) : Type 0 where
  pub home : ℕ
  pub entry : IsEntry clauses home e
  pub denied : is_false (lits trail) entry.watch.lit ≡ true

-- another literal is watched
pub record IsMoved (old new : List Literal) (place : ℕ) (l : Literal) : Type 0 where
  pub same : IsSame old new
  pub at : literal_in new place ≡ Some l
  pub other : literal_in new (1 - place) ≡ literal_in old (1 - place)
  pub spread : IsSpread new

-- the literal at a place is neither of the watched ones
pub record IsUnwatched (clause : List Literal) (j : ℕ) : Type 0 where
  pub low : 2 ≤ j
  pub within : j < length clause
  pub apart : (p : ℕ) (l : Literal) → literal_in clause p ≡ Some l → l ≢ slice_index_or clause j l

-- an entry went from a list to that of the literal at a place of its clause, which is watched from then on
pub record IsShifted (old new : List (List Literal)) (before after : List (List Listed)) (home i j : ℕ) : Type 0 where
  pub entry : Listed
  pub at : entry ≡ slice_index_or (list_at before home) i entry
  pub lit : Literal
  pub read : lit ≡ slice_index_or (line_at old (entry.watch / 2)) j lit
  pub clause : List Literal
  pub lines : new ≡ slice_set old (entry.watch / 2) clause
  pub moved : IsMoved (line_at old (entry.watch / 2)) clause (entry.watch % 2) lit
  pub listed : AreListed new after
  pub behind : (k : ℕ) (e : Listed) → i ≤ k → k < length (list_at after home) → e ≡ slice_index_or (list_at after home) k e → (m : ℕ) × (i < m) × (m < length (list_at before home)) × (e ≡ slice_index_or (list_at before home) m e)
  pub shorter : length (list_at after home) + 1 ≡ length (list_at before home)
  pub len : length after ≡ length before
