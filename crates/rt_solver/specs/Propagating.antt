-- What propagation keeps of the first two literals of each clause, and what it does.
use Rattle.std.specs.Prelude.{◌≡◌, ℕ, ◌/◌, ◌%◌, ◌<◌, ◌≤◌, ◌^◌, Bool, true, false, List, [], ◌∷◌, ◌++◌, length, Some, ◌⊎◌}
use Rattle.std.specs.List.{All as Each, Contains}
use Rattle.rt_clause.specs.Literal.{Literal}
use Rattle.rt_clause.specs.Packed.{packed}
use Rattle.rt_clause.specs.Lists.{has, is_false, line_at, IsMet}
use Rattle.rt_store.specs.declared.trail.Step.{Step}
use Rattle.rt_store.specs.declared.trail.Why.TheVariants.{Line}
use Rattle.rt_store.specs.Trail.{lits, IsUnit, BeforeDecisions}
use Rattle.rt_solver.specs.Looking.{IsBroken, HasTrue}
use Rattle.rt_store.specs.Same.{IsSpread}
use Rattle.rt_store.specs.Watching.{Listed, Lists, list_at, room_at, times, literal_in}

-- there are two literals, and neither of the first two is false
abbrev pub AreLeft : List Literal → List Literal → Type 0
AreLeft early [] = ⊥
AreLeft early (a ∷ []) = ⊥
AreLeft early (a ∷ b ∷ ls) = (is_false early a ≡ false) × (is_false early b ≡ false)

-- some literal is true, or neither of the first two is false under the early ones
abbrev pub IsWatched : List Literal → List Literal → List Literal → Type 0
IsWatched early set clause = HasTrue set clause ⊎ AreLeft early clause

abbrev pub IsPart : List Literal → List Literal → Type 0
IsPart part set = (l : Literal) → has part l ≡ true → has set l ≡ true

-- before each decision propagation had come to its end
abbrev pub AreWatchedBefore : List (List Literal) → List Step → Type 0
AreWatchedBefore clauses trail = (i : ℕ) → i < length clauses → BeforeDecisions (λ set. IsWatched set set (line_at clauses i)) trail

-- the early literals are propagated: they are all but those since the newest decision
pub record IsQueued (clauses : List (List Literal)) (early : List Literal) (trail : List Step) : Type 0 where
  pub before : AreWatchedBefore clauses trail
  pub done : (i : ℕ) → i < length clauses → IsWatched early (lits trail) (line_at clauses i)
  pub within : BeforeDecisions (λ set. IsPart set early) trail

-- all but the newest step are propagated
abbrev pub IsQueuedNow : List (List Literal) → List Step → Type 0
IsQueuedNow clauses [] = ⊥
IsQueuedNow clauses (s ∷ early) = IsQueued clauses (lits early) (s ∷ early)

-- a step that rests on a line which was unit
pub record IsForced (lines : List (List Literal)) (set : List Literal) (s : Step) : Type 0 where
  pub line : ℕ
  pub why : s.why ≡ Line line
  pub within : line < length lines
  pub unit : IsUnit (line_at lines line) set s.lit

abbrev pub AreForced : List (List Literal) → List Step → List Step → Type 0
AreForced lines [] trail = Unit {0}
AreForced lines (s ∷ above) trail = IsForced lines (lits (above ++ trail)) s × AreForced lines above trail

-- steps were added, each of them forced
pub record IsPropagated (lines : List (List Literal)) (old new : List Step) : Type 0 where
  pub above : List Step
  pub steps : new ≡ above ++ old
  pub forced : AreForced lines above old

-- a clause is there in which each literal is false
abbrev pub IsConflict : List (List Literal) → List Step → ℕ → Type 0
IsConflict clauses trail i = (i < length clauses) × IsBroken (lits trail) (line_at clauses i)

-- all is propagated, so that each line is met
abbrev pub IsDone : List (List Literal) → List (List Literal) → List Step → Type 0
IsDone lines clauses trail = IsQueued clauses (lits trail) trail × ((i : ℕ) → i < length lines → IsMet (lits trail) (line_at lines i))

-- at most one step was added, which the clause forces
abbrev pub IsTakenStep : List Literal → ℕ → List Step → List Step → Type 0
IsTakenStep clause number old new = (new ≡ old) ⊎ ((l : Literal) × (new ≡ record { lit = l; why = Line number } ∷ old) × IsUnit clause (lits old) l)

-- each literal is false; or the clause has two literals or more, or a true one
abbrev pub IsShortAs : Bool → List Literal → List Step → Type 0
IsShortAs true clause trail = IsBroken (lits trail) clause
IsShortAs false clause trail = IsWatched [] (lits trail) clause

-- the numbers are those of clauses, and each clause of fewer than two literals has its number there
pub record AreShort (clauses : List (List Literal)) (numbers : List ℕ) : Type 0 where
  pub within : Each (λ i. i < length clauses) numbers
  pub all : (i : ℕ) → i < length clauses → length (line_at clauses i) < 2 → Contains numbers i

-- the literal of the watch has this list
pub record IsWatchOf (clauses : List (List Literal)) (w k : ℕ) : Type 0 where
  pub lit : Literal
  pub at : literal_in (line_at clauses (w / 2)) (w % 2) ≡ Some lit
  pub home : packed lit ≡ k

-- an entry of this list: of a watch of it, with a literal of the clause, which is the other one of two where it says so
pub record IsEntry (clauses : List (List Literal)) (k : ℕ) (e : Listed) : Type 0 where
  pub watch : IsWatchOf clauses e.watch k
  pub among : has (line_at clauses (e.watch / 2)) e.other ≡ true
  pub pair : e.two ≡ true → (l : Literal) → has (line_at clauses (e.watch / 2)) l ≡ true → (l ≡ watch.lit) ⊎ (l ≡ e.other)

-- each list has entries of its watches alone, and each watch one, the first two literals of a clause differ, and
-- there are lists for all literals, and few of them
pub record AreListed (clauses : List (List Literal)) (lists : List (List Listed)) : Type 0 where
  pub entries : (k : ℕ) → Each (IsEntry clauses k) (list_at lists k)
  pub once : (k w : ℕ) → IsWatchOf clauses w k → times w (list_at lists k) ≡ 1
  pub spread : (i : ℕ) → i < length clauses → IsSpread (line_at clauses i)
  pub wide : (i : ℕ) → i < length clauses → (l : Literal) → has (line_at clauses i) l ≡ true → packed l < length lists
  pub few : length lists ≤ 2 ^ 32

-- there is a list for each of these literals
abbrev pub HasLists : List (List Listed) → List Literal → Type 0
HasLists lists clause = (l : Literal) → has clause l ≡ true → packed l < length lists

-- and room in those of the first two, where there are two
abbrev pub HasRoom : Lists → List Literal → Type 0
HasRoom watches [] = Unit {0}
HasRoom watches (a ∷ []) = Unit {0}
HasRoom watches (a ∷ b ∷ ls) = (0 < room_at watches.rooms (packed a)) × (0 < room_at watches.rooms (packed b))
