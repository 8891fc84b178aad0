-- Sets of literals, unit propagation over a list of clauses, and what follows by it. A set is
-- written as a list, of which only membership counts. Checking a clause along hints is reverse
-- unit propagation, as in the proof formats DRUP and LRAT.
use Rattle.std.specs.Prelude.{◌≡◌, ◌≢◌, ℕ, ◌<◌, Bool, true, false, not, cond, ◌⊎◌, List, [], ◌∷◌, ◌++◌, map, filter, length, slice_index_or, Option, IfSome}
use Rattle.std.specs.List.{list_all, list_any}
use Rattle.rt_clause.specs.Literal.{Literal, negated, lit_eq}

-- whether a set of literals, written as a list, has a literal
abbrev pub has : List Literal → Literal → Bool
has set l = list_any (lit_eq l) set

-- a literal is false under a set that has its negation
abbrev pub is_false : List Literal → Literal → Bool
is_false set l = has set (negated l)

-- the literals of a clause that are not false
abbrev pub left : List Literal → List Literal → List Literal
left set clause = filter (λ l. not (is_false set l)) clause

abbrev pub line_at : List (List Literal) → ℕ → List Literal
line_at lines i = slice_index_or lines i []

-- the clause has a literal of the set, or two different literals that are not false
abbrev pub IsMet : List Literal → List Literal → Type 0
IsMet set clause = ((l : Literal) × (has clause l ≡ true) × (has set l ≡ true))
    ⊎ ((k : Literal) × (l : Literal) × (has clause k ≡ true) × (has clause l ≡ true) × (k ≢ l) × (is_false set k ≡ false) × (is_false set l ≡ false))

-- the set has no literal with its negation, and propagation over the lines adds nothing to it and
-- finds no conflict
pub record Closed (lines : List (List Literal)) (set : List Literal) : Type 0 where
  pub consistent : (l : Literal) → has set l ≡ true → has set (negated l) ≡ false
  pub met : (i : ℕ) → i < length lines → IsMet set (line_at lines i)

-- no variable occurs twice
abbrev pub HasNoRepeat : List Literal → Type 0
HasNoRepeat [] = Unit {0}
HasNoRepeat (l ∷ ls) = ((k : Literal) → has ls k ≡ true → k.var ≢ l.var) × HasNoRepeat ls

-- a clause that propagation over the lines does not give: front and then last
pub record Fresh (lines : List (List Literal)) (assume : Option Literal) (clause : List Literal) : Type 0 where
  pub front : List Literal
  pub last : Literal
  pub parts : clause ≡ front ++ last ∷ []
  pub once : HasNoRepeat clause
  pub set : List Literal
  pub closed : Closed lines set
  pub assumed : IfSome assume (λ l. has set l ≡ true)
  pub denied : (l : Literal) → has front l ≡ true → has set (negated l) ≡ true
  pub unset : has set last ≡ false
  pub unset_negated : has set (negated last) ≡ false

-- unit propagation from a set along hints ends in a false line
abbrev pub propagates : List (List Literal) → List Literal → List ℕ → Bool
propagates lines set [] = false
propagates lines set (h ∷ hints) =
    elim (left set (line_at lines h)) [
      | [] ↦ true
      | l ∷ ls ↦ cond (list_all (lit_eq l) ls) (propagates lines (l ∷ set) hints) false
    ]

abbrev pub follows : List (List Literal) → List Literal → List ℕ → Bool
follows lines clause hints = propagates lines (map negated clause) hints

-- the set decides each variable below n
abbrev pub Decides : List Literal → ℕ → Type 0
Decides set n = (v : ℕ) → v < n → (on : Bool) × (has set (record { var = v; on = on }) ≡ true)

-- whichever closed set decides the variables below n decides those below m
abbrev pub Determined : List (List Literal) → ℕ → ℕ → Type 0
Determined lines n m = (set : List Literal) → Closed lines set → Decides set n → Decides set m

-- each variable of the clause is below m
abbrev pub IsBelow : ℕ → List Literal → Type 0
IsBelow m clause = (l : Literal) → has clause l ≡ true → l.var < m

abbrev pub AreBelow : ℕ → List (List Literal) → Type 0
AreBelow m lines = (i : ℕ) → i < length lines → IsBelow m (line_at lines i)
