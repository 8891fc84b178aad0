-- The state of a search.
use Rattle.std.specs.Prelude.{◌≡◌, ℕ, ◌<◌, ◌≤◌, Bool, true, List, [], ◌∷◌, ◌++◌, map, length, Option, Some, None, IfSome, IsSome}
use Rattle.std.specs.Option.{option_to_list}
use Rattle.rt_clause.specs.Literal.{Literal, negated}
use Rattle.rt_clause.specs.Lists.{has, line_at, IsMet, Fresh, Determined}
use Rattle.rt_clause.specs.Models.{IsModel}
use Rattle.rt_clause.specs.Refuting.{Refutes}
use Rattle.rt_store.specs.Trail.{lits, value_in, IsApart, IsFounded, distance, number, decisions}
use Rattle.rt_store.specs.declared.trail.Step.{Step}
use Rattle.rt_store.specs.Table.{Tracked}
use Rattle.rt_solver.specs.Looking.{IsBelow, AreBelow}

pub record IsReady (lines : List (List Literal)) (assume : Option Literal) (trail : Tracked) : Type 0 where
  pub founded : IsFounded lines assume trail.steps
  pub assumed : IfSome assume (λ a. has (lits trail.steps) a ≡ true)
  pub below : AreBelow trail.vars lines
  pub apart : IsApart trail.vars trail.steps

-- a learned line: a clause, and then the negation of what is assumed
abbrev pub line_of : Option Literal → List Literal → List Literal
line_of assume c = c ++ map negated (option_to_list assume)

-- a line was learned that does not refute: a fresh clause and the assumption's negation
pub record IsLonger (old new : List (List Literal)) (assume : Option Literal) : Type 0 where
  pub clause : List Literal
  pub lines : new ≡ old ++ line_of assume clause ∷ []
  pub fresh : Fresh old assume clause

-- each decision is below n
abbrev pub DecidesBelow : ℕ → List Step → Type 0
DecidesBelow n steps = (l : Literal) → has (decisions steps) l ≡ true → l.var < n

-- the clauses are learned one after another, each fresh over the lines before it
abbrev pub AreFresh : List (List Literal) → Option Literal → List (List Literal) → Type 0
AreFresh lines assume [] = Unit {0}
AreFresh lines assume (c ∷ cs) = Fresh lines assume c × AreFresh (lines ++ line_of assume c ∷ []) assume cs

-- the clauses have variables below n alone, and are no more than the trail's number of n digits
pub record IsFew (n : ℕ) (learned : List (List Literal)) (steps : List Step) : Type 0 where
  pub decided : DecidesBelow n steps
  pub below : AreBelow n learned
  pub few : length learned ≤ number n steps

-- a flag for each learned line: it was derived
abbrev pub flags : Option Literal → List (List Literal) → List Bool
flags assume learned = map (λ line. true) (map (line_of assume) learned)

-- each model of the old lines is one of the new
abbrev pub KeepsModels : List (List Literal) → List (List Literal) → Type 0
KeepsModels old new = (bools : List Bool) → IsModel old bools → IsModel new bools

-- P holds of all m variables, and of the first ones where these determine the others
abbrev pub AtBounds : List (List Literal) → ℕ → ℕ → (ℕ → Type 0) → Type 0
AtBounds lines first m P = P m × (Determined lines first m → P first)

-- fresh clauses were learned since old, counted by all variables, and by the first ones where these determine the others
pub record HasLearned (old new : List (List Literal)) (flags_old flags_new : List Bool) (assume : Option Literal) (first : ℕ) (trail : Tracked) : Type 0 where
  pub learned : List (List Literal)
  pub fresh : AreFresh old assume learned
  pub lines : new ≡ old ++ map (line_of assume) learned
  pub derived : flags_new ≡ flags_old ++ flags assume learned
  pub sound : KeepsModels old new
  pub counted : AtBounds old first trail.vars (λ n. IsFew n learned trail.steps)

-- the search goes on, nearer to its end
pub record GoesOn (old new : List (List Literal)) (assume : Option Literal) (first : ℕ) (before after : Tracked) : Type 0 where
  pub ready : IsReady new assume after
  pub nearer : distance before.vars after.steps < distance before.vars before.steps
  pub longer : IsLonger old new assume
  pub below : (n : ℕ) → first ≤ n → DecidesBelow n before.steps → IsBelow n longer.clause × DecidesBelow n after.steps
  pub grew : (n : ℕ) → first ≤ n → DecidesBelow n before.steps → number n before.steps < number n after.steps

-- each variable below n has a value
abbrev pub HasValues : ℕ → List Step → Type 0
HasValues n steps = (v : ℕ) → v < n → IsSome (value_in steps v)

-- each variable has a value, and each line a true literal or two open ones
pub record IsWhole (lines : List (List Literal)) (trail : Tracked) : Type 0 where
  pub decided : HasValues trail.vars trail.steps
  pub met : (i : ℕ) → i < length lines → IsMet (lits trail.steps) (line_at lines i)

-- a refuting line came last
abbrev pub IsEnd : List (List Literal) → List (List Literal) → Option Literal → Type 0
IsEnd old new assume = (c : List Literal) × (new ≡ old ++ c ∷ []) × Refutes assume c

-- a step after a conflict: it refuted, or the line was learned
abbrev pub IsStep : List (List Literal) → List (List Literal) → Option Literal → ℕ → Tracked → Tracked → Option (List Literal) → Type 0
IsStep old new assume first before after None = IsEnd old new assume
IsStep old new assume first before after (Some line) = GoesOn old new assume first before after × (new ≡ old ++ line ∷ [])

-- the first of a list
abbrev pub IsFirst : List Literal → Option Literal → Type 0
IsFirst found None = found ≡ []
IsFirst found (Some l) = (rest : List Literal) × (found ≡ l ∷ rest)
