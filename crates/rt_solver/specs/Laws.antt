-- The two laws on trails on which the search rests. Neither speaks of how a unit clause is found,
-- of which open variable is decided next, or of the value that it gets.
use Rattle.std.specs.Prelude.{◌≡◌, ℕ, ◌<◌, ◌≤◌, ◌^◌, true, List, [], ◌∷◌, ◌++◌, Option, None}
use Rattle.rt_clause.specs.Literal.{Literal, negated}
use Rattle.rt_clause.specs.Lists.{has, HasNoRepeat, Fresh}
use Rattle.rt_store.specs.declared.trail.Step.{Step}
use Rattle.rt_store.specs.declared.trail.Why.TheVariants.{Decided}
use Rattle.rt_store.specs.Trail.{lits, value_in, IsFounded, digit, count_below, number}

-- The first law. On a trail whose steps are founded, the part before a decision is closed under
-- propagation. So a clause of literals that are false before it, and of a last one that has no value
-- there, is fresh: this part is the set that shows it.
abbrev pub LearnedIsFresh : Type 0
LearnedIsFresh = (lines : List (List Literal)) (assume : Option Literal) (above before : List Step) (decision : Step)
    → IsFounded lines assume (above ++ decision ∷ before) → decision.why ≡ Decided
    → (front : List Literal) (last : Literal) → ((l : Literal) → has front l ≡ true → has (lits before) (negated l) ≡ true) → value_in before last.var ≡ None → HasNoRepeat (front ++ last ∷ [])
    → Fresh lines assume (front ++ last ∷ [])

-- The second law. The trail's steps below n are read as a binary number of n digits, 0 for a decision
-- and 1 for a propagated literal. A step more never makes it fall. A step back to before a decision,
-- with a propagated literal in its place, makes it grow. It stays below 2 ^ n.
pub record NumberGrows : Type 0 where
  pub kept : (n : ℕ) (step : Step) (trail : List Step) → number n trail ≤ number n (step ∷ trail)
  pub grows : (n : ℕ) (above before : List Step) (decision learned : Step) → decision.why ≡ Decided → digit learned.why ≡ 1
      → decision.lit.var < n → learned.lit.var < n → count_below n (above ++ decision ∷ before) ≤ n
      → number n (above ++ decision ∷ before) < number n (learned ∷ before)
  pub small : (n : ℕ) (trail : List Step) → count_below n trail ≤ n → number n trail < 2 ^ n
