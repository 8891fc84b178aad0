-- What a call of solve answers.
use Rattle.std.specs.Prelude.{◌≡◌, ℕ, ◌<◌, Bool, true, false, List, [], length, slice_index_or, Option, Some, None, IfSome, IsSomeAnd, ◌+◌, ◌≤◌}
use Rattle.rt_clause.specs.Literal.{Literal}
use Rattle.rt_clause.specs.Lists.{has}
use Rattle.rt_clause.specs.Models.{lit_true, IsModel}
use Rattle.rt_clause.specs.Refuting.{IsRefuted, IsDenied}
use Rattle.rt_solver.specs.declared.solver.Found.{Found}
use Rattle.rt_solver.specs.declared.solver.Found.TheVariants.{Model, Refuted, Spent}
use Rattle.rt_store.specs.declared.trail.Step.{Step}
use Rattle.rt_store.specs.Trail.{lits, value_in, decisions, IsApart, IsFounded}
use Rattle.rt_store.specs.Table.{Tracked}
use Rattle.rt_solver.specs.Solving.{IsSpent}

-- the list gives each variable below m the value that the trail does
abbrev pub Reads : ℕ → List Step → List Bool → Type 0
Reads m t bools = (v : ℕ) → v < m → value_in t v ≡ Some (slice_index_or bools v false)

-- a model of the lines and of what is assumed, with a Bool for each variable
pub record IsModelled (lines : List (List Literal)) (assume : Option Literal) (m : ℕ) (bools : List Bool) : Type 0 where
  pub each : length bools ≡ m
  pub model : IsModel lines bools
  pub assumed : IfSome assume (λ a. lit_true bools a ≡ true)

abbrev pub IsFound : List (List Literal) → List (List Literal) → Option Literal → ℕ → ℕ → Option ℕ → Found → Type 0
IsFound old new assume first m budget (Model bools) = IsModelled new assume m bools
IsFound old new assume first m budget Refuted = IsRefuted new assume
IsFound old new assume first m budget (Spent list) = IsSomeAnd budget (λ b. IsSpent old new assume first m b list)

-- where the budget is not spent, fewer clauses came than it says: one line fewer at least, or as many lines where the last one refutes
abbrev pub IsUnspent : List (List Literal) → List (List Literal) → Option ℕ → Found → Type 0
IsUnspent old new budget (Model bools) = IfSome budget (λ b. length new < length old + b)
IsUnspent old new budget Refuted = IfSome budget (λ b. length new ≤ length old + b)
IsUnspent old new budget (Spent list) = Unit {0}

-- a trail with the assumption alone
pub record IsBegun (m : ℕ) (assume : Option Literal) (trail : Tracked) : Type 0 where
  pub vars : trail.vars ≡ m
  pub undecided : decisions trail.steps ≡ []
  pub founded : (lines : List (List Literal)) → IsFounded lines assume trail.steps
  pub assumed : IfSome assume (λ a. has (lits trail.steps) a ≡ true)
  pub apart : IsApart m trail.steps

-- a model makes the question true; where a search has missed it, and where the lines refute, they deny it
abbrev pub IsReplied : List (List Literal) → Option Literal → Option Literal → Option Found → Type 0
IsReplied lines assume question (Some (Model bools)) = IfSome question (λ a. lit_true bools a ≡ true)
IsReplied lines assume question (Some Refuted) = IfSome question (IsDenied lines assume)
IsReplied lines assume question (Some (Spent list)) = Unit {0}
IsReplied lines assume question None = IsSomeAnd question (IsDenied lines assume)

-- a model that makes what is assumed and the question true, or the lines deny it
abbrev pub IsReply : List (List Literal) → Option Literal → Literal → ℕ → Option (List Bool) → Type 0
IsReply lines assume question m (Some bools) = IsModelled lines assume m bools × (lit_true bools question ≡ true)
IsReply lines assume question m None = IsDenied lines assume question
