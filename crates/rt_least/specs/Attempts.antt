-- What a search over the lines finds, with clauses over all variables or over the rows.
use Rattle.std.specs.Prelude.{◌≡◌, ℕ, ◌<◌, ◌≤◌, Bool, true, List, ◌++◌, take, length, Option, Some, None, IfSome, IsSomeAnd}
use Rattle.rt_clause.specs.Literal.{Literal}
use Rattle.rt_clause.specs.Models.{lit_true, IsModel}
use Rattle.rt_clause.specs.Refuting.{IsRefuted, IsDenial}
use Rattle.rt_formula.specs.Shared.{Shared}
use Rattle.rt_solver.specs.Search.{KeepsModels}
use Rattle.rt_solver.specs.Solving.{variables, IsSpent}
use Rattle.rt_solver.specs.Answers.{IsModelled}
use Rattle.rt_solver.specs.declared.solver.Found.{Found}
use Rattle.rt_solver.specs.declared.solver.Found.TheVariants.{Model, Refuted, Spent}
use Rattle.rt_least.specs.Aimed.{IsAimed}
use Rattle.rt_least.specs.declared.ask.Reply.{Reply}
use Rattle.rt_least.specs.declared.ask.Reply.TheVariants.{Choice, Denied}

-- more lines came, and the aim is kept
pub record IsGrown (old new : List (List Literal)) (assume : Option Literal) (next : ℕ) : Type 0 where
  pub more : List (List Literal)
  pub lines : new ≡ old ++ more
  pub aims : (d : Shared) (goal : ℕ) (cone : List Bool) → IfSome assume (λ a. a.var < next) → IsAimed d goal cone old next → IsAimed d goal cone new next

-- the last search spent the budget, with clauses over the rows
pub record IsGivenUp (old new : List (List Literal)) (assume : Option Literal) (next rows budget : ℕ) (list : List (List Literal)) : Type 0 where
  pub mid : List (List Literal)
  pub grown : IsGrown old mid assume next
  pub keeps : KeepsModels mid new
  pub spent : IsSpent mid new assume rows (variables mid assume rows) budget list

abbrev pub IsTold : List (List Literal) → List (List Literal) → Option Literal → ℕ → ℕ → Option ℕ → Found → Type 0
IsTold old new assume next rows budget (Model bools) = (rows ≤ length bools) × IsModelled new assume (length bools) bools
IsTold old new assume next rows budget Refuted = IsRefuted new assume
IsTold old new assume next rows budget (Spent list) = IsSomeAnd budget (λ b. IsGivenUp old new assume next rows b list)

-- a choice of the rows is those of a model at which two literals are true
abbrev pub IsAt : List (List Literal) → Literal → Literal → ℕ → List Bool → Type 0
IsAt lines held asked rows keep = (bools : List Bool) × (rows ≤ length bools) × IsModelled lines (Some held) (length bools) bools × (lit_true bools asked ≡ true) × (keep ≡ take rows bools)

-- such a choice, or why the lines have none
abbrev pub IsReply : List (List Literal) → Literal → Literal → ℕ → Reply → Type 0
IsReply lines held asked rows (Choice keep) = IsAt lines held asked rows keep
IsReply lines held asked rows (Denied denial) = IsDenial lines (Some held) asked denial

-- no model of the lines makes what is assumed and the question true
abbrev pub HasNone : List (List Literal) → Option Literal → Literal → Type 0
HasNone lines assume question = (bools : List Bool) → IsModel lines bools → IfSome assume (λ a. lit_true bools a ≡ true) → lit_true bools question ≡ true → ⊥

-- such a choice, or there is no such model
abbrev pub IsAnswered : List (List Literal) → Literal → Literal → ℕ → Option (List Bool) → Type 0
IsAnswered lines held asked rows (Some keep) = IsAt lines held asked rows keep
IsAnswered lines held asked rows None = HasNone lines (Some held) asked
