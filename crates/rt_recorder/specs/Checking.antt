-- What the check of steps says.
use Rattle.std.specs.Prelude.{◌≡◌, ℕ, ◌+◌, true, Bool, List, [], ◌∷◌, ◌++◌, length, map, Option}
use Rattle.std.specs.Option.{IfSome}
use Rattle.rt_clause.specs.Literal.{Literal}
use Rattle.rt_clause.specs.Models.{IsModel, lit_true}
use Rattle.rt_clause.specs.Refuting.{IsRefuted}
use Rattle.rt_recorder.specs.declared.cert.Step.{Step}
use Rattle.rt_recorder.specs.Recording.{IsAccepted}
use Rattle.rt_recorder.specs.declared.check.Checked.{Checked}
use Rattle.rt_recorder.specs.declared.check.Checked.TheVariants.{Yes, Line, NoRefutation}

abbrev pub clauses : List Step → List (List Literal)
clauses steps = map (λ s. s.lits) steps

-- each step is accepted over the lines and the clauses of the steps before it
abbrev pub AreAccepted : List (List Literal) → List Step → Type 0
AreAccepted lines [] = Unit {0}
AreAccepted lines (s ∷ steps) = IsAccepted lines s × AreAccepted (lines ++ s.lits ∷ []) steps

-- step k, counted from 1, is the first that is not accepted
pub record IsFirstWrong (lines : List (List Literal)) (steps : List Step) (k : ℕ) : Type 0 where
  pub front : List Step
  pub step : Step
  pub back : List Step
  pub parts : steps ≡ front ++ step ∷ back
  pub number : k ≡ length front + 1
  pub accepted : AreAccepted lines front
  pub wrong : IsAccepted (lines ++ clauses front) step → ⊥

abbrev pub IsChecked : List (List Literal) → List Step → Option Literal → Checked → Type 0
IsChecked lines steps assume Yes = AreAccepted lines steps × IsRefuted (lines ++ clauses steps) assume
IsChecked lines steps assume (Line k) = IsFirstWrong lines steps k
IsChecked lines steps assume NoRefutation = AreAccepted lines steps × (IsRefuted (lines ++ clauses steps) assume → ⊥)

-- no model of the lines makes true what is assumed
abbrev pub HasNoModel : List (List Literal) → Option Literal → Type 0
HasNoModel lines assume = (bools : List Bool) → IsModel lines bools → IfSome assume (λ a. lit_true bools a ≡ true) → ⊥

abbrev pub IsSound : List (List Literal) → Option Literal → Checked → Type 0
IsSound lines assume Yes = HasNoModel lines assume
IsSound lines assume (Line k) = Unit {0}
IsSound lines assume NoRefutation = Unit {0}
