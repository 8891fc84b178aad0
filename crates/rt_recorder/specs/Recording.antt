-- The steps that were accepted, along the lines.
use Rattle.std.specs.Prelude.{◌≡◌, ◌<◌, Bool, true, false, List, [], ◌∷◌, ◌++◌, length}
use Rattle.std.specs.List.{All as Each}
use Rattle.rt_clause.specs.Literal.{Literal}
use Rattle.rt_clause.specs.Lists.{follows}
use Rattle.rt_recorder.specs.Certificate.{IsStep}
use Rattle.rt_recorder.specs.declared.cert.Step.{Step}

pub record Recording : Type 0 where
  pub lines : List (List Literal)
  pub derived : List Bool
  pub steps : List Step

-- its hints are numbers of lines, and its clause follows along them
pub record IsAccepted (lines : List (List Literal)) (s : Step) : Type 0 where
  pub known : Each (λ h. h < length lines) s.hints
  pub follows : follows lines s.lits s.hints ≡ true

-- after the lines before, the clauses of the steps are in order the lines that were derived, and
-- each step is accepted over the lines before its own
abbrev pub AreStepsBehind : List (List Literal) → List (List Literal) → List Bool → List Step → Type 0
AreStepsBehind before [] [] [] = Unit {0}
AreStepsBehind before (line ∷ lines) (false ∷ derived) steps = AreStepsBehind (before ++ line ∷ []) lines derived steps
AreStepsBehind before (line ∷ lines) (true ∷ derived) (s ∷ steps) =
    (s.lits ≡ line) × IsAccepted before s × IsStep s × AreStepsBehind (before ++ line ∷ []) lines derived steps
AreStepsBehind before _ _ _ = ⊥

abbrev pub AreSteps : List (List Literal) → List Bool → List Step → Type 0
AreSteps lines derived steps = AreStepsBehind [] lines derived steps
