-- One text for a list of candidates: `a` and `b` are calls on the arguments after `grade`. What an
-- undecided grade leaves free, and the place of a syntax error, is not said here.
use Rattle.std.specs.Prelude.{◌≡◌, List, [], ◌∷◌, ⊤}
use Rattle.rt_input.specs.Reading.{Call}
use Rattle.rt_input.specs.Source.{Text}
use Rattle.rt_top.specs.One.{AreAlike}
use Rattle.rt_grade.specs.declared.grade.Grade.{Grade}
use Rattle.rt_grade.specs.OneGrading.{IsDecided, without_place}
use Rattle.rt_tools.specs.Answers.{EndsGrades}

-- none is undecided, and none names the place of a syntax error
abbrev pub AreSettled : List Grade → Type 0
AreSettled [] = ⊤
AreSettled (grade ∷ grades) = IsDecided grade × (without_place grade ≡ grade) × AreSettled grades

-- Two calls on the same arguments and contents have the same grades and text; the status of all
-- grades is one.
pub record HasOneGradingText : Type 0 where
  pub answer : (a b : Call) → AreAlike a b → (grades others : List Grade) → AreSettled grades → AreSettled others → (said told : Text)
      → EndsGrades a grades said a.words → EndsGrades b others told b.words → (grades ≡ others) × (said ≡ told)
