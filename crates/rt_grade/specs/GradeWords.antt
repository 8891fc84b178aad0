-- The arguments of a call that grades: SCHEMA DATADIR REFERENCE LIST, with the options of a
-- command.
use Rattle.std.specs.Prelude.{◌≡◌, ℕ, List, [], ◌∷◌, Option, None, Some, codes, option_and_then, if◌then◌else◌}
use Rattle.std.specs.Str.{bytes_eq}
use Rattle.rt_io.specs.Command.{command}
use Rattle.rt_io.specs.Ranges.{Command}
use Rattle.rt_input.specs.declared.outcome.Outcome.{Outcome}
use Rattle.rt_input.specs.declared.outcome.Outcome.TheVariants as outcome
use Rattle.rt_input.specs.Source.{Text}
use Rattle.rt_grade.specs.declared.grade_words.GradeWords.{GradeWords}

abbrev pub of_paths : Command → List Text → Option GradeWords
of_paths c (schema ∷ dir ∷ reference ∷ list ∷ []) = if bytes_eq schema (codes "made") then None else Some (record { command = c; list = list })
of_paths c _ = None

abbrev pub of_form : Command → Option ℕ → Option GradeWords
of_form c None = of_paths c c.paths
of_form c (Some n) = None

-- a command over files, whose schema isn't named `made`
abbrev pub of_command : Command → Option GradeWords
of_command c = of_form c c.made

abbrev pub grade_words : List Text → Option GradeWords
grade_words words = option_and_then of_command (command words)

-- there are arguments that spell it
abbrev pub IsSpelled : GradeWords → Type 0
IsSpelled w = (words : List Text) × (grade_words words ≡ Some w)

-- what stops the reading of the arguments
abbrev pub WordsStop : Option GradeWords → Outcome → Type 0
WordsStop o outcome.Usage = o ≡ None
WordsStop o outcome.NoMemory = Unit {0}
WordsStop o _ = ⊥

-- ---- the run of `ratest` on one candidate

-- the candidate in the place of the list
abbrev pub with_candidate : List Text → Text → List Text
with_candidate (schema ∷ dir ∷ reference ∷ list ∷ []) path = schema ∷ dir ∷ reference ∷ path ∷ []
with_candidate paths path = paths

-- SCHEMA DATADIR REFERENCE and the candidate, with the same numbers
abbrev pub alone : Command → Text → Command
alone c path = record c { paths = with_candidate c.paths path }
