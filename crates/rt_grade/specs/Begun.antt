-- Which files a call that grades begins: first ones of those that it names, in the order of the
-- reading, and none after the first refusal. A refused candidate is none of these.
use Rattle.std.specs.Prelude.{◌≡◌, Bool, IsTrue, List, ◌∷◌, ◌++◌, Option, None, Some, ⊤}
use Rattle.rt_io.specs.Edge.{AddsPrefix}
use Rattle.rt_input.specs.Begun.{AddsSome, EndsWith, first_files, first_reached, then_files}
use Rattle.rt_input.specs.First.{first_judged}
use Rattle.rt_input.specs.Held.{Holding}
use Rattle.rt_input.specs.Source.{Text, source_of}
use Rattle.rt_grade.specs.declared.grade_fault.GradeFault.{GradeFault}
use Rattle.rt_grade.specs.declared.grade_fault.GradeFault.TheVariants.{BadList, TooManyPaths, ListLong, FileRead, Verdict}
use Rattle.rt_grade.specs.declared.grade_words.GradeWords.{GradeWords}
use Rattle.rt_grade.specs.Listing.{list_judged}

-- the list, and where it is accepted its candidates
abbrev pub list_reached : GradeWords → Holding → List Text
list_reached w held = w.list ∷ then_files (list_judged (held w.list)) (λ paths. paths)

abbrev pub grade_reached : GradeWords → Holding → List Text
grade_reached w held = first_reached (source_of w.command) held ++ then_files (first_judged (source_of w.command) held) (λ first. list_reached w held)

-- the names begun before and after grew by first ones of these files, some paths being those of
-- the list
pub record ListAdds (tells : Bool) (w : GradeWords) (held : Holding) (old new : List Text) : Type 0 where
  pub paths : List Text
  pub named : AddsPrefix old new (w.list ∷ paths)
  pub told : IsTrue tells → AddsPrefix old new (list_reached w held)

-- the same of the files of arguments that grade
abbrev pub GradesFor : Bool → Holding → Option GradeWords → List Text → List Text → Type 0
GradesFor tells held None old new = new ≡ old
GradesFor tells held (Some w) old new =
    (paths : List Text) × AddsSome (IsTrue tells) (λ tables. first_files (source_of w.command) tables ++ w.list ∷ paths) (grade_reached w held) old new

-- the list or the candidate that can't be read is the last file that was begun, and was begun in the call
abbrev pub FailsLast : GradeFault → List Text → List Text → Type 0
FailsLast (BadList at) old new = ⊤
FailsLast TooManyPaths old new = ⊤
FailsLast ListLong old new = ⊤
FailsLast (FileRead name) old new = EndsWith (Some name) old new
FailsLast (Verdict o) old new = ⊤
