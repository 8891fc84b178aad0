-- What the arguments of a call that grades say of its source, and of that of a run on one
-- candidate.
use Rattle.std.proofs.Common.{◌≡◌, ℕ, Bool, true, false, List, [], ◌∷◌, refl, subst, IsTrue}
use Rattle.std.specs.Prelude.{Option, None, Some, codes, option_and_then, if◌then◌else◌}
use Rattle.std.specs.Str.{bytes_eq}
use Rattle.rt_io.specs.Command.{command}
use Rattle.rt_io.specs.Ranges.{Command}
use Rattle.rt_input.specs.Source.{IsKnown, Text, source_from, source_of}
use Rattle.rt_grade.specs.declared.grade_words.GradeWords.{GradeWords}
use Rattle.rt_grade.specs.GradeWords.{alone, grade_words, of_command, of_form, of_paths}

-- the four arguments of a call that grades
pub record HasWords (w : GradeWords) : Type 0 where
  pub schema : Text
  pub dir : Text
  pub reference : Text
  pub made : w.command.made ≡ None
  pub paths : w.command.paths ≡ schema ∷ dir ∷ reference ∷ w.list ∷ []

-- a command over these four
abbrev pub four : Text → Text → Text → Text → Command
four schema dir reference path = record { paths = schema ∷ dir ∷ reference ∷ path ∷ []; conflicts = None; work_limit = 0; made = None }

of_four : (k : Command) (paths : List Text) (w : GradeWords) → k.made ≡ None → k.paths ≡ paths → of_paths k paths ≡ Some w → HasWords w
of_four k [] w made is e = cc
of_four k (s ∷ []) w made is e = cc
of_four k (s ∷ d ∷ []) w made is e = cc
of_four k (s ∷ d ∷ r ∷ []) w made is e = cc
of_four k (s ∷ d ∷ r ∷ l ∷ []) w made is e = by_case (bytes_eq s (codes "made")) e
  where
    by_case : (b : Bool) → (if b then None else Some (record { command = k; list = l })) ≡ Some w → HasWords w
    by_case true e = cc
    by_case false e = let same : record { command = k; list = l } ≡ w = cc in subst HasWords same (record { schema = s; dir = d; reference = r; made = made; paths = is })
of_four k (s ∷ d ∷ r ∷ l ∷ x ∷ more) w made is e = cc

pub has_words : (words : List Text) (w : GradeWords) → grade_words words ≡ Some w → HasWords w
has_words words w e = of_read (command words) e
  where
    by_form : (k : Command) (made : Option ℕ) → k.made ≡ made → of_form k made ≡ Some w → HasWords w
    by_form k None is e = of_four k k.paths w is refl e
    by_form k (Some n) is e = cc

    of_read : (o : Option Command) → option_and_then of_command o ≡ Some w → HasWords w
    of_read None e = cc
    of_read (Some k) e = by_form k k.made refl e

-- the source of the call, and that of a run on one candidate
pub source_is : (w : GradeWords) (h : HasWords w) → source_of w.command ≡ source_of (four h.schema h.dir h.reference w.list)
source_is w h = rw (h.made, h.paths) refl

pub alone_is : (w : GradeWords) (h : HasWords w) (path : Text) → source_of (alone w.command path) ≡ source_of (four h.schema h.dir h.reference path)
alone_is w h path = rw (h.made, h.paths) refl

pub known : (tells : Bool) (k : Command) → IsTrue tells → IsKnown tells (source_of k)
known tells k t = by_case k.made
  where
    by_case : (made : Option ℕ) → IsKnown tells (source_from made k.paths)
    by_case None = t
    by_case (Some n) = tt
