-- Some arguments spell the call on a candidate alone: the options as they were given, `--`, and then
-- its paths.
use Rattle.std.proofs.Common.{◌≡◌, ◌∙◌, ℕ, Bool, true, false, List, [], ◌∷◌, ◌++◌, refl, ap, subst}
use Rattle.std.specs.Prelude.{Option, None, Some, codes, option_and_then, option_map, if◌then◌else◌}
use Rattle.std.specs.Str.{bytes_eq}
use Rattle.rt_io.specs.declared.limits.Limits.{Limits}
use Rattle.rt_io.specs.Command.{command, form, limit_of, limits, limits_of, number_to, of_files, of_made}
use Rattle.rt_io.specs.Ranges.{Command, most_conflicts, most_made, most_work}
use Rattle.rt_io.specs.Reading.{Reading, read}
use Rattle.rt_input.specs.Source.{Text}
use Rattle.rt_grade.specs.declared.grade_words.GradeWords.{GradeWords}
use Rattle.rt_grade.specs.GradeWords.{alone, grade_words, of_command, of_form, of_paths}
use Rattle.rt_grade.specs.OneGrading.{HasSpelling}
use Rattle.rt_grade.proofs.WordLemmas.{HasWords, has_words}

-- ---- the values of the options

-- the values that the options of a command were given
record HasValues (k : Command) : Type 0 where
  conflicts : List Text
  work : List Text
  numbers : limits_of (limit_of most_conflicts conflicts) (limit_of most_work work) ≡ Some (record { conflicts = k.conflicts; work = k.work_limit })

number_made : (k : Command) (l : Limits) (o : Option ℕ) → k.made ≡ None → option_map (λ n. record { paths = []; conflicts = l.conflicts; work_limit = l.work; made = Some n }) o ≡ Some k → ⊥
number_made k l None files e = cc
number_made k l (Some n) files e =
    let same : record { paths = []; conflicts = l.conflicts; work_limit = l.work; made = Some n } ≡ k = cc in
    let m : Some n ≡ None = ap (λ (c : Command). c.made) same ∙ files in
    cc

not_made : (k : Command) (plain : List Text) (l : Limits) → k.made ≡ None → of_made plain l ≡ Some k → ⊥
not_made k [] l files e = cc
not_made k (n ∷ []) l files e = number_made k l (number_to most_made n) files e
not_made k (n ∷ m ∷ more) l files e = cc

numbers_of : (k : Command) (plain : List Text) (l : Limits) → of_files plain l ≡ Some k → l ≡ record { conflicts = k.conflicts; work = k.work_limit }
numbers_of k [] l e = cc
numbers_of k (s ∷ []) l e = cc
numbers_of k (s ∷ d ∷ []) l e = cc
numbers_of k (s ∷ d ∷ r ∷ []) l e = cc
numbers_of k (s ∷ d ∷ r ∷ q ∷ []) l e =
    let same : record { paths = s ∷ d ∷ r ∷ q ∷ []; conflicts = l.conflicts; work_limit = l.work; made = None } ≡ k = cc in
    ap (λ (c : Command). record { conflicts = c.conflicts; work = c.work_limit }) same
numbers_of k (s ∷ d ∷ r ∷ q ∷ x ∷ more) l e = cc

made_values : (k : Command) (r : Reading) (l : Option Limits) → k.made ≡ None → option_and_then (of_made r.plain) l ≡ Some k → ⊥
made_values k r None files e = cc
made_values k r (Some l) files e = not_made k r.plain l files e

file_values : (k : Command) (r : Reading) (l : Option Limits) → limits r ≡ l → option_and_then (of_files r.plain) l ≡ Some k → HasValues k
file_values k r None is e = cc
file_values k r (Some l) is e = record { conflicts = r.conflicts; work = r.work; numbers = is ∙ ap Some (numbers_of k r.plain l e) }

has_values : (k : Command) (words : List Text) → k.made ≡ None → command words ≡ Some k → HasValues k
has_values k [] files e = cc
has_values k (first ∷ rest) files e = by_case (bytes_eq first (codes "made")) e
  where
    of_made_form : (o : Option Reading) → option_and_then (form of_made) o ≡ Some k → HasValues k
    of_made_form None e = cc
    of_made_form (Some r) e = absurd (made_values k r (limits r) files e)

    of_file_form : (o : Option Reading) → option_and_then (form of_files) o ≡ Some k → HasValues k
    of_file_form None e = cc
    of_file_form (Some r) e = file_values k r (limits r) refl e

    by_case : (b : Bool) → (if b then option_and_then (form of_made) (read rest) else option_and_then (form of_files) (read (first ∷ rest))) ≡ Some k → HasValues k
    by_case true e = of_made_form (read rest) e
    by_case false e = of_file_form (read (first ∷ rest)) e

-- ---- the arguments

module _ (k : Command) (s d r p : Text) where
  abbrev meant : Command
  meant = record { paths = s ∷ d ∷ r ∷ p ∷ []; conflicts = k.conflicts; work_limit = k.work_limit; made = None }

  abbrev paths : List Text
  paths = codes "--" ∷ s ∷ d ∷ r ∷ p ∷ []

  abbrev HasNumbers : List Text → List Text → Type 0
  HasNumbers conflicts work = limits_of (limit_of most_conflicts conflicts) (limit_of most_work work) ≡ Some (record { conflicts = k.conflicts; work = k.work_limit })

  then_files : (l : Option Limits) → l ≡ Some (record { conflicts = k.conflicts; work = k.work_limit }) → option_and_then (of_files (s ∷ d ∷ r ∷ p ∷ [])) l ≡ Some meant
  then_files l e = rw e refl

  spelling : (conflicts work : List Text) → HasNumbers conflicts work → HasSpelling meant
  spelling [] [] e = (paths, then_files _ e)
  spelling (c ∷ []) [] e = ((codes "--conflicts=" ++ c) ∷ paths, then_files _ e)
  spelling [] (w ∷ []) e = ((codes "--work=" ++ w) ∷ paths, then_files _ e)
  spelling (c ∷ []) (w ∷ []) e = ((codes "--conflicts=" ++ c) ∷ (codes "--work=" ++ w) ∷ paths, then_files _ e)
  spelling (c ∷ more ∷ rest) work e = cc
  spelling [] (w ∷ more ∷ rest) e = cc
  spelling (c ∷ []) (w ∷ more ∷ rest) e = of_first (limit_of most_conflicts (c ∷ [])) e
    where
      of_first : (o : Option (Option ℕ)) → limits_of o None ≡ Some (record { conflicts = k.conflicts; work = k.work_limit }) → HasSpelling meant
      of_first None e = cc
      of_first (Some n) e = cc

-- ---- the call on one candidate

pub command_is : (words : List Text) (w : GradeWords) → grade_words words ≡ Some w → command words ≡ Some w.command
command_is words w e = of_read (command words) e
  where
    by_paths : (k : Command) (paths : List Text) → of_paths k paths ≡ Some w → Some k ≡ Some w.command
    by_paths k [] e = cc
    by_paths k (s ∷ []) e = cc
    by_paths k (s ∷ d ∷ []) e = cc
    by_paths k (s ∷ d ∷ r ∷ []) e = cc
    by_paths k (s ∷ d ∷ r ∷ l ∷ []) e = by_name (bytes_eq s (codes "made")) e
      where
        by_name : (b : Bool) → (if b then None else Some (record { command = k; list = l })) ≡ Some w → Some k ≡ Some w.command
        by_name true e = cc
        by_name false e = let same : record { command = k; list = l } ≡ w = cc in ap (λ (v : GradeWords). Some v.command) same
    by_paths k (s ∷ d ∷ r ∷ l ∷ x ∷ more) e = cc

    by_form : (k : Command) (made : Option ℕ) → of_form k made ≡ Some w → Some k ≡ Some w.command
    by_form k None e = by_paths k k.paths e
    by_form k (Some n) e = cc

    of_read : (o : Option Command) → option_and_then of_command o ≡ Some w → o ≡ Some w.command
    of_read None e = cc
    of_read (Some k) e = by_form k k.made e

alone_meant : (w : GradeWords) (h : HasWords w) (path : Text) → meant w.command h.schema h.dir h.reference path ≡ alone w.command path
alone_meant w h path = rw (h.made, h.paths) refl

pub alone_spelled : (words : List Text) (w : GradeWords) → grade_words words ≡ Some w → (path : Text) → HasSpelling (alone w.command path)
alone_spelled words w e path =
    let h = has_words words w e in
    let v = has_values w.command words h.made (command_is words w e) in
    subst HasSpelling (alone_meant w h path) (spelling w.command h.schema h.dir h.reference path v.conflicts v.work v.numbers)
