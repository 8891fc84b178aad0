-- Which files a call that grades begins.
use Rattle.std.proofs.Common.{◌≡◌, ◌∙◌, ◌<◌, ◌+◌, Bool, IsTrue, List, [], ◌∷◌, ◌++◌, Result, Ok, Err, length, take, drop, get_or, sym, ap, subst}
use Rattle.std.specs.Prelude.{ℕ, Option, None, Some, IfErr}
use Rattle.std.proofs.lemmas.List.{take_more, take-append-drop}
use Rattle.rt_io.proofs.AddLemmas.{adds_first, adds_then, all_then}
use Rattle.rt_io.specs.Edge.{AddsPrefix}
use Rattle.rt_schema.specs.declared.table.Table.{Table}
use Rattle.rt_input.specs.Begun.{AddsAll, AddsSome, first_files, first_reached, then_files}
use Rattle.rt_input.specs.First.{first_judged}
use Rattle.rt_input.specs.Held.{Holding}
use Rattle.rt_input.specs.Source.{IsKnown, Text, source_of}
use Rattle.rt_input.specs.declared.first.First.{First}
use Rattle.rt_input.proofs.EndLemmas.{ends_on}
use Rattle.rt_input.proofs.BegunLemmas.{none_begun, some_first, some_then, when_reached}
use Rattle.rt_grade.specs.Begun.{FailsLast, GradesFor, ListAdds, grade_reached, list_reached}
use Rattle.rt_grade.specs.Listing.{list_judged}
use Rattle.rt_grade.specs.declared.grade_fault.GradeFault.{GradeFault}
use Rattle.rt_grade.specs.declared.grade_fault.GradeFault.TheVariants.{BadList, TooManyPaths, ListLong, FileRead, Verdict}
use Rattle.rt_grade.specs.declared.grade_words.GradeWords.{GradeWords}
use Rattle.rt_grade.proofs.WordLemmas.{known}

-- ---- candidates

module _ (paths : List Text) (at : ℕ) (path : Text) (within : at < length paths) (is : path ≡ get_or paths at path) where
  split : paths ≡ (take at paths ++ path ∷ []) ++ drop (at + 1) paths
  split =
      sym (take-append-drop (at + 1) paths) ∙ ap (λ fs. fs ++ drop (at + 1) paths) (take_more paths at path within ∙ ap (λ p. take at paths ++ p ∷ []) (sym is))

  -- the reading stops at this one
  pub path_begun : (old mid new : List Text) → mid ≡ old ++ take at paths → AddsPrefix mid new (path ∷ []) → AddsPrefix old new paths
  path_begun old mid new before adds =
      subst (λ (fs : List Text). AddsPrefix old new fs) (sym split)
      (adds_first old new (take at paths ++ path ∷ []) (drop (at + 1) paths) (adds_then old mid new (take at paths) (path ∷ []) before adds))

  -- or goes on
  pub path_read : (old mid new : List Text) → mid ≡ old ++ take at paths → new ≡ mid ++ path ∷ [] → new ≡ old ++ take (at + 1) paths
  path_read old mid new before one =
      all_then old mid new (take at paths) (path ∷ []) before one ∙ ap (λ fs. old ++ fs) (sym (take_more paths at path within ∙ ap (λ p. take at paths ++ p ∷ []) (sym is)))

-- ---- the file that can't be read

-- in a later step
pub fails_later : (fault : GradeFault) (old mid new more : List Text) → mid ≡ old ++ more → FailsLast fault mid new → FailsLast fault old new
fails_later (BadList at) old mid new more first fails = tt
fails_later TooManyPaths old mid new more first fails = tt
fails_later ListLong old mid new more first fails = tt
fails_later (FileRead name) old mid new more first fails = ends_on (Some name) old mid new more first fails
fails_later (Verdict o) old mid new more first fails = tt

pub if_fails_later : {T : Type 0} (r : Result T GradeFault) (old mid new more : List Text) → mid ≡ old ++ more
    → IfErr r (λ fault. FailsLast fault mid new) → IfErr r (λ fault. FailsLast fault old new)
if_fails_later (Ok x) old mid new more first fails = tt
if_fails_later (Err fault) old mid new more first fails = fails_later fault old mid new more first fails

-- ---- the list

module _ (tells : Bool) (w : GradeWords) (held : Holding) (old mid new : List Text) where
  -- it is refused
  pub list_begun : AddsPrefix old new (w.list ∷ []) → ListAdds tells w held old new
  list_begun adds = record {
    paths = [];
    named = adds;
    told = λ t. adds_first old new (w.list ∷ []) (then_files (list_judged (held w.list)) (λ paths. paths)) adds;
  }

  -- or read
  pub candidates_begun : (paths : List Text) → mid ≡ old ++ w.list ∷ [] → (IsTrue tells → list_judged (held w.list) ≡ Ok paths) → AddsPrefix mid new paths → ListAdds tells w held old new
  candidates_begun paths list is adds = record {
    paths = paths;
    named = adds_then old mid new (w.list ∷ []) paths list adds;
    told = λ t. adds_then old mid new (w.list ∷ []) (then_files (list_judged (held w.list)) (λ paths. paths)) list (when_reached (list_judged (held w.list)) paths (λ paths. paths) mid new (is t) adds);
  }

-- ---- what grades

module _ (tells : Bool) (w : GradeWords) (held : Holding) (old mid new : List Text) where
  abbrev files : List Table → List Text
  files = first_files (source_of w.command)

  abbrev reached : List Text
  reached = first_reached (source_of w.command) held

  abbrev behind : List Text
  behind = then_files (first_judged (source_of w.command) held) (λ first. list_reached w held)

  -- the reference is refused
  pub first_begun : AddsSome (IsKnown tells (source_of w.command)) files reached old new → GradesFor tells held (Some w) old new
  first_begun some =
      ([], some_first (IsTrue tells) files reached (w.list ∷ []) behind old new (record { named = some.named; told = λ t. some.told (known tells w.command t) }))

  -- or read
  pub beside_begun : (first : First) (later : Holding) → later ≡ held → (IsKnown tells (source_of w.command) → first_judged (source_of w.command) held ≡ Ok first)
      → AddsAll (IsKnown tells (source_of w.command)) files reached old mid
      → ListAdds tells w later mid new → GradesFor tells held (Some w) old new
  beside_begun first later same told all adds = (
    adds.paths,
    some_then (IsTrue tells) files reached (w.list ∷ adds.paths) behind old mid new (record { named = all.named; told = λ t. all.told (known tells w.command t) }) adds.named
        (λ t. when_reached (first_judged (source_of w.command) held) first (λ first. list_reached w held) mid new (told (known tells w.command t))
        (subst (λ (h : Holding). AddsPrefix mid new (list_reached w h)) same (adds.told t))),
  )

-- ---- the arguments

pub none_graded : (tells : Bool) (held : Holding) (o : Option GradeWords) (old new : List Text) → new ≡ old → GradesFor tells held o old new
none_graded tells held None old new same = same
none_graded tells held (Some w) old new same =
    ([], none_begun (IsTrue tells) (λ tables. first_files (source_of w.command) tables ++ w.list ∷ []) (grade_reached w held) old new same)
