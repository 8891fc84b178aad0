-- From the grades of texts to the answers of runs on one candidate alone.
use Rattle.std.proofs.lemmas.List.{take_more}
use Rattle.std.proofs.lemmas.Slice.Zip.{all_zipped_more}
use Rattle.std.proofs.Common.{◌≡◌, ◌∙◌, ◌+◌, ◌<◌, length, take, get_or, ℕ, Bool, true, false, List, [], ◌∷◌, ◌++◌, Result, Ok, Err, refl, sym, ap, subst, IsTrue}
use Rattle.std.specs.Prelude.{Option, None, Some, IsSome, IsSomeAnd, nat_le, if◌then◌else◌}
use Rattle.std.specs.List.{AllZip}
use Rattle.rt_algebra.specs.declared.typed.Typed.{Typed}
use Rattle.rt_io.specs.Command.{command}
use Rattle.rt_io.specs.Ranges.{Command}
use Rattle.rt_input.specs.declared.first.First.{First}
use Rattle.rt_input.specs.declared.outcome.Limit.TheVariants as limit
use Rattle.rt_input.specs.declared.outcome.Outcome.{Outcome}
use Rattle.rt_input.specs.declared.outcome.Outcome.TheVariants as outcome
use Rattle.rt_input.specs.declared.part.Part.TheVariants.{Query2}
use Rattle.rt_input.specs.Accepted.{Accepted, HasOptions}
use Rattle.rt_input.specs.Reading.{Call, IsRead, IsTold, PlacedRow}
use Rattle.rt_input.specs.First.{first_judged}
use Rattle.rt_input.specs.Judged.{command_judged, input_judged, judged, then_read, total_work, within_limit}
use Rattle.rt_input.specs.Held.{text_of, text_read}
use Rattle.rt_input.specs.Source.{IsKnown, Text, source_of}
use Rattle.rt_input.specs.Steps.{Seen}
use Rattle.rt_grade.specs.Grades.{DecidesOn, IsPlacedIn, beside, candidate_judged, right_of}
use Rattle.rt_grade.specs.declared.grade.Grade.{Grade}
use Rattle.rt_grade.specs.declared.grade.Grade.TheVariants.{Agree, Witness, Undecided, Refused, Work, TooLong}
use Rattle.rt_grade.specs.declared.grade_words.GradeWords.{GradeWords}
use Rattle.rt_grade.specs.GradeAnswers.{IsAnswer, IsAnswerAlone}
use Rattle.rt_grade.specs.Candidates.{IsGradeOf}
use Rattle.rt_grade.specs.GradeWords.{alone}
use Rattle.rt_grade.proofs.AloneLemmas.{judged_long, judged_text}
use Rattle.rt_grade.proofs.WordLemmas.{HasWords, alone_is, source_is}

-- ---- lists of grades

-- what each grade is more
pub each_grade : (IsOf Is : Text → Grade → Type 0) (paths : List Text) (grades : List Grade) → ((path : Text) (grade : Grade) → IsOf path grade → Is path grade)
    → AllZip IsOf paths grades → AllZip Is paths grades
each_grade IsOf Is [] [] f are = tt
each_grade IsOf Is [] (g ∷ gs) f are = are
each_grade IsOf Is (p ∷ ps) [] f are = are
each_grade IsOf Is (p ∷ ps) (g ∷ gs) f are = (f p g are.0, each_grade IsOf Is ps gs f are.1)

-- a grade more
pub one_more : (IsOf : Text → Grade → Type 0) (paths : List Text) (grades all : List Grade) (i : ℕ) (path : Text) (grade : Grade) → i < length paths → path ≡ get_or paths i path
    → all ≡ grades ++ grade ∷ [] → AllZip IsOf (take i paths) grades → IsOf path grade → AllZip IsOf (take (i + 1) paths) all
one_more IsOf paths grades all i path grade within is pushed are it =
    subst (λ (ps : List Text). AllZip IsOf ps all) (sym (take_more paths i path within ∙ ap (λ x. take i paths ++ x ∷ []) (sym is)))
    (subst (λ (gs : List Grade). AllZip IsOf (take i paths ++ path ∷ []) gs) (sym pushed) (all_zipped_more IsOf (take i paths) grades path grade are it))

-- ---- one grade

some_and : {T : Type 0} (P : T → Type 0) (o : Option T) (x : T) → o ≡ Some x → P x → IsSomeAnd o P
some_and {T = X} P o x e p = subst (λ (q : Option X). IsSomeAnd q P) (sym e) p

judged_command : (c : Call) (k : Command) → command c.words ≡ Some k → judged c.words c.files.held ≡ input_judged c.files.held k
judged_command c k e = ap (command_judged c.files.held) e

-- an accepted candidate has the numbers of the command
options_of : (k : Command) (first : First) (r : Result Typed Outcome) (input : Accepted) → then_read r (λ right. within_limit (beside k first right)) ≡ Ok input → HasOptions k input
options_of k first (Err o) input e = cc
options_of k first (Ok right) input e = by_case (nat_le (total_work (beside k first right)) k.work_limit) e
  where
    by_case : (b : Bool) → (if b then Ok (beside k first right) else Err (outcome.Limit (limit.Work (total_work (beside k first right))))) ≡ Ok input → HasOptions k input
    by_case true e = let same : beside k first right ≡ input = cc in subst (HasOptions k) same (record { conflicts = refl; work_limit = refl; made = refl })
    by_case false e = cc

module _ (s : Seen) (w : GradeWords) (h : HasWords w) (first : First) (read : IsTrue s.tells → first_judged (source_of w.command) s.held ≡ Ok first)
    (path : Text) (words : List Text) (spells : command words ≡ Some (alone w.command path)) where
  abbrev run : Call
  run = record { words = words; files = s; readings = None }

  told : IsTold run → IsTrue s.tells
  told t = subst (IsKnown s.tells) (alone_is w h path) (t (alone w.command path) spells)

  judged_is : (text : Text) → (IsTrue s.tells → text_read Query2 (s.held path) ≡ Ok text) → IsTold run → judged words s.held ≡ candidate_judged w.command first text
  judged_is text has t =
      judged_command run (alone w.command path) spells
      ∙ judged_text h.schema h.dir h.reference s.held (alone w.command path) w.list path text first (alone_is w h path)
      (ap (λ q. first_judged q s.held) (sym (source_is w h)) ∙ read (told t)) (has (told t))

  read_is : (grade : Grade) (text : Text) → (IsTrue s.tells → text_read Query2 (s.held path) ≡ Ok text) → (d : DecidesOn (candidate_judged w.command first text) grade) → IsRead run d.0
  read_is grade text has d = record {
    sound = d.2;
    options = some_and (λ k. HasOptions k d.0) (command words) (alone w.command path) spells (options_of (alone w.command path) first (right_of first text) d.0 d.1);
    told = λ t. judged_is text has t ∙ d.1;
    given = λ held none. absurd none;
  }

  placed_row : (text : Text) (o : Outcome) → (IsTrue s.tells → text_read Query2 (s.held path) ≡ Ok text) → IsPlacedIn text o → PlacedRow run o
  placed_row text o has placed k is k-known =
      let same : alone w.command path ≡ k = let p : Some (alone w.command path) ≡ Some k = sym spells ∙ is in cc in
      let source : source_of k ≡ source_of (alone w.command path) = ap source_of (sym same) in
      let t : IsTrue s.tells = subst (IsKnown s.tells) (source ∙ alone_is w h path) k-known in
      placed (text_of (source_of k) s.held) (ap (λ q. text_of q s.held Query2) (source ∙ alone_is w h path) ∙ has t)

  there : {T : Type 0} (o : Option T) (x : T) → o ≡ Some x → IsSome o
  there o x e = rw e refl

  answer : (grade : Grade) → IsGradeOf s.tells s.held w.command first path grade → IsAnswer run grade
  answer Agree is = let d = is.2 in (d.0, read_is Agree is.0 is.1 d, d.3)
  answer (Witness keep) is = let d = is.2 in (d.0, read_is (Witness keep) is.0 is.1 d, d.3)
  answer (Undecided spent) is = let d = is.2 in (d.0, read_is (Undecided spent) is.0 is.1 d, d.3.0, d.3.1)
  answer (Refused part fault) is =
      (there (command words) (alone w.command path) spells, is.2.0, λ t. judged_is is.0 is.1 t ∙ is.2.1, placed_row is.0 (outcome.Refused part fault) is.1 is.3)
  answer (Work work) is = λ t. judged_is is.0 is.1 t ∙ is.2
  answer TooLong is = λ t.
      judged_command run (alone w.command path) spells
      ∙ judged_long h.schema h.dir h.reference s.held (alone w.command path) w.list path first (outcome.Limit (limit.TooLong Query2)) (alone_is w h path)
      (ap (λ q. first_judged q s.held) (sym (source_is w h)) ∙ read (told t)) (is (told t))

pub answers_alone : (s : Seen) (w : GradeWords) → HasWords w → (first : First) → (IsTrue s.tells → first_judged (source_of w.command) s.held ≡ Ok first)
    → (paths : List Text) (grades : List Grade) → AllZip (IsGradeOf s.tells s.held w.command first) paths grades → AllZip (IsAnswerAlone s w.command) paths grades
answers_alone s w h first read paths grades are = each_grade _ (IsAnswerAlone s w.command) paths grades (λ path grade is words spells. answer s w h first read path words spells grade is) are
