-- A list of candidates has one grading.
use Rattle.std.proofs.Common.{◌≡◌, ◌∙◌, List, [], ◌∷◌, Result, Ok, Err, refl, sym, ap, subst, IsTrue}
use Rattle.std.specs.Prelude.{Option, None, Some, IsSomeAnd, ⊤}
use Rattle.std.specs.List.{AllZip}
use Rattle.rt_io.specs.Command.{command}
use Rattle.rt_input.specs.declared.outcome.Limit.TheVariants as limit
use Rattle.rt_input.specs.declared.outcome.Outcome.{Outcome}
use Rattle.rt_input.specs.declared.outcome.Outcome.TheVariants as outcome
use Rattle.rt_input.specs.declared.part.Part.TheVariants.{Query2}
use Rattle.rt_input.specs.Accepted.{Accepted}
use Rattle.rt_input.specs.Faults.{placeless}
use Rattle.rt_input.specs.Judged.{judged}
use Rattle.rt_input.specs.Reading.{Call, IsTold}
use Rattle.rt_input.specs.Source.{IsKnown, Text}
use Rattle.rt_input.specs.Steps.{Seen}
use Rattle.rt_top.specs.One.{AreAlike}
use Rattle.rt_top.specs.Smallest.{Agrees, IsSmallest}
use Rattle.rt_top.proofs.OneLemmas.{smallest-none, smallest-one}
use Rattle.rt_grade.specs.declared.grade.Grade.{Grade}
use Rattle.rt_grade.specs.declared.grade.Grade.TheVariants.{Agree, Witness, Undecided, Refused, Work, TooLong}
use Rattle.rt_grade.specs.declared.grade_run.Graded.{Graded}
use Rattle.rt_grade.specs.declared.grade_words.GradeWords.{GradeWords}
use Rattle.rt_grade.specs.GradeAnswers.{AreGraded, AreGradedBy, IsAnswer, IsAnswerAlone}
use Rattle.rt_grade.specs.GradeWords.{grade_words}
use Rattle.rt_grade.specs.Listing.{list_judged}
use Rattle.rt_grade.specs.OneGrading.{AreOne}
use Rattle.rt_grade.proofs.SpellingLemmas.{alone_spelled, command_is}
use Rattle.rt_grade.proofs.WordLemmas.{has_words, known, source_is}

-- ---- one grade

-- what is judged, as a decided grade says it
abbrev IsJudgedAs : Result Accepted Outcome → Grade → Type 0
IsJudgedAs j Agree = (input : Accepted) × (j ≡ Ok input) × Agrees input
IsJudgedAs j (Witness keep) = (input : Accepted) × (j ≡ Ok input) × IsSmallest input keep
IsJudgedAs j (Undecided s) = ⊤
IsJudgedAs j (Refused part fault) = j ≡ Err (outcome.Refused part (placeless fault))
IsJudgedAs j (Work work) = j ≡ Err (outcome.Limit (limit.Work work))
IsJudgedAs j TooLong = j ≡ Err (outcome.Limit (limit.TooLong Query2))

judged_as : (c : Call) (grade : Grade) → IsTold c → IsAnswer c grade → IsJudgedAs (judged c.words c.files.held) grade
judged_as c Agree t is = (is.0, is.1.told t, is.2)
judged_as c (Witness keep) t is = (is.0, is.1.told t, is.2)
judged_as c (Undecided s) t is = tt
judged_as c (Refused part fault) t is = is.2 t
judged_as c (Work work) t is = is t
judged_as c TooLong t is = is t

same-input : (j : Result Accepted Outcome) (input other : Accepted) → j ≡ Ok input → j ≡ Ok other → input ≡ other
same-input j input other f g = let e : Ok input ≡ Ok other = sym f ∙ g in cc

accepted-or-not : (j : Result Accepted Outcome) (input : Accepted) (o : Outcome) → j ≡ Ok input → j ≡ Err o → ⊥
accepted-or-not j input o f g = let e : Ok input ≡ Err o = sym f ∙ g in cc

same-refusal : (j : Result Accepted Outcome) (o p : Outcome) → j ≡ Err o → j ≡ Err p → o ≡ p
same-refusal j o p f g = let e : Err o ≡ Err p = sym f ∙ g in cc

grade-one : (j : Result Accepted Outcome) (x y : Grade) → IsJudgedAs j x → IsJudgedAs j y → AreOne x y
grade-one j Agree Agree f g d e = refl
grade-one j Agree (Witness t) f g d e =
    let A : Accepted → Type 0 = Agrees in
    absurd (smallest-none g.0 t g.2 (subst A (same-input j f.0 g.0 f.1 g.1) f.2))
grade-one j Agree (Refused q other) f g d e = absurd (accepted-or-not j f.0 _ f.1 g)
grade-one j Agree (Work n) f g d e = absurd (accepted-or-not j f.0 _ f.1 g)
grade-one j Agree TooLong f g d e = absurd (accepted-or-not j f.0 _ f.1 g)
grade-one j (Witness s) Agree f g d e =
    let A : Accepted → Type 0 = Agrees in
    absurd (smallest-none f.0 s f.2 (subst A (same-input j g.0 f.0 g.1 f.1) g.2))
grade-one j (Witness s) (Witness t) f g d e =
    let S : Accepted → Type 0 = λ input. IsSmallest input s in
    ap Witness (smallest-one g.0 s t (subst S (same-input j f.0 g.0 f.1 g.1) f.2) g.2)
grade-one j (Witness s) (Refused q other) f g d e = absurd (accepted-or-not j f.0 _ f.1 g)
grade-one j (Witness s) (Work n) f g d e = absurd (accepted-or-not j f.0 _ f.1 g)
grade-one j (Witness s) TooLong f g d e = absurd (accepted-or-not j f.0 _ f.1 g)
grade-one j (Refused part fault) Agree f g d e = absurd (accepted-or-not j g.0 _ g.1 f)
grade-one j (Refused part fault) (Witness t) f g d e = absurd (accepted-or-not j g.0 _ g.1 f)
grade-one j (Refused part fault) (Refused q other) f g d e = let k = same-refusal j _ _ f g in cc
grade-one j (Refused part fault) (Work n) f g d e = absurd (let k = same-refusal j _ _ f g in cc)
grade-one j (Refused part fault) TooLong f g d e = absurd (let k = same-refusal j _ _ f g in cc)
grade-one j (Work m) Agree f g d e = absurd (accepted-or-not j g.0 _ g.1 f)
grade-one j (Work m) (Witness t) f g d e = absurd (accepted-or-not j g.0 _ g.1 f)
grade-one j (Work m) (Refused q other) f g d e = absurd (let k = same-refusal j _ _ f g in cc)
grade-one j (Work m) (Work n) f g d e = let k = same-refusal j _ _ f g in cc
grade-one j (Work m) TooLong f g d e = absurd (let k = same-refusal j _ _ f g in cc)
grade-one j TooLong Agree f g d e = absurd (accepted-or-not j g.0 _ g.1 f)
grade-one j TooLong (Witness t) f g d e = absurd (accepted-or-not j g.0 _ g.1 f)
grade-one j TooLong (Refused q other) f g d e = absurd (let k = same-refusal j _ _ f g in cc)
grade-one j TooLong (Work n) f g d e = absurd (let k = same-refusal j _ _ f g in cc)
grade-one j TooLong TooLong f g d e = refl
grade-one j (Undecided s) y f g d e = absurd d
grade-one j Agree (Undecided s) f g d e = absurd e
grade-one j (Witness keep) (Undecided s) f g d e = absurd e
grade-one j (Refused part fault) (Undecided s) f g d e = absurd e
grade-one j (Work m) (Undecided s) f g d e = absurd e
grade-one j TooLong (Undecided s) f g d e = absurd e

-- ---- the grades of a list

module _ (words : List Text) (w : GradeWords) (spells : grade_words words ≡ Some w) (s t : Seen) (held : s.held ≡ t.held) (told : IsTrue s.tells) (told_too : IsTrue t.tells) where
  candidate-one : (path : Text) (x y : Grade) → IsAnswerAlone s w.command path x → IsAnswerAlone t w.command path y → AreOne x y
  candidate-one path x y f g =
      let own = alone_spelled words w spells path in
      let here = judged_as (record { words = own.0; files = s; readings = None }) x (λ k is. known s.tells k told) (f own.0 own.1) in
      let there = judged_as (record { words = own.0; files = t; readings = None }) y (λ k is. known t.tells k told_too) (g own.0 own.1) in
      let J : Result Accepted Outcome → Type 0 = λ j. IsJudgedAs j x in
      grade-one (judged own.0 t.held) x y (subst J (ap (judged own.0) held) here) there

  grades-one : (paths : List Text) (xs ys : List Grade) → AllZip (IsAnswerAlone s w.command) paths xs → AllZip (IsAnswerAlone t w.command) paths ys → AllZip AreOne xs ys
  grades-one [] [] [] f g = tt
  grades-one [] [] (y ∷ ys) f g = absurd g
  grades-one [] (x ∷ xs) ys f g = absurd f
  grades-one (p ∷ ps) [] ys f g = absurd f
  grades-one (p ∷ ps) (x ∷ xs) [] f g = absurd g
  grades-one (p ∷ ps) (x ∷ xs) (y ∷ ys) f g = (candidate-one p x y f.0 g.0, grades-one ps xs ys f.1 g.1)

  graded-one : (x y : Graded) → AreGradedBy s x w → AreGradedBy t y w → (x.paths ≡ y.paths) × AllZip AreOne x.grades y.grades
  graded-one x y f g =
      let e : Ok x.paths ≡ Ok y.paths = sym (f.listed told) ∙ ap (λ h. list_judged (h w.list)) held ∙ g.listed told_too in
      let same : x.paths ≡ y.paths = cc in
      let Z : List Text → Type 0 = λ paths. AllZip (IsAnswerAlone s w.command) paths x.grades in
      (same, grades-one y.paths x.grades y.grades (subst Z same f.grades) g.grades)

-- ---- a call

-- the contents of the files of a call that grades are known
tells_of : (c : Call) (w : GradeWords) → grade_words c.words ≡ Some w → IsTold c → IsTrue c.files.tells
tells_of c w e t = subst (IsKnown c.files.tells) (source_is w (has_words c.words w e)) (t w.command (command_is c.words w e))

pub grading-one : (a b : Call) → AreAlike a b → (x y : Graded) → AreGraded a x → AreGraded b y → (x.paths ≡ y.paths) × AllZip AreOne x.grades y.grades
grading-one a b h x y f g = by_words (grade_words a.words) refl f (subst G (sym (ap grade_words h.words)) g)
  where
    G : Option GradeWords → Type 0
    G w = IsSomeAnd w (AreGradedBy b.files y)

    by_words : (o : Option GradeWords) → grade_words a.words ≡ o → IsSomeAnd o (AreGradedBy a.files x) → IsSomeAnd o (AreGradedBy b.files y)
        → (x.paths ≡ y.paths) × AllZip AreOne x.grades y.grades
    by_words None e f g = absurd f
    by_words (Some w) e f g =
        graded-one a.words w e a.files b.files h.held (tells_of a w e h.told) (tells_of b w (sym (ap grade_words h.words) ∙ e) h.told_too) x y f g
