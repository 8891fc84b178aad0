-- A list of candidates has one text.
use Rattle.std.proofs.Common.{◌≡◌, ◌∙◌, List, [], ◌∷◌, refl, sym}
use Rattle.std.specs.List.{AllZip}
use Rattle.rt_input.specs.Reading.{Call}
use Rattle.rt_input.specs.Source.{Text}
use Rattle.rt_top.specs.One.{AreAlike}
use Rattle.rt_grade.specs.declared.grade.Grade.{Grade}
use Rattle.rt_grade.specs.OneGrading.{AreOne}
use Rattle.rt_grade.proofs.OneGradingLemmas.{grading-one}
use Rattle.rt_tools.specs.Answers.{EndsGrades}
use Rattle.rt_tools.specs.OneGrading.{AreSettled}
use Rattle.rt_tools.specs.Texts.{grades_text}

settled-one : (xs ys : List Grade) → AllZip AreOne xs ys → AreSettled xs → AreSettled ys → xs ≡ ys
settled-one [] [] one s t = refl
settled-one [] (y ∷ ys) one s t = absurd one
settled-one (x ∷ xs) [] one s t = absurd one
settled-one (x ∷ xs) (y ∷ ys) one s t =
    let same : x ≡ y = sym s.1 ∙ one.0 s.0 t.0 ∙ t.1 in
    let more : xs ≡ ys = settled-one xs ys one.1 s.2 t.2 in
    (λ i. same i ∷ more i)

pub text-one : (a b : Call) → AreAlike a b → (grades others : List Grade) → AreSettled grades → AreSettled others → (said told : Text) → EndsGrades a grades said a.words
    → EndsGrades b others told b.words → (grades ≡ others) × (said ≡ told)
text-one a b h grades others s t said told f g =
    let one = grading-one a b h (record { paths = f.paths; grades = grades }) (record { paths = g.paths; grades = others }) f.graded g.graded in
    let paths : f.paths ≡ g.paths = one.0 in
    let same : grades ≡ others = settled-one grades others one.1 s t in
    (same, f.printed ∙ (λ i. grades_text (paths i) (same i)) ∙ sym g.printed)
