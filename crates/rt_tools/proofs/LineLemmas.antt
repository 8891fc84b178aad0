-- The lines of grades that are still to be written.
use Rattle.std.proofs.Common.{◌≡◌, ◌∙◌, List, [], ◌∷◌, ◌++◌, length, refl, sym, ap, inl, inr, append_assoc}
use Rattle.std.specs.Prelude.{◌⊎◌}
use Rattle.std.proofs.lemmas.List.{append-nil}
use Rattle.rt_input.specs.Source.{Text}
use Rattle.rt_grade.specs.declared.grade.Grade.{Grade}
use Rattle.rt_tools.specs.Texts.{grade_line, grade_lines}

-- a line more
pub line_more : (whole so_far text : Text) (paths : List Text) (grades : List Grade) (path : Text) (grade : Grade) (more : List Text) (others : List Grade)
    → paths ≡ path ∷ more → grades ≡ grade ∷ others → text ≡ so_far ++ grade_line path grade
    → whole ≡ so_far ++ grade_lines paths grades → whole ≡ text ++ grade_lines more others
line_more whole so_far text paths grades path grade more others is of put before =
    before ∙ ap (λ ps. so_far ++ grade_lines ps grades) is ∙ ap (λ gs. so_far ++ grade_lines (path ∷ more) gs) of
    ∙ sym (append_assoc so_far (grade_line path grade) (grade_lines more others)) ∙ ap (λ t. t ++ grade_lines more others) (sym put)

none_left : (paths : List Text) (grades : List Grade) → ((length paths ≡ 0) ⊎ (length grades ≡ 0)) → grade_lines paths grades ≡ []
none_left [] grades over = refl
none_left (path ∷ paths) [] over = refl
none_left (path ∷ paths) (grade ∷ grades) over = elim over [ inl e ↦ absurd (cc) | inr e ↦ absurd (cc) ]

-- no line is left
pub lines_end : (whole so_far : Text) (paths : List Text) (grades : List Grade) → ((length paths ≡ 0) ⊎ (length grades ≡ 0)) → whole ≡ so_far ++ grade_lines paths grades → whole ≡ so_far
lines_end whole so_far paths grades over before = before ∙ ap (λ t. so_far ++ t) (none_left paths grades over) ∙ append-nil so_far
