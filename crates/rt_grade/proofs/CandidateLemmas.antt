-- The paths of the lines that are still to come, and a line without its carriage return.
use Rattle.std.proofs.Common.{Bor, ◌≡◌, ◌≢◌, ◌∙◌, ◌<◌, ◌+◌, ◌-◌, ◌==◌, ℕ, Bool, true, false, List, [], ◌∷◌, ◌++◌, length, drop, take, get_or, slice_index, refl, sym, ap, arith, subst, append_assoc}
use Rattle.std.specs.Prelude.{Option, None, Some, MatchOption, unwrap_or}
use Rattle.std.proofs.lemmas.Bool.{eqb-true}
use Rattle.std.proofs.lemmas.List.{get_or_push, length_push, take_all, take_more}
use Rattle.std.proofs.lemmas.Str.{IsUtf8-from_is_utf8}
use Rattle.std.proofs.Math.Seq.{take-append_seam}
use Rattle.std.specs.Str.{IsUtf8, is_utf8}
use Rattle.std.proofs.lemmas.List.{append-nil, at_drop_more, at_drop_all}
use Rattle.std.specs.Str.Lines.{strip_carriage_return}
use Rattle.rt_grade.specs.Listed.{Text, is_path, paths_in}

first_path : (line : Text) (rest : List Text) → paths_in (line ∷ rest) ≡ paths_in (line ∷ []) ++ paths_in rest
first_path line rest = by_case (is_path (strip_carriage_return line)) refl
  where
    by_case : (b : Bool) → is_path (strip_carriage_return line) ≡ b → paths_in (line ∷ rest) ≡ paths_in (line ∷ []) ++ paths_in rest
    by_case true is = rw (is) refl
    by_case false is = rw (is) refl

-- a line more
pub more_paths : (whole paths : List Text) (lines : List Text) (n : ℕ) (line : Text) → n < length lines → line ≡ get_or lines n line
    → whole ≡ paths ++ paths_in (drop n lines) → whole ≡ (paths ++ paths_in (line ∷ [])) ++ paths_in (drop (n + 1) lines)
more_paths whole paths lines n line within is so_far =
    so_far ∙ ap (λ more. paths ++ more) (at_drop_more paths_in lines n line within ∙ ap (λ x. paths_in (x ∷ drop (n + 1) lines)) (sym is) ∙ first_path line (drop (n + 1) lines))
    ∙ sym (append_assoc paths (paths_in (line ∷ [])) (paths_in (drop (n + 1) lines)))

-- no line is left
pub all_paths : (whole paths : List Text) (lines : List Text) (n : ℕ) → n ≡ length lines → whole ≡ paths ++ paths_in (drop n lines) → whole ≡ paths
all_paths whole paths lines n all so_far = so_far ∙ ap (λ more. paths ++ more) (at_drop_all paths_in lines n (omega (arith, all))) ∙ append-nil paths

-- ---- a line without its carriage return

ends_so : (line : Text) → slice_index line (length line - 1) ≡ 13 → line ≡ take (length line - 1) line ++ (13 ∷ [])
ends_so [] e = absurd (cc)
ends_so (x ∷ xs) e =
    let n = length (x ∷ xs) - 1 in
    let whole : take (n + 1) (x ∷ xs) ≡ x ∷ xs = take_all (n + 1) (x ∷ xs) (omega arith) in
    sym whole ∙ take_more (x ∷ xs) n 0 (omega arith) ∙ ap (λ b. take n (x ∷ xs) ++ (b ∷ [])) e

-- where the text doesn't end with it, nothing is dropped
unchanged : (line : Text) → ((front : Text) → line ≢ front ++ (13 ∷ [])) → line ≡ strip_carriage_return line
unchanged line other = by_case (slice_index line (length line - 1) == 13) refl
  where
    by_case : (b : Bool) → (slice_index line (length line - 1) == 13) ≡ b → line ≡ strip_carriage_return line
    by_case false is = rw is refl
    by_case true is = absurd (other (take (length line - 1) line) (ends_so line (eqb-true _ _ is)))

-- where it does, the rest is left
stripped : (line rest : Text) → line ≡ rest ++ (13 ∷ []) → rest ≡ strip_carriage_return line
stripped line rest is = subst (λ (l : Text). rest ≡ strip_carriage_return l) (sym is) (of_push rest)
  where
    of_push : (rest : Text) → rest ≡ strip_carriage_return (rest ++ (13 ∷ []))
    of_push rest =
        let n : length (rest ++ (13 ∷ [])) - 1 ≡ length rest = let l = length_push rest 13 in omega (arith, l) in
        let last : get_or (rest ++ (13 ∷ [])) (length rest) 0 ≡ 13 = get_or_push rest 13 0 (length rest) refl in
        let front : take (length rest) (rest ++ (13 ∷ [])) ≡ rest = take-append_seam rest (13 ∷ []) in
        rw (n, last, front) refl

pub without : (line : Bor Text) (found : Option (Bor Text)) → MatchOption found ((front : Text) → line.now ≢ front ++ (13 ∷ [])) (λ rest. line.now ≡ rest.now ++ (13 ∷ []))
    → (unwrap_or found line).now ≡ strip_carriage_return line.now
without line None other = unchanged line.now other
without line (Some rest) is = stripped line.now rest.now is

-- ---- texts that aren't UTF-8

pub not_utf8 : (text : Text) → (IsUtf8 text → ⊥) → is_utf8 text ≡ false
not_utf8 text other = by_case (is_utf8 text) refl
  where
    by_case : (b : Bool) → is_utf8 text ≡ b → b ≡ false
    by_case false is = refl
    by_case true is = absurd (other (IsUtf8-from_is_utf8 text is))
