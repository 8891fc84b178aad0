-- One step of the reading of a request.
use Rattle.std.proofs.Common.{◌≡◌, ◌∙◌, ℕ, suc, ◌+◌, ◌-◌, ◌<◌, List, [], ◌∷◌, ◌++◌, Bool, true, false, None, Option, if◌then◌else◌, ap, sym, refl, arith}
use Rattle.std.specs.Str.{IsUtf8, is_utf8}
use Rattle.std.proofs.lemmas.Str.{IsUtf8-from_is_utf8, is_utf8-from_IsUtf8}
use Rattle.ratest_c.specs.declared.file.File.{File}
use Rattle.ratest_c.specs.Frames.{Taken, Takes, taken, behind, if_utf8, field_at, text_at, texts_at, file_at, files_at}

abbrev by_utf8 : List ℕ → List ℕ → Bool → Option (Taken (List ℕ))
by_utf8 field rest b = if b then taken field rest else None

pub text_ok : (bs field text rest : List ℕ) → Takes (field_at bs) field rest → text ≡ field → IsUtf8 field → Takes (text_at bs) text rest
text_ok bs field text rest read same is =
    ap (λ o. behind o if_utf8) read ∙ (ap (by_utf8 field rest) (is_utf8-from_IsUtf8 field is) ∙ ap (λ t. taken t rest) (sym same))

is_no_utf8 : (field : List ℕ) (b : Bool) → is_utf8 field ≡ b → (IsUtf8 field → ⊥) → b ≡ false
is_no_utf8 field true e other = absurd (other (IsUtf8-from_is_utf8 field e))
is_no_utf8 field false e other = refl

pub text_err : (bs field rest : List ℕ) → Takes (field_at bs) field rest → (IsUtf8 field → ⊥) → text_at bs ≡ None
text_err bs field rest read other =
    ap (λ o. behind o if_utf8) read ∙ ap (by_utf8 field rest) (is_no_utf8 field (is_utf8 field) refl other)

pub texts_go : (n i : ℕ) (texts more : List (List ℕ)) (bs text rest : List ℕ) (whole : Option (Taken (List (List ℕ)))) → i < n
    → Takes (text_at bs) text rest → more ≡ texts ++ text ∷ [] → texts_at (n - i) texts bs ≡ whole → texts_at (n - (i + 1)) more rest ≡ whole
texts_go n i texts more bs text rest whole lt read grew e =
    let one : n - i ≡ suc (n - (i + 1)) = omega arith in
    let next : List ℕ → List ℕ → Option (Taken (List (List ℕ))) = λ t r. texts_at (n - (i + 1)) (texts ++ t ∷ []) r in
    ap (λ m. texts_at (n - (i + 1)) m rest) grew ∙ (sym (ap (λ o. behind o next) read) ∙ (sym (ap (λ k. texts_at k texts bs) one) ∙ e))

pub files_go : (n i : ℕ) (files more : List File) (bs : List ℕ) (file : File) (rest : List ℕ) (whole : Option (Taken (List File))) → i < n
    → Takes (file_at bs) file rest → more ≡ files ++ file ∷ [] → files_at (n - i) files bs ≡ whole → files_at (n - (i + 1)) more rest ≡ whole
files_go n i files more bs file rest whole lt read grew e =
    let one : n - i ≡ suc (n - (i + 1)) = omega arith in
    let next : File → List ℕ → Option (Taken (List File)) = λ f r. files_at (n - (i + 1)) (files ++ f ∷ []) r in
    ap (λ m. files_at (n - (i + 1)) m rest) grew ∙ (sym (ap (λ o. behind o next) read) ∙ (sym (ap (λ k. files_at k files bs) one) ∙ e))
