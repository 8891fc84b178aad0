-- Lemmas on the blanks at the ends of a field.
use Rattle.std.proofs.Common.{◌≡◌, ◌<◌, ◌+◌, ℕ, List, [], ◌∷◌, length, take, get_or, refl, reverse, false}
use Rattle.std.proofs.lemmas.List.{take_more, reverse-append, reverse-reverse}
use Rattle.rt_load.specs.Integer.{is_blank, without_blanks}

pub reverse-take : (bs : List ℕ) (i : ℕ) → i < length bs → reverse (take (i + 1) bs) ≡ get_or bs i 0 ∷ reverse (take i bs)
reverse-take bs i h = rw (take_more bs i 0 h, reverse-append (take i bs) (get_or bs i 0 ∷ [])) refl

pub back-other : (bs : List ℕ) (i j : ℕ) → j ≡ i + 1 → i < length bs → is_blank (get_or bs i 0) ≡ false → reverse (without_blanks (reverse (take j bs))) ≡ take j bs
back-other bs i j a h e =
    let r : reverse (take j bs) ≡ get_or bs i 0 ∷ reverse (take i bs) = rw (a) (reverse-take bs i h) in
    let k : without_blanks (reverse (take j bs)) ≡ reverse (take j bs) = rw (r, e) refl in
    rw (k) (reverse-reverse (take j bs))

pub back-end : (bs : List ℕ) (j : ℕ) → j ≡ 0 → reverse (without_blanks (reverse (take j bs))) ≡ take j bs
back-end bs j e = rw (e) refl
