-- What readings fit, and readings one after the other.
use Rattle.std.proofs.Common.{◌≡◌, ◌≢◌, ◌+◌, ◌<◌, ℕ, zero, suc, List, [], ◌∷◌, ◌++◌, Bool, true, false, Option, Some, None, length, take, append_assoc, append-nil, refl, sym, ap, subst, ◌∙◌, arith, if◌then◌else◌}
use Rattle.std.proofs.lemmas.Bool.Decides.{nat_tests}
use Rattle.std.proofs.lemmas.List.{length-append, take-append-le}
use Rattle.std.specs.Prelude.{◌≤◌}
use Rattle.std.specs.Option.{option_map}
use Rattle.std.proofs.lemmas.Slice.Eq.{bytes_eq-Decides}
use Rattle.std.specs.Str.{bytes_eq}
use Rattle.rt_io.specs.Gave.{Adds, AllFit, AreApart, Fits, FitsBytes, IsOther, Reading, contents_in, given_by, grown, is_end, reading_of}

-- ---- one read

pub given_at : {C : Type 0} (o : Option C) (x : C) (f : C → List ℕ) (piece : List ℕ) (b e : Bool) (old new : List Reading)
    → o ≡ Some x → b ≡ e → new ≡ grown piece b old → new ≡ given_by (option_map f o) piece e old
given_at {C = C} o x f piece b e old new is end h =
    subst (λ (q : Option C). new ≡ given_by (option_map f q) piece e old) (sym is) (h ∙ ap (λ k. grown piece k old) end)

pub given_none : {C : Type 0} (o : Option C) (f : C → List ℕ) (piece : List ℕ) (e : Bool) (old : List Reading) → o ≡ None → old ≡ given_by (option_map f o) piece e old
given_none {C = C} o f piece e old is = subst (λ (q : Option C). old ≡ given_by (option_map f q) piece e old) (sym is) refl

end_false : (n room : ℕ) → n ≢ 0 → is_end n room ≡ false
end_false n room some = grind (arith, nat_tests)

end_true : (n room : ℕ) → n ≡ 0 → 0 < room → is_end n room ≡ true
end_true n room none more = grind (arith, nat_tests)

-- the current reading, and those before it
given_to : (o : Option (List ℕ)) (name bytes piece : List ℕ) (e b : Bool) (before old new : List Reading)
    → o ≡ Some name → old ≡ reading_of name bytes false ∷ before → e ≡ b → new ≡ given_by o piece e old → new ≡ reading_of name (bytes ++ piece) b ∷ before
given_to o name bytes piece e b before old new is was end h =
    h ∙ ap (λ q. given_by q piece e old) is ∙ ap (λ rs. grown piece e rs) was ∙ ap (λ k. reading_of name (bytes ++ piece) k ∷ before) end

-- a read that gave something
pub gave_piece : (o : Option (List ℕ)) (name bytes piece : List ℕ) (n : ℕ) (before old new : List Reading)
    → o ≡ Some name → old ≡ reading_of name bytes false ∷ before → n ≢ 0
    → new ≡ given_by o (take n piece) (is_end n (length piece)) old → new ≡ reading_of name (bytes ++ take n piece) false ∷ before
gave_piece o name bytes piece n before old new is was some h =
    given_to o name bytes (take n piece) (is_end n (length piece)) false before old new is was (end_false n (length piece) some) h

pub gave_more : (o : Option (List ℕ)) (name bytes piece rest longer : List ℕ) (n : ℕ) (before old new : List Reading)
    → o ≡ Some name → old ≡ reading_of name bytes false ∷ before → n ≢ 0 → n ≤ length piece → longer ≡ bytes ++ take n (piece ++ rest)
    → new ≡ given_by o (take n piece) (is_end n (length piece)) old → new ≡ reading_of name longer false ∷ before
gave_more o name bytes piece rest longer n before old new is was some bound grown h =
    gave_piece o name bytes piece n before old new is was some h
    ∙ ap (λ bs. reading_of name bs false ∷ before) (sym (grown ∙ ap (λ xs. bytes ++ xs) (take-append-le n piece rest bound)))

-- one that gave nothing
pub gave_end : (o : Option (List ℕ)) (name bytes piece : List ℕ) (n : ℕ) (before old new : List Reading)
    → o ≡ Some name → old ≡ reading_of name bytes false ∷ before → n ≡ 0
    → new ≡ given_by o (take n piece) (is_end n (length piece)) old → 0 < length piece → new ≡ reading_of name bytes true ∷ before
gave_end o name bytes piece n before old new is was none h room =
    given_to o name bytes (take n piece) (is_end n (length piece)) true before old new is was (end_true n (length piece) none room) h
    ∙ ap (λ k. reading_of name (bytes ++ take k piece) true ∷ before) none ∙ ap (λ bs. reading_of name bs true ∷ before) (append-nil bytes)

-- ---- readings that were added

pub adds_none : (old new : List Reading) → new ≡ old → Adds old new
adds_none old new same = ([], same)

pub adds_one : (r : Reading) (old new : List Reading) → new ≡ r ∷ old → Adds old new
adds_one r old new is = (r ∷ [], is)

pub adds_on : (old mid new : List Reading) → Adds old mid → Adds mid new → Adds old new
adds_on old mid new first more = (more.0 ++ first.0, more.1 ∙ ap (λ rs. more.0 ++ rs) first.1 ∙ sym (append_assoc more.0 first.0 old))

all_left : (held : List ℕ → List ℕ) (xs ys : List Reading) → AllFit held (xs ++ ys) → AllFit held xs
all_left held [] ys all = tt
all_left held (x ∷ xs) ys all = (all.0, all_left held xs ys all.1)

all_right : (held : List ℕ → List ℕ) (xs ys : List Reading) → AllFit held (xs ++ ys) → AllFit held ys
all_right held [] ys all = all
all_right held (x ∷ xs) ys all = all_right held xs ys all.1

-- what fits all readings of two steps fits those of the first, and those of the second
pub fits_first : (held : List ℕ → List ℕ) (old mid new : List Reading) → Adds mid new → Fits held old new → Fits held old mid
fits_first held old mid new more fits first is =
    all_right held more.0 first (fits (more.0 ++ first) (more.1 ∙ ap (λ rs. more.0 ++ rs) is ∙ sym (append_assoc more.0 first old)))

pub fits_then : (held : List ℕ → List ℕ) (old mid new : List Reading) → Adds old mid → Fits held old new → Fits held mid new
fits_then held old mid new first fits more is =
    all_left held more first.0 (fits (more ++ first.0) (is ∙ ap (λ rs. more ++ rs) first.1 ∙ sym (append_assoc more first.0 old)))

-- ---- which contents fit

none_more : (held : List ℕ → List ℕ) (old more : List Reading) → old ≡ more ++ old → AllFit held more
none_more held old [] is = tt
none_more held old (x ∷ xs) is = absurd (omega (arith, ap length is, length-append (x ∷ xs) old))

pub fits_none : (held : List ℕ → List ℕ) (old new : List Reading) → new ≡ old → Fits held old new
fits_none held old new same more is = none_more held old more (sym same ∙ is)

one_more : (held : List ℕ → List ℕ) (r : Reading) (old more : List Reading) → FitsBytes r.whole r.bytes (held r.name) → r ∷ old ≡ more ++ old → AllFit held more
one_more held r old [] fits is = absurd (omega (arith, ap length is))
one_more held r old (x ∷ []) fits is = let same : r ≡ x = cc in (subst (λ (y : Reading). FitsBytes y.whole y.bytes (held y.name)) same fits, tt)
one_more held r old (x ∷ y ∷ ys) fits is = absurd (omega (arith, ap length is, length-append (x ∷ y ∷ ys) old))

pub fits_one : (held : List ℕ → List ℕ) (r : Reading) (old new : List Reading) → new ≡ r ∷ old → FitsBytes r.whole r.bytes (held r.name) → Fits held old new
fits_one held r old new is fits more added = one_more held r old more fits (sym is ∙ added)

-- the bytes of a whole reading are the contents that fit
pub fits_whole : (held : List ℕ → List ℕ) (name bytes : List ℕ) (old new : List Reading) → new ≡ reading_of name bytes true ∷ old → Fits held old new → held name ≡ bytes
fits_whole held name bytes old new is fits = (fits (reading_of name bytes true ∷ []) is).0

-- ---- contents that fit readings of different names

fits_self : (whole : Bool) (bytes : List ℕ) → FitsBytes whole bytes bytes
fits_self true bytes = refl
fits_self false bytes = ([], sym (append-nil bytes))

other_contents : (r : Reading) (held : List ℕ → List ℕ) (name : List ℕ) → name ≢ r.name → (if bytes_eq r.name name then r.bytes else held name) ≡ held name
other_contents r held name other = by_test (bytes_eq r.name name) (bytes_eq-Decides r.name name).0
  where
    by_test : (b : Bool) → (b ≡ true → r.name ≡ name) → (if b then r.bytes else held name) ≡ held name
    by_test true is = absurd (other (sym (is refl)))
    by_test false is = refl

fit_behind : (r : Reading) (held : List ℕ → List ℕ) (rs : List Reading) → IsOther r.name rs → AllFit held rs → AllFit (λ name. if bytes_eq r.name name then r.bytes else held name) rs
fit_behind r held [] apart all = tt
fit_behind r held (x ∷ xs) apart all =
    (subst (λ (bytes : List ℕ). FitsBytes x.whole x.bytes bytes) (sym (other_contents r held x.name apart.0)) all.0, fit_behind r held xs apart.1 all.1)

own_contents : (r : Reading) (held : List ℕ → List ℕ) → (if bytes_eq r.name r.name then r.bytes else held r.name) ≡ r.bytes
own_contents r held = let same : bytes_eq r.name r.name ≡ true = (bytes_eq-Decides r.name r.name).1 refl in rw same refl

pub apart_fit : (rs : List Reading) → AreApart rs → AllFit (contents_in rs) rs
apart_fit [] apart = tt
apart_fit (r ∷ rs) apart =
    (subst (λ (bytes : List ℕ). FitsBytes r.whole r.bytes bytes) (sym (own_contents r (contents_in rs))) (fits_self r.whole r.bytes), fit_behind r (contents_in rs) rs apart.0 (apart_fit rs apart.1))
