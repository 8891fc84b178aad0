-- Sets of rows that grow.
use Rattle.std.proofs.Common.{◌≡◌, ℕ, zero, suc, ◌+◌, ◌<◌, ◌≤◌, Bool, true, false, cond, List, [], ◌∷◌, length, get_or, take, subst, refl, sym, arith}
use Rattle.std.proofs.lemmas.List.Sums.{sum_by-cons, count_by-le-length}
use Rattle.rt_value.specs.Keep.{size}
use Rattle.std.specs.List.{All as Each}
use Rattle.rt_formula.specs.Under.{is_marked, MarksStay}
use Rattle.rt_rules.specs.declared.links.Link.{Link}
use Rattle.rt_rules.specs.Closing.{IsClosed}
use Rattle.rt_rules.proofs.LinkLemmas.{each-both, each-one, taken}

one-more : (xs : List Bool) → size (true ∷ xs) ≡ 1 + size xs
one-more xs = sum_by-cons (λ b. cond b 1 0) true xs

none-more : (xs : List Bool) → size (false ∷ xs) ≡ 0 + size xs
none-more xs = sum_by-cons (λ b. cond b 1 0) false xs

rest-stays : (x y : Bool) (xs ys : List Bool) → MarksStay (x ∷ xs) (y ∷ ys) → MarksStay xs ys
rest-stays x y xs ys s k h = s (suc k) h

-- a set that grew has no fewer rows
pub size-grows : (old new : List Bool) → length new ≡ length old → MarksStay old new → size old ≤ size new
size-grows [] new l s = omega arith
size-grows (x ∷ old) [] l s = absurd (omega (arith, l))
size-grows (false ∷ old) (false ∷ new) l s = let r = size-grows old new (omega (arith, l)) (rest-stays false false old new s) in let a = none-more old in let b = none-more new in omega (arith, r, a, b)
size-grows (false ∷ old) (true ∷ new) l s = let r = size-grows old new (omega (arith, l)) (rest-stays false true old new s) in let a = none-more old in let b = one-more new in omega (arith, r, a, b)
size-grows (true ∷ old) (true ∷ new) l s = let r = size-grows old new (omega (arith, l)) (rest-stays true true old new s) in let a = one-more old in let b = one-more new in omega (arith, r, a, b)
size-grows (true ∷ old) (false ∷ new) l s = absurd (let e = s 0 refl in cc)

-- where it has as many, it is the same
pub size-same : (old new : List Bool) → length new ≡ length old → MarksStay old new → size new ≡ size old → MarksStay new old
size-same [] [] l s e k h = h
size-same [] (y ∷ new) l s e k h = absurd (omega (arith, l))
size-same (x ∷ old) [] l s e k h = absurd (omega (arith, l))
size-same (true ∷ old) (false ∷ new) l s e k h = absurd (let q = s 0 refl in cc)
size-same (false ∷ old) (true ∷ new) l s e k h =
    absurd (let r = size-grows old new (omega (arith, l)) (rest-stays false true old new s) in let a = none-more old in let b = one-more new in omega (arith, r, a, b, e))
size-same (true ∷ old) (true ∷ new) l s e zero h = refl
size-same (true ∷ old) (true ∷ new) l s e (suc k) h =
    size-same old new (omega (arith, l)) (rest-stays true true old new s) (let a = one-more old in let b = one-more new in omega (arith, a, b, e)) k h
size-same (false ∷ old) (false ∷ new) l s e zero h = h
size-same (false ∷ old) (false ∷ new) l s e (suc k) h =
    size-same old new (omega (arith, l)) (rest-stays false false old new s) (let a = none-more old in let b = none-more new in omega (arith, a, b, e)) k h

pub size-long : (set : List Bool) → size set ≤ length set
size-long set = count_by-le-length (λ b. b) set

-- one more link is followed
pub met-more : (first old new : List Bool) (links : List Link) (i : ℕ) (l : Link) → i < length links → l ≡ get_or links i l → MarksStay first old → MarksStay old new → (is_marked old l.from ≡ true → is_marked new l.to ≡ true)
    → Each (λ k. is_marked first k.from ≡ true → is_marked old k.to ≡ true) (take i links) → Each (λ k. is_marked first k.from ≡ true → is_marked new k.to ≡ true) (take (i + 1) links)
met-more first old new links i l h e s t m before =
    let P : Link → Type 0 = λ k. is_marked first k.from ≡ true → is_marked new k.to ≡ true in
    let E : List Link → Type 0 = Each P in
    subst E (sym (taken links i l h e)) (each-both P (take i links) (l ∷ []) (λ j d b q. t _ (before j d b q)) (each-one P l [] (λ q. m (s _ q)) (λ j d b. absurd (omega (arith, b)))))

pub item-closed : (others : List Bool) (links : List Link) (i : ℕ) (l : Link) → i < length links → l ≡ get_or links i l → IsClosed links others → is_marked others l.from ≡ true → is_marked others l.to ≡ true
item-closed others links i l h e c = let P : Link → Type 0 = λ k. is_marked others k.from ≡ true → is_marked others k.to ≡ true in subst P (sym e) (c i l h)
