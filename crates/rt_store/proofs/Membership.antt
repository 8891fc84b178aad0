-- Members of a heap when places change.
use Rattle.std.proofs.Common.{◌≡◌, ◌≢◌, ℕ, ◌<◌, ◌≤◌, ◌+◌, ◌-◌, List, [], ◌∷◌, ◌++◌, Bool, true, false, inl, inr, length, map, set, get_or, nat_lt, replicate, refl, sym, ap, ◌∙◌, subst, arith, length-set, get_or-set_same, get_or-set_other}
use Rattle.std.proofs.lemmas.Bool.{cases_eq, cases_lt, lt-ltb, le-ltb}
use Rattle.std.proofs.lemmas.List.{ext_get_or, set-get_or, length-map, get_or-map, map-append, append_assoc, replicate_more}
use Rattle.rt_store.specs.Members.{members}
use Rattle.rt_store.specs.Places.{exchanged, IsOnlyPlace}
use Rattle.rt_store.proofs.Exchanging.{at_first, at_second, at_other}

-- exchanging two members changes no membership
pub members-exchanged : (n i j : ℕ) (places : List ℕ) → i < n → j < n → members n (map (exchanged i j) places) ≡ members n places
members-exchanged n i j [] h k = refl
members-exchanged n i j (p ∷ places) h k = ap (λ b. b ∷ members n (map (exchanged i j) places)) same ∙ ap (λ bs. nat_lt p n ∷ bs) (members-exchanged n i j places h k) where
  same : nat_lt (exchanged i j p) n ≡ nat_lt p n
  same = elim (cases_eq p i) [
    | inl e ↦ ap (λ q. nat_lt q n) (at_first i j p e) ∙ lt-ltb j n k ∙ sym (lt-ltb i n h) ∙ ap (λ q. nat_lt q n) (sym e)
    | inr a ↦ elim (cases_eq p j) [
      | inl e ↦ ap (λ q. nat_lt q n) (at_second i j p e) ∙ lt-ltb i n h ∙ sym (lt-ltb j n k) ∙ ap (λ q. nat_lt q n) (sym e)
      | inr b ↦ ap (λ q. nat_lt q n) (at_other i j p a b)
    ]
  ]

-- none is in where the count is 0
pub members-zero : (places : List ℕ) → members 0 places ≡ replicate (length places) false
members-zero [] = refl
members-zero (p ∷ places) = ap (λ b. b ∷ members 0 places) (le-ltb p 0 (omega arith)) ∙ ap (λ bs. false ∷ bs) (members-zero places)

pub members-push : (n k : ℕ) (places : List ℕ) → n ≤ k → members n (places ++ k ∷ []) ≡ members n places ++ false ∷ []
members-push n k places h = map-append (λ p. nat_lt p n) places (k ∷ []) ∙ ap (λ b. members n places ++ b ∷ []) (le-ltb k n h)

pub length-members : (n : ℕ) (places : List ℕ) → length (members n places) ≡ length places
length-members n places = length-map places (λ p. nat_lt p n)

pub same_width : (n : ℕ) (ps qs : List ℕ) → members n ps ≡ members n qs → length ps ≡ length qs
same_width n ps qs e = sym (length-members n ps) ∙ ap length e ∙ length-members n qs

pub cleared : (n : ℕ) (places : List ℕ) (held : List Bool) → members n places ≡ held → members 0 places ≡ replicate (length held) false
cleared n places held e = members-zero places ∙ ap (λ k. replicate k false) (sym (length-members n places) ∙ ap length e)

pub members-at : (n v : ℕ) (places : List ℕ) → v < length places → get_or (members n places) v false ≡ nat_lt (get_or places v 0) n
members-at n v places h = get_or-map (λ p. nat_lt p n) places v 0 false h

pub already_in : (n v : ℕ) (places : List ℕ) → v < length places → get_or places v 0 < n → members n places ≡ set (members n places) v true
already_in n v places h below =
    sym (set-get_or (members n places) v false) ∙ ap (set (members n places) v) (members-at n v places h ∙ lt-ltb (get_or places v 0) n below)

-- two lists of members are the same but at one variable
only_at : (n m v : ℕ) (b : Bool) (f : ℕ → ℕ) (places : List ℕ) → v < length places → nat_lt (f (get_or places v 0)) n ≡ b → ((k : ℕ) → k < length places → k ≢ v → nat_lt (f (get_or places k 0)) n ≡ nat_lt (get_or places k 0) m) → members n (map f places) ≡ set (members m places) v b
only_at n m v b f places h here others =
    ext_get_or false _ _ (lengths ∙ sym (length-set (members m places) v b ∙ length-members m places)) (λ k below. point k (subst (λ w. k < w) lengths below)) where
      lengths : length (members n (map f places)) ≡ length places
      lengths = length-members n (map f places) ∙ length-map places f

      read : (k : ℕ) → k < length places → get_or (members n (map f places)) k false ≡ nat_lt (f (get_or places k 0)) n
      read k below = get_or-map (λ p. nat_lt p n) (map f places) k 0 false (subst (λ w. k < w) (sym (length-map places f)) below) ∙ ap (λ p. nat_lt p n) (get_or-map f places k 0 0 below)

      point : (k : ℕ) → k < length places → get_or (members n (map f places)) k false ≡ get_or (set (members m places) v b) k false
      point k below = elim (cases_eq k v) [
        | inl e ↦ read k below ∙ ap (λ w. nat_lt (f (get_or places w 0)) n) e ∙ here ∙ sym (get_or-set_same (members m places) v b false (subst (λ w. v < w) (sym (length-members m places)) h)) ∙ ap (λ w. get_or (set (members m places) v b) w false) (sym e)
        | inr a ↦ read k below ∙ others k below a ∙ sym (get_or-map (λ p. nat_lt p m) places k 0 false below) ∙ sym (get_or-set_other (members m places) v k b false a)
      ]

-- a variable comes in at the first place behind the members
pub members-put : (n v place : ℕ) (places : List ℕ) → v < length places → get_or places v 0 ≡ place → n ≤ place → IsOnlyPlace places v → members (n + 1) (map (exchanged place n) places) ≡ set (members n places) v true
members-put n v place places h is behind alone =
    only_at (n + 1) n v true (exchanged place n) places h (ap (λ p. nat_lt p (n + 1)) (at_first place n (get_or places v 0) is) ∙ lt-ltb n (n + 1) (omega arith)) others where
      others : (k : ℕ) → k < length places → k ≢ v → nat_lt (exchanged place n (get_or places k 0)) (n + 1) ≡ nat_lt (get_or places k 0) n
      others k below a =
          let p = get_or places k 0 in
          let away : p ≢ place = λ e. a (alone k below (e ∙ sym is)) in
          elim (cases_eq p n) [
            | inl e ↦ ap (λ q. nat_lt q (n + 1)) (at_second place n p e) ∙ le-ltb place (n + 1) (omega (arith, behind, away, e)) ∙ sym (le-ltb p n (omega (arith, e)))
            | inr b ↦ ap (λ q. nat_lt q (n + 1)) (at_other place n p away b) ∙ elim (cases_lt p n) [
              | inl l ↦ lt-ltb p (n + 1) (omega (arith, l)) ∙ sym (lt-ltb p n l)
              | inr g ↦ le-ltb p (n + 1) (omega (arith, g, b)) ∙ sym (le-ltb p n g)
            ]
          ]

-- the first variable goes out, and the last member takes its place
pub members-take : (n v : ℕ) (places : List ℕ) → v < length places → get_or places v 0 ≡ 0 → IsOnlyPlace places v → members n (map (exchanged 0 n) places) ≡ set (members (n + 1) places) v false
members-take n v places h is alone =
    only_at n (n + 1) v false (exchanged 0 n) places h (ap (λ p. nat_lt p n) (at_first 0 n (get_or places v 0) is) ∙ le-ltb n n (omega arith)) others where
      others : (k : ℕ) → k < length places → k ≢ v → nat_lt (exchanged 0 n (get_or places k 0)) n ≡ nat_lt (get_or places k 0) (n + 1)
      others k below a =
          let p = get_or places k 0 in
          let away : p ≢ 0 = λ e. a (alone k below (e ∙ sym is)) in
          elim (cases_eq p n) [
            | inl e ↦ ap (λ q. nat_lt q n) (at_second 0 n p e) ∙ lt-ltb 0 n (omega (arith, away, e)) ∙ sym (lt-ltb p (n + 1) (omega (arith, e)))
            | inr b ↦ ap (λ q. nat_lt q n) (at_other 0 n p away b) ∙ elim (cases_lt p n) [
              | inl l ↦ lt-ltb p n l ∙ sym (lt-ltb p (n + 1) (omega (arith, l)))
              | inr g ↦ le-ltb p n g ∙ sym (le-ltb p (n + 1) (omega (arith, g, b)))
            ]
          ]

pub taken : (n v : ℕ) (places : List ℕ) (held : List Bool) → members n places ≡ held → n ≢ 0 → v < length places → get_or places v 0 ≡ 0 → IsOnlyPlace places v → (v < length held) × (get_or held v false ≡ true) × (members (n - 1) (map (exchanged 0 (n - 1)) places) ≡ set held v false)
taken n v places held e some h is alone =
    let one_more : n - 1 + 1 ≡ n = omega (arith, some) in (
      subst (λ w. v < w) (sym (length-members n places) ∙ ap length e) h,
      sym (ap (λ hs. get_or hs v false) e) ∙ members-at n v places h ∙ ap (λ p. nat_lt p n) is ∙ lt-ltb 0 n (omega (arith, some)),
      members-take (n - 1) v places h is alone ∙ ap (λ hs. set hs v false) (ap (λ k. members k places) one_more ∙ e),
    )

-- a place more, with nothing in the heap
pub members-grown : (n k len : ℕ) (old places : List ℕ) → n ≤ len → len ≤ k → members n places ≡ members n old ++ replicate (k - len) false → members n (places ++ k ∷ []) ≡ members n old ++ replicate (k + 1 - len) false
members-grown n k len old places h low e =
    members-push n k places (omega (arith, h, low))
    ∙ ap (λ ms. ms ++ false ∷ []) e
    ∙ append_assoc (members n old) (replicate (k - len) false) (false ∷ [])
    ∙ ap (λ ms. members n old ++ ms) (replicate_more (k - len) false ∙ ap (λ m. replicate m false) (omega (arith, low)))
