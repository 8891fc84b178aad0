-- A watch that goes to another list, and an entry that is noted.
use Rattle.std.proofs.Common.{◌≡◌, ◌≢◌, ℕ, zero, suc, ◌-◌, ◌/◌, ◌%◌, ◌<◌, ◌≤◌, Bool, true, false, cond, nat_eq, nat_lt, List, [], ◌∷◌, ◌++◌, length, get_or, refl, sym, ap, subst, ◌∙◌, ◌⊎◌, inl, inr, Some, arith, rules, length-set, get_or-set_same, get_or-set_other, slice_set}
use Rattle.std.specs.List.{All as Each, swap_remove}
use Rattle.std.proofs.lemmas.List.Elements.{All-set, All-same}
use Rattle.rt_clause.specs.Literal.{Literal}
use Rattle.rt_clause.specs.Packed.{packed}
use Rattle.rt_clause.specs.Lists.{has, line_at}
use Rattle.rt_clause.proofs.Bools.{bool-cases}
use Rattle.rt_clause.proofs.Literals.{has-head, has-tail}
use Rattle.rt_store.specs.Same.{IsSpread}
use Rattle.rt_store.specs.Watching.{Listed, Lists, list_at, times, noted, literal_in, IsEdited}
use Rattle.rt_solver.specs.Turning.{IsMoved}
use Rattle.rt_solver.specs.Propagating.{IsWatchOf, IsEntry, AreListed}
use Rattle.rt_solver.proofs.Listing.{differ, times-none, none-has, joined-each, joined-here, joined-other, left-each, left-here, left-other, noted-times}

some-same : {x y : Literal} → Some x ≡ Some y → x ≡ y
some-same e = cc

-- there is a clause of the number
pub watch-within : (now : List (List Literal)) (v k : ℕ) → IsWatchOf now v k → v / 2 < length now
watch-within now v k h = elim (bool-cases (nat_lt (v / 2) (length now))) [
  | inl y ↦ search rules
  | inr n ↦ absurd (let g : length now ≤ v / 2 = search rules in let e = past now (v / 2) g in let q : literal_in [] (v % 2) ≡ Some h.lit = ap (λ c. literal_in c (v % 2)) (sym e) ∙ h.at in cc)
] where
  past : (xs : List (List Literal)) (n : ℕ) → length xs ≤ n → line_at xs n ≡ []
  past [] n b = refl
  past (x ∷ xs) zero b = absurd (omega arith)
  past (x ∷ xs) (suc n) b = past xs n (omega arith)

-- a watch has one list
pub one-home : (now : List (List Literal)) (v j k : ℕ) → IsWatchOf now v j → IsWatchOf now v k → j ≡ k
one-home now v j k g h = sym g.home ∙ ap packed (some-same (sym g.at ∙ h.at)) ∙ h.home

pub literal-has : (c : List Literal) (p : ℕ) (l : Literal) → literal_in c p ≡ Some l → has c l ≡ true
literal-has [] p l e = absurd (cc)
literal-has (x ∷ []) p l e = absurd (cc)
literal-has (x ∷ y ∷ c) p l e = by (nat_eq p 0) e where
  by : (b : Bool) → Some (cond b x y) ≡ Some l → has (x ∷ y ∷ c) l ≡ true
  by true q = (let z : x ≡ l = cc in let P : Literal → Type 0 = λ k. has (x ∷ y ∷ c) k ≡ true in subst P z (has-head x (y ∷ c)))
  by false q = (let z : y ≡ l = cc in let P : Literal → Type 0 = λ k. has (x ∷ y ∷ c) k ≡ true in subst P z (has-tail x y (y ∷ c) (has-head y c)))

-- the lines after one of them changed
pub line-same : (now : List (List Literal)) (n : ℕ) (c : List Literal) → n < length now → line_at (slice_set now n c) n ≡ c
line-same now n c b = get_or-set_same now n c [] b

pub line-other : (now : List (List Literal)) (n : ℕ) (c : List Literal) (i : ℕ) → i ≢ n → line_at (slice_set now n c) i ≡ line_at now i
line-other now n c i d = get_or-set_other now n i c [] d

pub by-line : (now : List (List Literal)) (n : ℕ) (c : List Literal) (i : ℕ) (P : List Literal → Type 0) → n < length now → P (line_at now i) → (i ≡ n → P c) → P (line_at (slice_set now n c) i)
by-line now n c i P b p f = elim (bool-cases (nat_eq i n)) [
  | inl y ↦ (let e : i ≡ n = search rules in subst P (sym (ap (line_at (slice_set now n c)) e ∙ line-same now n c b)) (f e))
  | inr d ↦ subst P (sym (line-other now n c i (differ i n d))) p
]

-- the watches that did not move are as before
kept-literal : (now : List (List Literal)) (v : ℕ) (c : List Literal) (l : Literal) → v / 2 < length now → IsMoved (line_at now (v / 2)) c (v % 2) l → (u : ℕ) → u ≢ v → literal_in (line_at (slice_set now (v / 2) c) (u / 2)) (u % 2) ≡ literal_in (line_at now (u / 2)) (u % 2)
kept-literal now v c l b mv u d = by-line now (v / 2) c (u / 2) (λ x. literal_in x (u % 2) ≡ literal_in (line_at now (u / 2)) (u % 2)) b refl
    (λ e. let s : u % 2 ≡ 1 - v % 2 = omega (arith, d, e) in
    ap (literal_in c) s ∙ mv.other ∙ ap (literal_in (line_at now (v / 2))) (sym s) ∙ ap (λ x. literal_in (line_at now x) (u % 2)) (sym e))

kept-entry : (now : List (List Literal)) (v : ℕ) (c : List Literal) (l : Literal) → v / 2 < length now → IsMoved (line_at now (v / 2)) c (v % 2) l → (k : ℕ) (e : Listed) → IsEntry now k e → e.watch ≢ v → IsEntry (slice_set now (v / 2) c) k e
kept-entry now v c l b mv k e h d = record {
  watch = record { lit = h.watch.lit; at = kept-literal now v c l b mv e.watch d ∙ h.watch.at; home = h.watch.home };
  among = by-line now (v / 2) c (e.watch / 2) (λ x. has x e.other ≡ true) b h.among (λ q. mv.same.to e.other (ap (λ n. has (line_at now n) e.other) (sym q) ∙ h.among));
  pair = λ t. by-line now (v / 2) c (e.watch / 2) (λ x. (i : Literal) → has x i ≡ true → (i ≡ h.watch.lit) ⊎ (i ≡ e.other)) b (h.pair t)
      (λ q i g. h.pair t i (ap (λ n. has (line_at now n) i) q ∙ mv.same.from i g));
}

back-watch : (now : List (List Literal)) (v : ℕ) (c : List Literal) (l : Literal) → v / 2 < length now → IsMoved (line_at now (v / 2)) c (v % 2) l → (w k : ℕ) → w ≢ v → IsWatchOf (slice_set now (v / 2) c) w k → IsWatchOf now w k
back-watch now v c l b mv w k d h = record { lit = h.lit; at = sym (kept-literal now v c l b mv w d) ∙ h.at; home = h.home }

pub shifted : (now : List (List Literal)) (w0 w1 w2 : Lists) (home i to : ℕ) (e : Listed) (c : List Literal) (l o : Literal) → AreListed now w0.lists → i < length (list_at w0.lists home) → e ≡ get_or (list_at w0.lists home) i e
    → list_at w1.lists home ≡ swap_remove (list_at w0.lists home) i e → IsEdited w0 w1 home → list_at w2.lists to ≡ list_at w1.lists to ++ noted e o ∷ [] → IsEdited w1 w2 to
    → to ≡ packed l → IsMoved (line_at now (e.watch / 2)) c (e.watch % 2) l → has (line_at now (e.watch / 2)) o ≡ true → AreListed (slice_set now (e.watch / 2) c) w2.lists
shifted now w0 w1 w2 home i to e c l o h b r left dl joined dj q mv among = record {
  entries = λ k. joined-each (IsEntry later k) w1 w2 to (noted e o) joined dj k (λ n d s. let x = remaining k n d s in kept-entry now e.watch c l within mv k _ x.0 x.1)
      (λ g. record {
        watch = record { lit = l; at = ap (λ d. literal_in d (e.watch % 2)) (line-same now (e.watch / 2) c within) ∙ mv.at; home = sym q ∙ sym g };
        among = ap (λ d. has d o) (line-same now (e.watch / 2) c within) ∙ mv.same.to o among;
        pair = λ t. absurd (cc);
      });
  once = λ k w g. elim (bool-cases (nat_eq w e.watch)) [
    | inl y ↦ moved-once w k (search rules) g
    | inr n ↦ (let d = differ w e.watch n in
        joined-other w1 w2 to (noted e o) joined dj w k (λ s. d (sym s)) ∙ left-other w0 w1 home i e b r left dl w k (λ s. d (sym s)) ∙ h.once k w (back-watch now e.watch c l within mv w k d g))
  ];
  spread = λ n g. by-line now (e.watch / 2) c n IsSpread within (h.spread n (inside n g)) (λ s. mv.spread);
  wide = λ n g. by-line now (e.watch / 2) c n (λ d. (k : Literal) → has d k ≡ true → packed k < length w2.lists) within (λ k s. room k (h.wide n (inside n g) k s))
      (λ s k t. room k (h.wide (e.watch / 2) within k (mv.same.from k t)));
  few = (let x = dl.len in let y = dj.len in let f = h.few in omega (arith, f, x, y));
} where
  later : List (List Literal)
  later = slice_set now (e.watch / 2) c

  entry : IsEntry now home e
  entry = let P : Listed → Type 0 = IsEntry now home in subst P (sym r) (h.entries home i e b)

  within : e.watch / 2 < length now
  within = watch-within now e.watch home entry.watch

  inside : (n : ℕ) → n < length (slice_set now (e.watch / 2) c) → n < length now
  inside n g = let s = length-set now (e.watch / 2) c in omega (arith, g, s)

  room : (k : Literal) → packed k < length w0.lists → packed k < length w2.lists
  room k g = let x = dl.len in let y = dj.len in omega (arith, g, x, y)

  -- what is left in each list is of other watches
  remaining : (k : ℕ) → Each (λ x. IsEntry now k x × (x.watch ≢ e.watch)) (list_at w1.lists k)
  remaining k = elim (bool-cases (nat_eq k home)) [
    | inl y ↦ (let s : k ≡ home = search rules in λ n d g. (
      left-each (IsEntry now k) w0 w1 home i e b left dl k (h.entries k) n d g,
      (let o1 = h.once home e.watch entry.watch in let t = left-here w0 w1 home i e b r left in
          let P : ℕ → Type 0 = λ j. Each (λ x. x.watch ≢ e.watch) (list_at w1.lists j) in
          subst P (sym s) (none-has e.watch (list_at w1.lists home) (omega (arith, o1, t))) n d g),
    ))
    | inr m ↦ (let s = differ k home m in λ n d g.
        let f = left-each (IsEntry now k) w0 w1 home i e b left dl k (h.entries k) n d g in
        (f, λ z. s (let P : ℕ → Type 0 = λ u. IsWatchOf now u k in one-home now e.watch k home (subst P z f.watch) entry.watch)))
  ]

  moved-once : (w k : ℕ) → w ≡ e.watch → IsWatchOf (slice_set now (e.watch / 2) c) w k → times w (list_at w2.lists k) ≡ 1
  moved-once w k y g =
      let P : ℕ → Type 0 = λ u. IsWatchOf (slice_set now (e.watch / 2) c) u k in
      let f = subst P y g in
      let s : f.lit ≡ l = some-same (sym f.at ∙ ap (λ d. literal_in d (e.watch % 2)) (line-same now (e.watch / 2) c within) ∙ mv.at) in
      let z : k ≡ to = sym f.home ∙ ap packed s ∙ sym q in
      let t = joined-here w1 w2 to (noted e o) joined in
      let n = times-none e.watch (list_at w1.lists to) (λ j d x. (remaining to j d x).1) in
      ap (λ u. times u (list_at w2.lists k)) y ∙ ap (λ j. times e.watch (list_at w2.lists j)) z ∙ (let v : times e.watch (list_at w2.lists to) ≡ 1 = omega (arith, t, n) in v)

-- an entry is noted with another literal of its clause
pub noted-listed : (now : List (List Literal)) (w new : Lists) (home i : ℕ) (e : Listed) (o : Literal) → AreListed now w.lists → i < length (list_at w.lists home) → e ≡ get_or (list_at w.lists home) i e
    → list_at new.lists home ≡ slice_set (list_at w.lists home) i (noted e o) → IsEdited w new home → has (line_at now (e.watch / 2)) o ≡ true → AreListed now new.lists
noted-listed now w new home i e o h b r s d among = record {
  entries = λ k. elim (bool-cases (nat_eq k home)) [
    | inl y ↦ (let q : k ≡ home = search rules in
        let P : ℕ → Type 0 = λ j. Each (IsEntry now j) (list_at new.lists j) in
        subst P (sym q) (All-same (IsEntry now home) (list_at new.lists home) (slice_set (list_at w.lists home) i (noted e o)) s
        (All-set (IsEntry now home) (list_at w.lists home) i (noted e o) (record { watch = entry.watch; among = among; pair = λ t. absurd (cc) }) (h.entries home))))
    | inr n ↦ All-same (IsEntry now k) (list_at new.lists k) (list_at w.lists k) (d.others k (differ k home n)) (h.entries k)
  ];
  once = λ k v g. elim (bool-cases (nat_eq k home)) [
    | inl y ↦ (let q : k ≡ home = search rules in
        ap (λ j. times v (list_at new.lists j)) q ∙ ap (times v) s ∙ noted-times (list_at w.lists home) i e (noted e o) v b r refl ∙ ap (λ j. times v (list_at w.lists j)) (sym q) ∙ h.once k v g)
    | inr n ↦ ap (times v) (d.others k (differ k home n)) ∙ h.once k v g
  ];
  spread = h.spread;
  wide = λ n g k t. (let x = h.wide n g k t in let y = d.len in omega (arith, x, y));
  few = (let y = d.len in let f = h.few in omega (arith, f, y));
} where
  entry : IsEntry now home e
  entry = let P : Listed → Type 0 = IsEntry now home in subst P (sym r) (h.entries home i e b)
