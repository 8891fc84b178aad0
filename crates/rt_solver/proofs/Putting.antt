-- One clause more, whose first two literals are watched.
use Rattle.std.proofs.Common.{◌≡◌, ℕ, ◌+◌, ◌*◌, ◌/◌, ◌%◌, ◌<◌, ◌≤◌, Bool, true, nat_eq, nat_lt, List, [], ◌∷◌, ◌++◌, length, get_or, refl, sym, ap, subst, ◌∙◌, ◌⊎◌, inl, inr, Some, arith, rules, length-append}
use Rattle.rt_clause.specs.Literal.{Literal}
use Rattle.rt_clause.specs.Packed.{packed}
use Rattle.rt_clause.specs.Lists.{has, line_at}
use Rattle.rt_clause.proofs.Bools.{bool-cases}
use Rattle.rt_clause.proofs.Literals.{has-cases}
use Rattle.rt_store.specs.Same.{IsSame, AreSame, IsSpread}
use Rattle.rt_store.specs.Watching.{Listed, Lists, list_at, times, literal_in, IsEdited}
use Rattle.rt_solver.specs.Propagating.{IsWatchOf, IsEntry, AreListed, HasLists}
use Rattle.rt_store.proofs.FreshLaws.{line_at-append, line_at-end}
use Rattle.rt_solver.proofs.Listing.{differ, times-none, joined-each, joined-here, joined-other}
use Rattle.rt_solver.proofs.Shifting.{watch-within, literal-has}
use Rattle.rt_store.proofs.Copies.{literal-at}

pub lines-of : (old : List (List Literal)) (c : List Literal) (P : List Literal → Type 0) → ((i : ℕ) → i < length old → P (line_at old i)) → P c → (i : ℕ) → i < length (old ++ c ∷ []) → P (line_at (old ++ c ∷ []) i)
lines-of old c P f p i b = elim (bool-cases (nat_lt i (length old))) [
  | inl y ↦ (let g : i < length old = search rules in subst P (sym (line_at-append old (c ∷ []) i g)) (f i g))
  | inr n ↦ (let g : length old ≤ i = search rules in let l = length-append old (c ∷ []) in let e : i ≡ length old = omega (arith, g, l, b) in
      subst P (sym (ap (line_at (old ++ c ∷ [])) e ∙ line_at-end old c)) p)
]

-- the watches of the older clauses are those that they were
older : (old : List (List Literal)) (c : List Literal) (v k : ℕ) → v / 2 < length old → IsWatchOf (old ++ c ∷ []) v k → IsWatchOf old v k
older old c v k b h = record { lit = h.lit; at = ap (λ d. literal_in d (v % 2)) (sym (line_at-append old (c ∷ []) (v / 2) b)) ∙ h.at; home = h.home }

newer : (old : List (List Literal)) (c : List Literal) (v k : ℕ) → IsWatchOf old v k → IsWatchOf (old ++ c ∷ []) v k
newer old c v k h = record { lit = h.lit; at = ap (λ d. literal_in d (v % 2)) (line_at-append old (c ∷ []) (v / 2) (watch-within old v k h)) ∙ h.at; home = h.home }

newer-entry : (old : List (List Literal)) (c : List Literal) (k : ℕ) (e : Listed) → IsEntry old k e → IsEntry (old ++ c ∷ []) k e
unfolding newer
newer-entry old c k e h =
    let q = line_at-append old (c ∷ []) (e.watch / 2) (watch-within old e.watch k h.watch) in
    record {
      watch = newer old c e.watch k h.watch;
      among = ap (λ d. has d e.other) q ∙ h.among;
      pair = λ t l g. h.pair t l (ap (λ d. has d l) (sym q) ∙ g);
    }

-- a watch of the new clause
of-new : (old : List (List Literal)) (c : List Literal) (v k : ℕ) → IsWatchOf (old ++ c ∷ []) v k → (v / 2 < length old) ⊎ ((v / 2 ≡ length old) × (l : Literal) × (literal_in c (v % 2) ≡ Some l) × (packed l ≡ k))
of-new old c v k h = elim (bool-cases (nat_lt (v / 2) (length old))) [
  | inl y ↦ inl (search rules)
  | inr n ↦ (let g : length old ≤ v / 2 = search rules in let l = length-append old (c ∷ []) in let b = watch-within (old ++ c ∷ []) v k h in
      let e : v / 2 ≡ length old = omega (arith, g, l, b) in
      inr (e, h.lit, ap (λ d. literal_in d (v % 2)) (sym (ap (line_at (old ++ c ∷ [])) e ∙ line_at-end old c)) ∙ h.at, h.home))
]

-- it is in no list yet
none-new : (old : List (List Literal)) (lists : List (List Listed)) (v k : ℕ) → AreListed old lists → length old ≤ v / 2 → times v (list_at lists k) ≡ 0
none-new old lists v k h b = times-none v (list_at lists k) (λ j d g q. let e = h.entries k j d g in let x = watch-within old (get_or (list_at lists k) j d).watch k e.watch in omega (arith, x, q, b))

-- the entry of a watch of the new clause
pub record IsNew (old : List (List Literal)) (c : List Literal) (e : Listed) (p : ℕ) (l o : Literal) : Type 0 where
  pub watch : e.watch ≡ 2 * length old + p
  pub low : p < 2
  pub at : literal_in c p ≡ Some l
  pub other : e.other ≡ o
  pub among : has c o ≡ true
  pub pair : e.two ≡ true → (k : Literal) → has c k ≡ true → (k ≡ l) ⊎ (k ≡ o)

new-entry : (old : List (List Literal)) (c : List Literal) (e : Listed) (p : ℕ) (l o : Literal) (k : ℕ) → IsNew old c e p l o → k ≡ packed l → IsEntry (old ++ c ∷ []) k e
new-entry old c e p l o k h q =
    let w = h.watch in let b = h.low in
    let half : e.watch / 2 ≡ length old = omega (arith, w, b) in
    let rest : e.watch % 2 ≡ p = omega (arith, w, b) in
    let line : line_at (old ++ c ∷ []) (e.watch / 2) ≡ c = ap (line_at (old ++ c ∷ [])) half ∙ line_at-end old c in
    let O : Literal → Type 0 = λ x. (i : Literal) → has (line_at (old ++ c ∷ []) (e.watch / 2)) i ≡ true → (i ≡ l) ⊎ (i ≡ x) in
    record {
      watch = record { lit = l; at = ap (λ d. literal_in d (e.watch % 2)) line ∙ ap (literal_in c) rest ∙ h.at; home = sym q };
      among = ap (λ d. has d e.other) line ∙ ap (has c) h.other ∙ h.among;
      pair = λ t. subst O (sym h.other) (λ i g. h.pair t i (ap (λ d. has d i) (sym line) ∙ g));
    }

pub put-two : (old : List (List Literal)) (c : List Literal) (w mid new : Lists) (e f : Listed) (x y : ℕ) (a b : Literal) → AreListed old w.lists → IsNew old c e 0 a b → IsNew old c f 1 b a → IsSpread c → HasLists w.lists c
    → x ≡ packed a → y ≡ packed b → list_at mid.lists x ≡ list_at w.lists x ++ e ∷ [] → IsEdited w mid x → list_at new.lists y ≡ list_at mid.lists y ++ f ∷ [] → IsEdited mid new y → AreListed (old ++ c ∷ []) new.lists
put-two old c w mid new e f x y a b h he hf spread wide xa yb j1 d1 j2 d2 = record {
  entries = λ k. joined-each (IsEntry (old ++ c ∷ []) k) mid new y f j2 d2 k
      (joined-each (IsEntry (old ++ c ∷ []) k) w mid x e j1 d1 k (λ i d g. newer-entry old c k _ (h.entries k i d g)) (λ q. new-entry old c e 0 a b k he (q ∙ xa)))
      (λ q. new-entry old c f 1 b a k hf (q ∙ yb));
  once = λ k v g. elim (of-new old c v k g) [
    | inl s ↦ joined-other mid new y f j2 d2 v k (λ q. omega (arith, q, s, we, wf)) ∙ joined-other w mid x e j1 d1 v k (λ q. omega (arith, q, s, we)) ∙ h.once k v (older old c v k s g)
    | inr p ↦ elim (bool-cases (nat_eq (v % 2) 0)) [
      | inl z ↦ (let r : v % 2 ≡ 0 = search rules in
          let i : v ≡ e.watch = (let q = p.0 in omega (arith, q, r, we)) in
          let k0 : k ≡ x = sym p.3 ∙ ap packed (some-same (sym p.2 ∙ ap (literal_in c) r ∙ he.at)) ∙ sym xa in
          let n = none-new old w.lists e.watch x h (omega (arith, we)) in
          let t = joined-here w mid x e j1 in
          let m = joined-other mid new y f j2 d2 e.watch x (λ q. omega (arith, q, we, wf)) in
          ap (λ u. times u (list_at new.lists k)) i ∙ ap (λ u. times e.watch (list_at new.lists u)) k0 ∙ m ∙ (let s : times e.watch (list_at mid.lists x) ≡ 1 = omega (arith, t, n) in s))
      | inr z ↦ (let r : v % 2 ≡ 1 = (let d = differ (v % 2) 0 z in omega (arith, d)) in
          let i : v ≡ f.watch = (let q = p.0 in omega (arith, q, r, wf)) in
          let k0 : k ≡ y = sym p.3 ∙ ap packed (some-same (sym p.2 ∙ ap (literal_in c) r ∙ hf.at)) ∙ sym yb in
          let n = none-new old w.lists f.watch y h (omega (arith, wf)) in
          let m = joined-other w mid x e j1 d1 f.watch y (λ q. omega (arith, q, we, wf)) in
          let t = joined-here mid new y f j2 in
          ap (λ u. times u (list_at new.lists k)) i ∙ ap (λ u. times f.watch (list_at new.lists u)) k0 ∙ (let s : times f.watch (list_at new.lists y) ≡ 1 = omega (arith, t, n, m) in s))
    ]
  ];
  spread = lines-of old c IsSpread h.spread spread;
  wide = lines-of old c (λ d. (l : Literal) → has d l ≡ true → packed l < length new.lists) (λ i s l g. room l (h.wide i s l g)) (λ l g. room l (wide l g));
  few = (let q1 = d1.len in let q2 = d2.len in let f = h.few in omega (arith, f, q1, q2));
} where
  some-same : {i j : Literal} → Some i ≡ Some j → i ≡ j
  some-same q = cc

  we : e.watch ≡ 2 * length old + 0
  we = he.watch

  wf : f.watch ≡ 2 * length old + 1
  wf = hf.watch

  room : (l : Literal) → packed l < length w.lists → packed l < length new.lists
  room l g = let q1 = d1.len in let q2 = d2.len in omega (arith, g, q1, q2)

both : (c : List Literal) (a b : Literal) → length c ≡ 2 → a ≡ get_or c 0 a → b ≡ get_or c 1 b → (k : Literal) → has c k ≡ true → (k ≡ a) ⊎ (k ≡ b)
both [] a b e ra rb k h = absurd (omega (arith, e))
both (x ∷ []) a b e ra rb k h = absurd (omega (arith, e))
both (x ∷ y ∷ []) a b e ra rb k h = elim (has-cases x k (y ∷ []) h) [
  | inl q ↦ inl (q ∙ sym ra)
  | inr r ↦ elim (has-cases y k [] r) [ inl q ↦ inr (q ∙ sym rb) | inr z ↦ absurd (cc) ]
]
both (x ∷ y ∷ z ∷ c) a b e ra rb k h = absurd (omega (arith, e))

-- the two literals, as they are read
pub new-first : (old : List (List Literal)) (c : List Literal) (n u : ℕ) (two : Bool) (a b : Literal) → n ≡ length old → u ≡ 2 * n → 2 ≤ length c → a ≡ get_or c 0 a → b ≡ get_or c 1 b → (two ≡ true → length c ≡ 2) → IsNew old c (record { watch = u; two = two; other = b }) 0 a b
new-first old c n u two a b e q long ra rb t = record {
  watch = omega (arith, q, e);
  low = omega arith;
  at = literal-at c 0 a (omega arith) long ra;
  other = refl;
  among = literal-has c 1 b (literal-at c 1 b (omega arith) long rb);
  pair = λ s. both c a b (t s) ra rb;
}

pub new-second : (old : List (List Literal)) (c : List Literal) (n u : ℕ) (two : Bool) (a b : Literal) → n ≡ length old → u ≡ 2 * n + 1 → 2 ≤ length c → a ≡ get_or c 0 a → b ≡ get_or c 1 b → (two ≡ true → length c ≡ 2) → IsNew old c (record { watch = u; two = two; other = a }) 1 b a
new-second old c n u two a b e q long ra rb t = record {
  watch = omega (arith, q, e);
  low = omega arith;
  at = literal-at c 1 b (omega arith) long rb;
  other = refl;
  among = literal-has c 0 a (literal-at c 0 a (omega arith) long ra);
  pair = λ s k h. elim (both c a b (t s) ra rb k h) [ inl x ↦ inr x | inr y ↦ inl y ];
}

pub put-short : (old : List (List Literal)) (c : List Literal) (lists : List (List Listed)) → AreListed old lists → HasLists lists c → length c < 2 → AreListed (old ++ c ∷ []) lists
put-short old c lists h wide short = record {
  entries = λ k i d g. newer-entry old c k _ (h.entries k i d g);
  once = λ k v g. elim (of-new old c v k g) [
    | inl b ↦ h.once k v (older old c v k b g)
    | inr p ↦ absurd (none c (v % 2) p.1 short p.2)
  ];
  spread = lines-of old c IsSpread h.spread (alone c short);
  wide = lines-of old c (λ d. (l : Literal) → has d l ≡ true → packed l < length lists) h.wide wide;
  few = h.few;
} where
  none : (d : List Literal) (p : ℕ) (l : Literal) → length d < 2 → literal_in d p ≡ Some l → ⊥
  none [] p l b e = cc
  none (x ∷ []) p l b e = cc
  none (x ∷ y ∷ d) p l b e = omega (arith, b)

  alone : (d : List Literal) → length d < 2 → IsSpread d
  alone [] b = tt
  alone (x ∷ []) b = tt
  alone (x ∷ y ∷ d) b = absurd (omega (arith, b))

pub same-push : (a b : List (List Literal)) (c d : List Literal) → AreSame a b → IsSame c d → AreSame (a ++ c ∷ []) (b ++ d ∷ [])
same-push a b c d h s =
    let e = h.each in
    let la = length-append a (c ∷ []) in
    let lb = length-append b (d ∷ []) in
    record {
      each = la ∙ omega (arith, e) ∙ sym lb;
      same = λ i g. elim (bool-cases (nat_lt i (length a))) [
        | inl y ↦ (let x : i < length a = search rules in
            let P : List Literal → Type 0 = λ z. IsSame z (line_at (b ++ d ∷ []) i) in
            let Q : List Literal → Type 0 = λ z. IsSame (line_at a i) z in
            subst P (sym (line_at-append a (c ∷ []) i x)) (subst Q (sym (line_at-append b (d ∷ []) i (omega (arith, x, e)))) (h.same i x)))
        | inr n ↦ (let x : length a ≤ i = search rules in
            let ia : i ≡ length a = omega (arith, x, la, g) in
            let ib : i ≡ length b = omega (arith, ia, e) in
            let P : List Literal → Type 0 = λ z. IsSame z (line_at (b ++ d ∷ []) i) in
            let Q : List Literal → Type 0 = λ z. IsSame c z in
            subst P (sym (ap (line_at (a ++ c ∷ [])) ia ∙ line_at-end a c)) (subst Q (sym (ap (line_at (b ++ d ∷ [])) ib ∙ line_at-end b d)) s))
      ];
    }
