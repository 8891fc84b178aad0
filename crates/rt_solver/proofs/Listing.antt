-- How often a watch is in the lists, and what they hold, as one of them is edited.
use Rattle.std.proofs.Common.{◌≡◌, ◌≢◌, ℕ, suc, ◌+◌, ◌-◌, ◌<◌, ◌≤◌, true, false, cond, nat_eq, List, [], ◌∷◌, ◌++◌, length, get_or, set, refl, sym, ap, subst, ◌∙◌, inl, inr, arith, rules, length-set, get_or-set_same, get_or-set_other}
use Rattle.std.specs.List.{All as Each, swap_remove}
use Rattle.std.proofs.lemmas.List.{get_or_default, get_or-take, length-take-le}
use Rattle.std.proofs.lemmas.List.Elements.{All-head, All-tail, All-same, All-push, All-set, All-take}
use Rattle.std.proofs.lemmas.List.Sums.{sum_by-cons, sum_by_push, sum_by-set, sum_by-swap_remove, get_or-le-sum_by}
use Rattle.rt_clause.proofs.Bools.{bool-cases}
use Rattle.rt_store.specs.Watching.{Listed, Lists, list_at, tells, times, IsEdited}

pub differ : (i n : ℕ) → nat_eq i n ≡ false → i ≢ n
differ i n g w = let s : nat_eq i n ≡ true = search rules in cc

tells-own : (w : ℕ) (e : Listed) → e.watch ≡ w → tells w e ≡ 1
tells-own w e q = let n : nat_eq e.watch w ≡ true = search rules in ap (λ b. cond b 1 0) n

tells-other : (w : ℕ) (e : Listed) → e.watch ≢ w → tells w e ≡ 0
tells-other w e q = elim (bool-cases (nat_eq e.watch w)) [ inl y ↦ absurd (q (search rules)) | inr n ↦ ap (λ b. cond b 1 0) n ]

-- a watch that no entry has, and the other way round
pub times-none : (w : ℕ) (es : List Listed) → Each (λ e. e.watch ≢ w) es → times w es ≡ 0
times-none w [] h = refl
times-none w (e ∷ es) h =
    let a = sum_by-cons (tells w) e es in
    let b = tells-other w e (All-head (λ x. x.watch ≢ w) e es h) in
    let c = times-none w es (All-tail (λ x. x.watch ≢ w) e es h) in
    omega (arith, a, b, c)

pub none-has : (w : ℕ) (es : List Listed) → times w es ≡ 0 → Each (λ e. e.watch ≢ w) es
none-has w es h k d b q =
    let g = get_or-le-sum_by (tells w) es k d b in
    let o = tells-own w (get_or es k d) q in
    omega (arith, g, o, h)

-- the place of a watch
pub place-in : (w : ℕ) (es : List Listed) → times w es ≡ 1 → (j : ℕ) × (j < length es) × ((d : Listed) → (get_or es j d).watch ≡ w)
place-in w [] h = absurd (omega (arith, h))
place-in w (e ∷ es) h = elim (bool-cases (nat_eq e.watch w)) [
  | inl y ↦ (0, omega arith, λ d. search rules)
  | inr n ↦ (
      let a = sum_by-cons (tells w) e es in
      let b : tells w e ≡ 0 = ap (λ b. cond b 1 0) n in
      let r = place-in w es (omega (arith, a, b, h)) in
      (suc r.0, (let x = r.1 in omega (arith, x)), r.2))
]

-- an entry that comes to the end of a list
pub joined-each : (P : Listed → Type 0) (old new : Lists) (to : ℕ) (e : Listed) → list_at new.lists to ≡ list_at old.lists to ++ e ∷ [] → IsEdited old new to → (k : ℕ) → Each P (list_at old.lists k) → (k ≡ to → P e) → Each P (list_at new.lists k)
joined-each P old new to e h d k a p = elim (bool-cases (nat_eq k to)) [
  | inl y ↦ (let q : k ≡ to = search rules in
      All-same P (list_at new.lists k) (list_at old.lists k ++ e ∷ []) (ap (list_at new.lists) q ∙ h ∙ ap (λ n. list_at old.lists n ++ e ∷ []) (sym q)) (All-push P (list_at old.lists k) e a (p q)))
  | inr n ↦ All-same P (list_at new.lists k) (list_at old.lists k) (d.others k (differ k to n)) a
]

pub joined-here : (old new : Lists) (to : ℕ) (e : Listed) → list_at new.lists to ≡ list_at old.lists to ++ e ∷ [] → times e.watch (list_at new.lists to) ≡ times e.watch (list_at old.lists to) + 1
joined-here old new to e h =
    ap (times e.watch) h ∙ sum_by_push (tells e.watch) (list_at old.lists to) e ∙ ap (λ n. times e.watch (list_at old.lists to) + n) (tells-own e.watch e refl)

pub joined-other : (old new : Lists) (to : ℕ) (e : Listed) → list_at new.lists to ≡ list_at old.lists to ++ e ∷ [] → IsEdited old new to → (w k : ℕ) → e.watch ≢ w → times w (list_at new.lists k) ≡ times w (list_at old.lists k)
joined-other old new to e h d w k n = elim (bool-cases (nat_eq k to)) [
  | inl y ↦ (let q : k ≡ to = search rules in
      let a = sum_by_push (tells w) (list_at old.lists to) e in
      let z = tells-other w e n in
      ap (λ i. times w (list_at new.lists i)) q ∙ ap (times w) h ∙ (let r : times w (list_at old.lists to ++ e ∷ []) ≡ times w (list_at old.lists to) = omega (arith, a, z) in r) ∙ ap (λ i. times w (list_at old.lists i)) (sym q))
  | inr m ↦ ap (times w) (d.others k (differ k to m))
]

-- an entry that leaves a list
pub left-each : (P : Listed → Type 0) (old new : Lists) (home i : ℕ) (e : Listed) → i < length (list_at old.lists home) → list_at new.lists home ≡ swap_remove (list_at old.lists home) i e → IsEdited old new home → (k : ℕ) → Each P (list_at old.lists k) → Each P (list_at new.lists k)
left-each P old new home i e b h d k a = elim (bool-cases (nat_eq k home)) [
  | inl y ↦ (let q : k ≡ home = search rules in
      let es = list_at old.lists home in
      let f : Each P es = (let R : ℕ → Type 0 = λ n. Each P (list_at old.lists n) in subst R q a) in
      All-same P (list_at new.lists k) (swap_remove es i e) (ap (list_at new.lists) q ∙ h)
      (All-take P _ (set es i (get_or es _ e)) (All-set P es i (get_or es _ e) (f _ e (omega (arith, b))) f)))
  | inr n ↦ All-same P (list_at new.lists k) (list_at old.lists k) (d.others k (differ k home n)) a
]

pub left-here : (old new : Lists) (home i : ℕ) (e : Listed) → i < length (list_at old.lists home) → e ≡ get_or (list_at old.lists home) i e → list_at new.lists home ≡ swap_remove (list_at old.lists home) i e → times e.watch (list_at new.lists home) + 1 ≡ times e.watch (list_at old.lists home)
left-here old new home i e b r h =
    let a = sum_by-swap_remove (tells e.watch) (list_at old.lists home) i e b in
    let o = tells-own e.watch (get_or (list_at old.lists home) i e) (ap (λ (x : Listed). x.watch) (sym r)) in
    let n = ap (times e.watch) h in
    omega (arith, a, o, n)

pub left-other : (old new : Lists) (home i : ℕ) (e : Listed) → i < length (list_at old.lists home) → e ≡ get_or (list_at old.lists home) i e → list_at new.lists home ≡ swap_remove (list_at old.lists home) i e → IsEdited old new home → (w k : ℕ) → e.watch ≢ w → times w (list_at new.lists k) ≡ times w (list_at old.lists k)
left-other old new home i e b r h d w k n = elim (bool-cases (nat_eq k home)) [
  | inl y ↦ (let q : k ≡ home = search rules in
      let a = sum_by-swap_remove (tells w) (list_at old.lists home) i e b in
      let o = tells-other w (get_or (list_at old.lists home) i e) (λ x. n (ap (λ (y : Listed). y.watch) r ∙ x)) in
      ap (λ j. times w (list_at new.lists j)) q ∙ ap (times w) h ∙ (let z : times w (swap_remove (list_at old.lists home) i e) ≡ times w (list_at old.lists home) = omega (arith, a, o) in z) ∙ ap (λ j. times w (list_at old.lists j)) (sym q))
  | inr m ↦ ap (times w) (d.others k (differ k home m))
]

pub left-shorter : (es : List Listed) (i : ℕ) (e : Listed) → i < length es → length (swap_remove es i e) + 1 ≡ length es
left-shorter es i e b =
    let l = length-set es i (get_or es (length es - 1) e) in
    let t = length-take-le (length es - 1) (set es i (get_or es (length es - 1) e)) (omega (arith, l)) in
    omega (arith, t, b)

-- an entry from the place on was behind it before
pub left-behind : (es : List Listed) (i k : ℕ) (e x : Listed) → i < length es → i ≤ k → k < length (swap_remove es i e) → x ≡ get_or (swap_remove es i e) k x → (m : ℕ) × (i < m) × (m < length es) × (x ≡ get_or es m x)
left-behind es i k e x b g s r =
    let l = left-shorter es i e b in
    let last : Listed = get_or es (length es - 1) e in
    let q : x ≡ get_or (set es i last) k x = r ∙ get_or-take (length es - 1) (set es i last) k x (omega (arith, s, l)) in
    elim (bool-cases (nat_eq k i)) [
      | inl y ↦ (let z : k ≡ i = search rules in
          (length es - 1, omega (arith, s, l, g, z), omega (arith, b), q ∙ ap (λ n. get_or (set es i last) n x) z ∙ get_or-set_same es i last x b ∙ get_or_default es (length es - 1) e x (omega (arith, b))))
      | inr n ↦ (let d = differ k i n in
          (k, omega (arith, g, d), omega (arith, s, l), q ∙ get_or-set_other es i k last x d))
    ]

-- an entry that is noted with another literal
pub noted-times : (es : List Listed) (i : ℕ) (e f : Listed) (w : ℕ) → i < length es → e ≡ get_or es i e → f.watch ≡ e.watch → times w (set es i f) ≡ times w es
noted-times es i e f w b r q =
    let a = sum_by-set (tells w) es i f e b in
    let o : tells w f ≡ tells w (get_or es i e) = ap (λ n. cond (nat_eq n w) 1 0) (q ∙ ap (λ (x : Listed). x.watch) r) in
    omega (arith, a, o)
