-- The steps of a visit, as the code takes them.
use Rattle.std.proofs.Common.{◌≡◌, ℕ, zero, suc, ◌+◌, ◌-◌, ◌/◌, ◌%◌, ◌<◌, ◌≤◌, ◌^◌, true, false, cond, nat_eq, List, [], ◌∷◌, length, get_or, refl, sym, ap, subst, ◌∙◌, ◌⊎◌, inl, inr, Some, arith, rules, get_or-set_other, get_or-set_same, length-set, slice_set}
use Rattle.std.proofs.lemmas.List.{get_or_default}
use Rattle.rt_clause.specs.Literal.{Literal, negated}
use Rattle.rt_clause.specs.Packed.{packed}
use Rattle.rt_clause.specs.Lists.{has, is_false, line_at}
use Rattle.rt_clause.proofs.Bools.{bool-cases}
use Rattle.rt_clause.proofs.Packing.{packed-same}
use Rattle.rt_store.specs.declared.trail.Step.{Step}
use Rattle.rt_store.specs.Trail.{lits, oldest}
use Rattle.rt_store.specs.Watching.{Listed, Lists, list_at, noted, literal_in, IsEdited}
use Rattle.rt_solver.specs.Turning.{IsHeld, IsFree, IsTurned, IsUnwatched, IsShifted}
use Rattle.rt_solver.specs.Propagating.{IsQueued, AreListed}
use Rattle.rt_solver.proofs.Listing.{differ}
use Rattle.rt_solver.proofs.Shifting.{watch-within, noted-listed}
use Rattle.rt_solver.proofs.Queues.{oldest-grown, part-drop}
use Rattle.rt_solver.proofs.Visits.{IsVisit, entry-at, visit-held, visit-shift, visit-begin, visit-end, visit-none}

pub line-read : (now : List (List Literal)) (n : ℕ) (c : List Literal) → n < length now → c ≡ get_or now n c → c ≡ line_at now n
line-read now n c b e = e ∙ get_or_default now n c [] b

-- the literal of the watch is false
pub turned : (first now : List (List Literal)) (lists : List (List Listed)) (home left i : ℕ) (early : List Literal) (t0 t : List Step) (e : Listed) → IsVisit first now lists home left early t0 t → left ≡ i + 1 → e ≡ get_or (list_at lists home) i e → IsTurned now t e
turned first now lists home left i early t0 t e h a r =
    let x = entry-at first now lists home left i early t0 t e h (let b = h.low in omega (arith, a, b)) r in
    let q : h.lit ≡ x.watch.lit = packed-same h.lit x.watch.lit (sym h.home_is ∙ sym x.watch.home) in
    let P : Literal → Type 0 = λ l. is_false (lits t) l ≡ true in
    record { home = home; entry = x; denied = subst P q h.denied }

-- it stays, and its entry too
pub met-at : (first now : List (List Literal)) (lists : List (List Listed)) (home left i : ℕ) (early : List Literal) (t0 t t' : List Step) (e : Listed) (l : Literal) → IsVisit first now lists home left early t0 t → left ≡ i + 1 → e ≡ get_or (list_at lists home) i e
    → IsHeld (line_at now (e.watch / 2)) t t' (e.watch / 2) l → IsVisit first now lists home i early t0 t'
met-at first now lists home left i early t0 t t' e l h a r held = visit-held first now lists lists home left i early t0 t t' e l h a r held h.listed refl (λ k f q. (f, q, refl))

-- or its entry is noted with another literal
pub stays-at : (first now : List (List Literal)) (w new : Lists) (home left i : ℕ) (early : List Literal) (t0 t t' : List Step) (e : Listed) (l : Literal) → IsVisit first now w.lists home left early t0 t → left ≡ i + 1 → e ≡ get_or (list_at w.lists home) i e
    → IsHeld (line_at now (e.watch / 2)) t t' (e.watch / 2) l → list_at new.lists home ≡ slice_set (list_at w.lists home) i (noted e l) → IsEdited w new home → IsVisit first now new.lists home i early t0 t'
stays-at first now w new home left i early t0 t t' e l h a r held s d =
    visit-held first now w.lists new.lists home left i early t0 t t' e l h a r held (noted-listed now w new home i e l h.listed b r s d held.among)
    (ap length s ∙ length-set (list_at w.lists home) i (noted e l)) from where
      b : i < length (list_at w.lists home)
      b = let o = h.low in omega (arith, a, o)

      from : (k : ℕ) (f : Listed) → f ≡ get_or (list_at new.lists home) k f → (x : Listed) × (x ≡ get_or (list_at w.lists home) k x) × (x.watch ≡ f.watch)
      from k f q = elim (bool-cases (nat_eq k i)) [
        | inr n ↦ (f, q ∙ ap (λ es. get_or es k f) s ∙ get_or-set_other (list_at w.lists home) i k (noted e l) f (differ k i n), refl)
        | inl y ↦ (let z : k ≡ i = search rules in (
          e,
          r ∙ ap (λ j. get_or (list_at w.lists home) j e) (sym z),
          ap (λ (x : Listed). x.watch) (sym (q ∙ ap (λ es. get_or es k f) s ∙ ap (λ j. get_or (slice_set (list_at w.lists home) i (noted e l)) j f) z ∙ get_or-set_same (list_at w.lists home) i (noted e l) f b)),
        ))
      ]

-- the literal that is noted is a small number
pub small-at : (first now : List (List Literal)) (lists : List (List Listed)) (home left i : ℕ) (early : List Literal) (t0 t t' : List Step) (e : Listed) (l : Literal) → IsVisit first now lists home left early t0 t → left ≡ i + 1 → e ≡ get_or (list_at lists home) i e
    → IsHeld (line_at now (e.watch / 2)) t t' (e.watch / 2) l → packed l < 2 ^ 32
small-at first now lists home left i early t0 t t' e l h a r held =
    let x = entry-at first now lists home left i early t0 t e h (let b = h.low in omega (arith, a, b)) r in
    let g = h.listed.wide (e.watch / 2) (watch-within now e.watch home x.watch) l held.among in
    let f = h.listed.few in omega (arith, g, f)

-- the literal at the place is not watched
pub unwatched-at : (now : List (List Literal)) (t : List Step) (e : Listed) (j : ℕ) → IsTurned now t e → IsFree t (line_at now (e.watch / 2)) (e.watch % 2) j → IsUnwatched (line_at now (e.watch / 2)) j
unwatched-at now t e j h f = record {
  low = f.2.low;
  within = f.2.within;
  apart = λ p l q z. elim (either (line_at now (e.watch / 2)) (e.watch % 2) p h.entry.watch.lit f.0 l (omega arith) h.entry.watch.at f.1 q) [
    | inl s ↦ (let u = (f.2.usable l z).1 in let d = h.denied in let v : is_false (lits t) l ≡ true = ap (is_false (lits t)) s ∙ d in cc)
    | inr s ↦ (f.2.usable l z).0 s
  ];
} where
  second : (i k l : Literal) (r : ℕ) → Some (cond (nat_eq (suc r) 0) i k) ≡ Some l → k ≡ l
  second i k l r z = let n : nat_eq (suc r) 0 ≡ false = search rules in let w : Some k ≡ Some l = ap (λ b. Some (cond b i k)) (sym n) ∙ z in cc

  either : (c : List Literal) (p r : ℕ) (a o l : Literal) → p < 2 → literal_in c p ≡ Some a → literal_in c (1 - p) ≡ Some o → literal_in c r ≡ Some l → (l ≡ a) ⊎ (l ≡ o)
  either [] p r a o l b x y z = absurd (cc)
  either (i ∷ []) p r a o l b x y z = absurd (cc)
  either (i ∷ k ∷ c) zero zero a o l b x y z = inl (let s : i ≡ a = cc in let u : i ≡ l = cc in sym u ∙ s)
  either (i ∷ k ∷ c) zero (suc r) a o l b x y z = inr (let s : k ≡ o = cc in let u : k ≡ l = second i k l r z in sym u ∙ s)
  either (i ∷ k ∷ c) (suc zero) zero a o l b x y z = inr (let s : i ≡ o = cc in let u : i ≡ l = cc in sym u ∙ s)
  either (i ∷ k ∷ c) (suc zero) (suc r) a o l b x y z = inl (let s : k ≡ a = cc in let u : k ≡ l = second i k l r z in sym u ∙ s)
  either (i ∷ k ∷ c) (suc (suc p)) r a o l b x y z = absurd (omega arith)

-- another literal is watched
pub moves-at : (first now new : List (List Literal)) (lists after : List (List Listed)) (home left i j : ℕ) (early : List Literal) (t0 t t' : List Step) (e : Listed) → IsVisit first now lists home left early t0 t → left ≡ i + 1 → e ≡ get_or (list_at lists home) i e
    → IsFree t (line_at now (e.watch / 2)) (e.watch % 2) j → t' ≡ t → IsShifted now new lists after home i j → IsVisit first new after home i early t0 t'
moves-at first now new lists after home left i j early t0 t t' e h a r f q s =
    let V : List Step → Type 0 = λ x. IsVisit first new after home i early t0 x in
    let F : Listed → Type 0 = λ x. IsFree t (line_at now (x.watch / 2)) (x.watch % 2) j in
    subst V (sym q) (visit-shift first now new lists after home left i j early t0 t h a s ((subst F (read-entry (list_at lists home) i e s.entry (let b = h.low in omega (arith, a, b)) r s.at) f).2.usable s.lit s.read).1) where
      read-entry : (es : List Listed) (k : ℕ) (x y : Listed) → k < length es → x ≡ get_or es k x → y ≡ get_or es k y → x ≡ y
      read-entry es k x y g p z = p ∙ get_or_default es k x y g ∙ sym z

-- the visit begins
pub begin-at : (first : List (List Literal)) (lists : List (List Listed)) (home done left : ℕ) (s : Step) (l : Literal) (t : List Step) → left ≡ length (list_at lists home) → oldest (done + 1) t ≡ s ∷ oldest done t → l ≡ negated s.lit → home ≡ packed l → AreListed first lists → IsQueued first (lits (oldest done t)) t
    → IsVisit first first lists home left (lits (oldest done t)) t t
begin-at first lists home done left s l t a e f g h q =
    let P : List Step → Type 0 = λ x. (i : Literal) → has (lits x) i ≡ true → has (lits t) i ≡ true in
    visit-begin first lists home left s l (oldest done t) t a g f (subst P e (part-drop (length t - (done + 1)) t)) h q

-- and ends
pub end-at : (first now : List (List Literal)) (lists : List (List Listed)) (home done left : ℕ) (s : Step) (l : Literal) (t0 t : List Step) → oldest (done + 1) t0 ≡ s ∷ oldest done t0 → done < length t0 → l ≡ negated s.lit → home ≡ packed l → IsVisit first now lists home left (lits (oldest done t0)) t0 t → left ≤ 0
    → IsQueued now (lits (oldest (done + 1) t)) t
end-at first now lists home done left s l t0 t e b f g h z =
    let o : lits (oldest (done + 1) t) ≡ s.lit ∷ lits (oldest done t0) = ap lits (oldest-grown first (done + 1) t0 t (omega (arith, b)) h.grown ∙ e) in
    let Q : List Literal → Type 0 = λ x. IsQueued now x t in
    subst Q (sym o) (visit-end first now lists home s l left (lits (oldest done t0)) t0 t g f h z)

pub none-at : (now : List (List Literal)) (lists : List (List Listed)) (home done : ℕ) (s : Step) (l : Literal) (t : List Step) → oldest (done + 1) t ≡ s ∷ oldest done t → l ≡ negated s.lit → home ≡ packed l → AreListed now lists → IsQueued now (lits (oldest done t)) t → length lists ≤ home → IsQueued now (lits (oldest (done + 1) t)) t
none-at now lists home done s l t e f g h q b =
    let n : packed (negated s.lit) ≡ home = sym (g ∙ ap packed f) in
    let Q : List Literal → Type 0 = λ x. IsQueued now x t in
    subst Q (sym (ap lits e)) (visit-none now lists s (lits (oldest done t)) t h q (omega (arith, n, b)))
