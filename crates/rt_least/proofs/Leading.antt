-- How far a choice of the fewest rows is known to be the first of them.
use Rattle.std.proofs.Common.{◌≡◌, ℕ, ◌+◌, ◌<◌, ◌≤◌, nat_lt, nat_le, Bool, true, false, not, ◌&&◌, inl, inr, List, [], ◌∷◌, ◌++◌, take, length, slice_index_or, refl, sym, ap, subst, ◌∙◌, Some, arith, rules}
use Rattle.std.specs.Bool.{beq}
use Rattle.rt_value.specs.Keep.{size, ComesBefore}
use Rattle.rt_clause.specs.Literal.{Literal, negated}
use Rattle.rt_clause.specs.Models.{lit_true, IsModel}
use Rattle.rt_clause.specs.Gates.{gate, AgreeBelow}
use Rattle.rt_clause.proofs.Bools.{bool-cases, and-both, not-twice}
use Rattle.rt_clause.proofs.Extending.{gate-means, model-older}
use Rattle.rt_clause.proofs.Following.{lit_true-negated}
use Rattle.rt_formula.specs.Shared.{Shared}
use Rattle.rt_totalizer.proofs.Totals.{kept-size}
use Rattle.rt_least.specs.Attempts.{HasNone}
use Rattle.rt_least.specs.Least.{HasFewest, IsLeast}
use Rattle.rt_least.specs.Sought.{IsSought, not_kept_between}
use Rattle.rt_least.specs.Order.{IsBare, IsNext, keeps_some}
use Rattle.rt_least.specs.Leading.{AllFew, HasValue, IsLeading}
use Rattle.rt_least.specs.Aimed.{IsAimed, HasCounter, fewer_than}
use Rattle.rt_least.proofs.Aiming.{fewer-means, lt-not-le}
use Rattle.rt_least.proofs.Between.{all-none, none-bare, some-first, some-of}
use Rattle.rt_least.proofs.Keeps.{HasFirst, kept-some, agree-bare, before-place, before-from, before-keeps, before-more, before-all, before-later}
use Rattle.rt_least.proofs.Taking.{take-index, take-length}

pub clash : {b : Bool} → b ≡ true → b ≡ false → ⊥
clash p q = cc

-- two choices agree on one more place
pub one-more : (p : ℕ) (xs ys : List Bool) → AgreeBelow p xs ys → slice_index_or xs p false ≡ slice_index_or ys p false → AgreeBelow (p + 1) xs ys
one-more p xs ys a e i h = elim (bool-cases (nat_lt i p)) [
  | inl y ↦ a i (search rules)
  | inr y ↦ (let b : p ≤ i = search rules in let q : i ≡ p = omega (arith, b, h) in ap (λ j. slice_index_or xs j false) q ∙ e ∙ sym (ap (λ j. slice_index_or ys j false) q))
]

-- where no row from the place on is kept, none comes before it
pub leading-first : (d : Shared) (goal : ℕ) (cone : List Bool) (lines : List (List Literal)) (best : List Bool) (place row : ℕ) (held : Literal) → IsLeading d goal cone lines best place held → IsNext best place row → d.rows ≤ row → IsLeast (IsSought d goal cone) best
leading-first d goal cone lines best place row held l n h = record {
  is_target = l.best_is;
  least = l.fewest;
  first = λ s g e b. (
      let w = n.within in
      let f = n.from in
      let t = l.best_is.0 in
      let same : row ≡ length best = omega (arith, w, h, t) in
      let B : ℕ → Type 0 = λ k. IsBare place k best in
      let more = before-more place s best (g.0 ∙ sym t) (l.alike s g (l.rivals s g e b)) (omega (arith, f, same)) (subst B same n.bare) b in
      omega (arith, more, e));
}

-- a choice of all rows has none before it
pub leading-all : (d : Shared) (goal : ℕ) (cone : List Bool) (best : List Bool) → IsSought d goal cone best → HasFewest (IsSought d goal cone) best → d.rows ≤ size best → size best ≤ length best → IsLeast (IsSought d goal cone) best
leading-all d goal cone best g f h w = record {
  is_target = g;
  least = f;
  first = λ s t e b. (let r = g.0 in before-all s best (omega (arith, h, r, w)) (t.0 ∙ sym g.0) b);
}

-- a choice of no rows has none before it
pub least-none : (d : Shared) (goal : ℕ) (cone : List Bool) (best : List Bool) → IsSought d goal cone best → size best ≡ 0 → IsLeast (IsSought d goal cone) best
least-none d goal cone best g z = record {
  is_target = g;
  least = λ other o. omega (arith, z);
  first = λ s t e b. (
      let k = kept-some 0 b.place (length s) s best (λ v h. absurd (omega (arith, h))) (omega arith) (before-place s best b) b.keeps in
      let q = kept-size s in
      omega (arith, k, q, e, z));
}

-- to begin with it is held that no more rows are kept
pub leading-begun : (d : Shared) (goal : ℕ) (cone : List Bool) (lines : List (List Literal)) (next : ℕ) (outs : List Literal) (best : List Bool) (most : ℕ) (held : Literal) → IsSought d goal cone best → HasFewest (IsSought d goal cone) best → HasCounter d lines next outs
    → most ≡ size best + 1 → most ≤ length outs → held ≡ fewer_than outs most → IsLeading d goal cone lines best 0 held
leading-begun d goal cone lines next outs best most held g f c m w h = record {
  best_is = g;
  fewest = f;
  value = λ s. not (nat_le most (size s));
  held_is = λ keep bools k a q. ap (lit_true bools) h ∙ fewer-means d lines next outs most c (omega (arith, m)) w keep bools k a q;
  few = λ s t v. (elim (bool-cases (nat_le most (size s))) [
    | inl y ↦ absurd (clash v (ap not y))
    | inr y ↦ (let b : size s < most = search rules in omega (arith, b, m))
  ]);
  alike = λ s t v i b. absurd (omega (arith, b));
  rivals = λ s t e b. ap not (lt-not-le most (size s) (omega (arith, e, m)));
}

-- and each choice of no more rows makes it true
pub all-few : (d : Shared) (goal : ℕ) (cone : List Bool) (lines : List (List Literal)) (next : ℕ) (outs : List Literal) (best : List Bool) (most : ℕ) (held : Literal) → IsSought d goal cone best → HasFewest (IsSought d goal cone) best → HasCounter d lines next outs
    → most ≡ size best + 1 → most ≤ length outs → held ≡ fewer_than outs most → AllFew d goal cone lines best held
unfolding leading-begun
all-few d goal cone lines next outs best most held g f c m w h =
    (leading-begun d goal cone lines next outs best most held g f c m w h, λ s t z. ap not (lt-not-le most (size s) (omega (arith, z, m))))

-- more lines keep what is known
pub value-on : (d : Shared) (lines new more : List (List Literal)) (l : Literal) (value : List Bool → Bool) → new ≡ lines ++ more → HasValue d lines l value → HasValue d new l value
value-on d lines new more l value e h keep bools k a m = (let M : List (List Literal) → Type 0 = λ ls. IsModel ls bools in h keep bools k a (model-older lines more bools (subst M e m)))

unfoldable pub leading-on : (d : Shared) (goal : ℕ) (cone : List Bool) (lines new more : List (List Literal)) (best : List Bool) (place : ℕ) (held : Literal) → new ≡ lines ++ more → IsLeading d goal cone lines best place held → IsLeading d goal cone new best place held
leading-on d goal cone lines new more best place held e l = record {
  best_is = l.best_is;
  fewest = l.fewest;
  value = l.value;
  held_is = value-on d lines new more held l.value e l.held_is;
  few = l.few;
  alike = l.alike;
  rivals = l.rivals;
}

-- the value of both of two literals
pub both-value : (d : Shared) (lines new : List (List Literal)) (a b out : Literal) (u v : List Bool → Bool) → new ≡ lines ++ gate out (a ∷ b ∷ []) → HasValue d lines a u → HasValue d lines b v → HasValue d new out (λ s. u s && v s)
both-value d lines new a b out u v e f g keep bools k ag m =
    let M : List (List Literal) → Type 0 = λ ls. IsModel ls bools in
    let n = subst M e m in
    let older = model-older lines (gate out (a ∷ b ∷ [])) bools n in
    gate-means lines out (a ∷ b ∷ []) bools n ∙ by (lit_true bools a) (lit_true bools b) (u keep) (v keep) (f keep bools k ag older) (g keep bools k ag older) where
      by : (x y p q : Bool) → x ≡ p → y ≡ q → (x && (y && true)) ≡ (p && q)
      by true true p q h i = cc
      by true false p q h i = cc
      by false y p q h i = ap (λ z. z && q) h

-- the negation of the literal that says that none of some rows is kept
some-value : (d : Shared) (goal : ℕ) (cone : List Bool) (lines new : List (List Literal)) (next place end : ℕ) (none some : Literal) → IsAimed d goal cone lines next → end ≤ d.rows → new ≡ lines ++ gate none (not_kept_between cone place end) → some ≡ negated none
    → HasValue d new some (keeps_some place end)
some-value d goal cone lines new next place end none some h w e x keep bools k a m =
    let M : List (List Literal) → Type 0 = λ ls. IsModel ls bools in
    let n = subst M e m in
    let within = (h.sound keep bools a (model-older lines (gate none (not_kept_between cone place end)) bools n)).1 in
    let off = all-none place end cone keep bools (λ v b. a v (omega (arith, b, w))) (λ v b. within v (omega (arith, b, w))) in
    ap (lit_true bools) x ∙ lit_true-negated bools none ∙ ap not (gate-means lines none (not_kept_between cone place end) bools n ∙ off) ∙ not-twice (keeps_some place end keep)

pub row-value : (d : Shared) (lines : List (List Literal)) (row : ℕ) (l : Literal) → row < d.rows → l.var ≡ row → l.on ≡ true → HasValue d lines l (λ s. slice_index_or s row false)
row-value d lines row l r v o keep bools k a m =
    ap (λ b. beq (slice_index_or bools l.var false) b) o ∙ beq-true (slice_index_or bools l.var false) ∙ ap (λ i. slice_index_or bools i false) v ∙ sym (a row r) where
      beq-true : (b : Bool) → beq b true ≡ b
      beq-true true = refl
      beq-true false = refl

-- the question whether a row from the place to before an end is kept: the literal that is assumed
pub record IsAsked (d : Shared) (goal : ℕ) (cone : List Bool) (lines : List (List Literal)) (best : List Bool) (place end : ℕ) (held asked : Literal) : Type 0 where
  pub leading : IsLeading d goal cone lines best place held
  pub from : place ≤ end
  pub bare : IsBare place end best
  pub asked_is : HasValue d lines asked (λ s. leading.value s && keeps_some place end s)

pub asked-begun : (d : Shared) (goal : ℕ) (cone : List Bool) (lines mid new : List (List Literal)) (next : ℕ) (best : List Bool) (place end : ℕ) (held none some asked : Literal) → IsAimed d goal cone lines next → IsLeading d goal cone lines best place held → place ≤ end → IsBare place end best → end ≤ d.rows
    → mid ≡ lines ++ gate none (not_kept_between cone place end) → some ≡ negated none → new ≡ mid ++ gate asked (held ∷ some ∷ []) → IsAsked d goal cone new best place end held asked
unfolding leading-on
asked-begun d goal cone lines mid new next best place end held none some asked h l f b r e x g =
    let l' = leading-on d goal cone lines mid (gate none (not_kept_between cone place end)) best place held e l in
    record {
      leading = leading-on d goal cone mid new (gate asked (held ∷ some ∷ [])) best place held g l';
      from = f;
      bare = b;
      asked_is = both-value d mid new held some asked l'.value (keeps_some place end) g l'.held_is (some-value d goal cone lines mid next place end none some h r e x);
    }

pub asked-on : (d : Shared) (goal : ℕ) (cone : List Bool) (lines new more : List (List Literal)) (best : List Bool) (place end : ℕ) (held asked : Literal) → new ≡ lines ++ more → IsAsked d goal cone lines best place end held asked → IsAsked d goal cone new best place end held asked
unfolding leading-on
asked-on d goal cone lines new more best place end held asked e q = record {
  leading = leading-on d goal cone lines new more best place held e q.leading;
  from = q.from;
  bare = q.bare;
  asked_is = value-on d lines new more asked (λ s. q.leading.value s && keeps_some place end s) e q.asked_is;
}

-- a model keeps an earlier row: it is the best from now on
pub asked-model : (d : Shared) (goal : ℕ) (cone : List Bool) (lines : List (List Literal)) (best : List Bool) (place end row : ℕ) (held asked : Literal) (mid : List Bool) → IsSought d goal cone mid
    → (q : IsAsked d goal cone lines best place end held asked) → (q.leading.value mid && keeps_some place end mid) ≡ true → IsNext mid place row → IsLeading d goal cone lines mid place asked × (row < end)
asked-model d goal cone lines best place end row held asked mid g q t n = (
  record {
    best_is = g;
    fewest = λ other o. (let a = l.fewest other o in let b = l.few mid g both.0 in omega (arith, a, b));
    value = λ s. l.value s && keeps_some place end s;
    held_is = q.asked_is;
    few = λ s o v. (let a = l.few s o (and-both (l.value s) (keeps_some place end s) v).0 in let b = l.fewest mid g in omega (arith, a, b));
    alike = λ s o v i b. l.alike s o (and-both (l.value s) (keeps_some place end s) v).0 i b ∙ sym (like i b);
    rivals = λ s o e b. rival s o e (before-later place end s mid best q.from like q.bare found b);
  },
  sooner,
) where
  l : IsLeading d goal cone lines best place held
  l = q.leading

  both : (l.value mid ≡ true) × (keeps_some place end mid ≡ true)
  both = and-both (l.value mid) (keeps_some place end mid) t

  like : AgreeBelow place mid best
  like = l.alike mid g both.0

  found : HasFirst place end mid
  found = some-first place end mid both.1

  sooner : row < end
  sooner = elim (bool-cases (nat_lt row end)) [
    | inl y ↦ search rules
    | inr y ↦ absurd (let h : end ≤ row = search rules in let b = found.before in clash found.kept (n.bare found.place found.from (omega (arith, b, h))))
  ]

  true-both : (x y : Bool) → x ≡ true → y ≡ true → (x && y) ≡ true
  true-both x y h i = ap (λ b. b && y) h ∙ i

  rival : (s : List Bool) → IsSought d goal cone s → size s ≡ size mid → (b : ComesBefore s best) × (b.place < end) → (l.value s && keeps_some place end s) ≡ true
  rival s o e b =
      let x = l.fewest mid g in
      let y = l.few mid g both.0 in
      let v = l.rivals s o (omega (arith, e, x, y)) b.0 in
      let a = l.alike s o v in
      true-both (l.value s) (keeps_some place end s) v (some-of place b.0.place end s (before-from place s best a b.0) b.1 b.0.keeps)

-- where no row from the place to an end is kept, by the best or by a choice that makes the held
-- literal true, these rows are settled too
unfoldable pub leading-moved : (d : Shared) (goal : ℕ) (cone : List Bool) (lines : List (List Literal)) (best : List Bool) (place end : ℕ) (held : Literal) → (l : IsLeading d goal cone lines best place held) → place ≤ end → IsBare place end best
    → ((s : List Bool) → IsSought d goal cone s → l.value s ≡ true → IsBare place end s) → IsLeading d goal cone lines best end held
leading-moved d goal cone lines best place end held l f b none = record {
  best_is = l.best_is;
  fewest = l.fewest;
  value = l.value;
  held_is = l.held_is;
  few = l.few;
  alike = λ s g v. agree-bare place end s best (l.alike s g v) (none s g v) b;
  rivals = l.rivals;
}

-- where the best keeps the row at the place, so does the first
unfoldable pub leading-kept : (d : Shared) (goal : ℕ) (cone : List Bool) (lines : List (List Literal)) (best : List Bool) (row : ℕ) (held both : Literal) → (l : IsLeading d goal cone lines best row held) → slice_index_or best row false ≡ true
    → HasValue d lines both (λ s. l.value s && slice_index_or s row false) → IsLeading d goal cone lines best (row + 1) both
leading-kept d goal cone lines best row held both l here h = record {
  best_is = l.best_is;
  fewest = l.fewest;
  value = λ s. l.value s && slice_index_or s row false;
  held_is = h;
  few = λ s g v. l.few s g (and-both (l.value s) (slice_index_or s row false) v).0;
  alike = λ s g v. (let w = and-both (l.value s) (slice_index_or s row false) v in one-more row s best (l.alike s g w.0) (w.1 ∙ sym here));
  rivals = λ s g q b. (let v = l.rivals s g q b in ap (λ y. y && slice_index_or s row false) v ∙ before-keeps row s best (l.alike s g v) here b);
}

pub leading-next : (d : Shared) (goal : ℕ) (cone : List Bool) (lines new : List (List Literal)) (best : List Bool) (row : ℕ) (held x both : Literal) → IsLeading d goal cone lines best row held → slice_index_or best row false ≡ true → row < d.rows
    → x.var ≡ row → x.on ≡ true → new ≡ lines ++ gate both (held ∷ x ∷ []) → IsLeading d goal cone new best (row + 1) both
unfolding leading-on
leading-next d goal cone lines new best row held x both l here r xv xo e =
    leading-kept d goal cone new best row held both (leading-on d goal cone lines new (gate both (held ∷ x ∷ [])) best row held e l) here
    (both-value d lines new held x both l.value (λ s. slice_index_or s row false) e l.held_is (row-value d lines row x r xv xo))

-- where a choice that makes the held literal true keeps a place that the best leaves out
unfoldable pub leading-found : (d : Shared) (goal : ℕ) (cone : List Bool) (lines : List (List Literal)) (best : List Bool) (place : ℕ) (held asked : Literal) (mid : List Bool) → (l : IsLeading d goal cone lines best place held) → slice_index_or best place false ≡ false
    → HasValue d lines asked (λ s. l.value s && slice_index_or s place false) → IsSought d goal cone mid → (l.value mid && slice_index_or mid place false) ≡ true → IsLeading d goal cone lines mid (place + 1) asked
leading-found d goal cone lines best place held asked mid l b h g t = record {
  best_is = g;
  fewest = λ other o. (let a = l.fewest other o in let c = l.few mid g both.0 in omega (arith, a, c));
  value = λ s. l.value s && slice_index_or s place false;
  held_is = h;
  few = λ s o v. (let a = l.few s o (and-both (l.value s) (slice_index_or s place false) v).0 in let c = l.fewest mid g in omega (arith, a, c));
  alike = λ s o v. (let w = and-both (l.value s) (slice_index_or s place false) v in one-more place s mid (λ i z. l.alike s o w.0 i z ∙ sym (like i z)) (w.1 ∙ sym both.1));
  rivals = λ s o e r. rival s o e r (before-later place (place + 1) s mid best (omega arith) like (λ v x y. let q : v ≡ place = omega (arith, x, y) in ap (λ i. slice_index_or best i false) q ∙ b) found r);
} where
  both : (l.value mid ≡ true) × (slice_index_or mid place false ≡ true)
  both = and-both (l.value mid) (slice_index_or mid place false) t

  like : AgreeBelow place mid best
  like = l.alike mid g both.0

  found : HasFirst place (place + 1) mid
  found = record { place = place; from = omega arith; before = omega arith; kept = both.1; bare = λ v x y. absurd (omega (arith, x, y)) }

  rival : (s : List Bool) → IsSought d goal cone s → size s ≡ size mid → ComesBefore s mid → (f : ComesBefore s best) × (f.place < place + 1) → (l.value s && slice_index_or s place false) ≡ true
  rival s o e r f =
      let x = l.fewest mid g in
      let y = l.few mid g both.0 in
      let v = l.rivals s o (omega (arith, e, x, y)) f.0 in
      let a = before-from place s best (l.alike s o v) f.0 in
      let z = f.1 in
      let q : f.0.place ≡ place = omega (arith, a, z) in
      ap (λ c. c && slice_index_or s place false) v ∙ ap (λ i. slice_index_or s i false) (sym q) ∙ f.0.keeps

-- where no model makes the question true, the rows before its end are settled
pub leading-refuted : (d : Shared) (goal : ℕ) (cone : List Bool) (lines : List (List Literal)) (next : ℕ) (best : List Bool) (place end : ℕ) (held asked : Literal) → IsAimed d goal cone lines next → IsAsked d goal cone lines best place end held asked → HasNone lines (Some held) asked
    → IsLeading d goal cone lines best end held
leading-refuted d goal cone lines next best place end held asked h q r = leading-moved d goal cone lines best place end held l q.from q.bare bare where
  l : IsLeading d goal cone lines best place held
  l = q.leading

  none : (s : List Bool) → IsSought d goal cone s → l.value s ≡ true → keeps_some place end s ≡ false
  none s g v = elim (bool-cases (keeps_some place end s)) [
    | inl y ↦ absurd (let x = h.complete s g in r x.0 x.3 (l.held_is s x.0 g.0 x.2 x.3 ∙ v) (q.asked_is s x.0 g.0 x.2 x.3 ∙ ap (λ z. z && keeps_some place end s) v ∙ y))
    | inr y ↦ y
  ]

  bare : (s : List Bool) → IsSought d goal cone s → l.value s ≡ true → IsBare place end s
  bare s g v = none-bare place end s (none s g v)

-- the rows of a model of the question
pub model-asked : (d : Shared) (goal : ℕ) (cone : List Bool) (lines : List (List Literal)) (best : List Bool) (place end rows : ℕ) (held asked : Literal) (bools mid : List Bool) → rows ≡ d.rows → rows ≤ length bools → mid ≡ take rows bools
    → (q : IsAsked d goal cone lines best place end held asked) → IsModel lines bools → lit_true bools asked ≡ true → (q.leading.value mid && keeps_some place end mid) ≡ true
model-asked d goal cone lines best place end rows held asked bools mid e w k q h t =
    let V : List Bool → Type 0 = λ s. (q.leading.value s && keeps_some place end s) ≡ true in
    let L : ℕ → Type 0 = λ n. n ≤ length bools in
    let at : take rows bools ≡ take d.rows bools = ap (λ n. take n bools) e in
    subst V (sym (k ∙ at)) (sym (q.asked_is (take d.rows bools) bools (take-length d.rows bools (subst L e w)) (take-index d.rows bools) h) ∙ t)
