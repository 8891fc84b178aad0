-- What the lines of a search say of the goal.
use Rattle.std.proofs.Common.{◌≡◌, ℕ, zero, suc, ◌+◌, ◌-◌, ◌<◌, ◌≤◌, max, nat_lt, nat_le, Bool, true, false, not, ◌||◌, inl, inr, List, [], ◌∷◌, ◌++◌, map, take, length, refl, sym, ap, subst, ◌∙◌, Option, Some, None, IfSome, arith, rules}
use Rattle.std.proofs.Math.Nat.{max-le, le-max_left}
use Rattle.std.specs.Option.{option_to_list}
use Rattle.rt_value.specs.Keep.{size}
use Rattle.rt_clause.specs.Literal.{Literal, negated}
use Rattle.rt_clause.specs.Lists.{has, line_at, IsMet, Closed, Determined, IsBelow, AreBelow}
use Rattle.rt_clause.specs.Models.{lit_true, clause_true, IsModel}
use Rattle.rt_clause.specs.Refuting.{Refutes, IsRefuted}
use Rattle.rt_clause.specs.Gates.{AgreeBelow, Extends}
use Rattle.rt_clause.proofs.Bools.{bool-cases}
use Rattle.rt_clause.proofs.Literals.{has-head, has-tail, has-cases, has-append_cases, has-map_negated}
use Rattle.rt_clause.proofs.Following.{lit_true-negated}
use Rattle.rt_clause.proofs.EachLine.{each-none, each-cons, each-head, each-tail, each-append, each-back, closed-front}
use Rattle.rt_clause.proofs.Extending.{index-front, model-older}
use Rattle.rt_clause.proofs.GateLaws.{IsTrueAt}
use Rattle.rt_formula.specs.Shared.{Shared, bool_at, val}
use Rattle.rt_solver.specs.Search.{line_of}
use Rattle.rt_solver.specs.Solving.{reach, width_from, width, variables, IsLast, HasSearched}
use Rattle.rt_solver.specs.Answers.{IsModelled}
use Rattle.rt_solver.proofs.Widths.{reach-least}
use Rattle.rt_totalizer.specs.Outputs.{output_at}
use Rattle.rt_totalizer.proofs.Rows.{cell-has}
use Rattle.rt_least.specs.Sought.{IsSought, IsWithin, left_out, not_kept}
use Rattle.rt_least.specs.Aimed.{IsAimed, HasCounter, fewer_than}
use Rattle.rt_least.proofs.LeftOut.{left_out-below, left_out-forces, left_out-met, left_out-true}
use Rattle.rt_least.proofs.Taking.{take-index, take-length}

reach-le : (n m : ℕ) (c : List Literal) → n ≤ m → IsBelow m c → reach n c ≤ m
reach-le n m [] h b = h
reach-le n m (l ∷ ls) h b = reach-le (max n (l.var + 1)) m ls (max-le h (let p = b l (has-head l ls) in let q : l.var + 1 ≤ m = omega (arith, p) in q)) (λ k g. b k (has-tail l k ls g))

width-le : (n m : ℕ) (lines : List (List Literal)) → n ≤ m → AreBelow m lines → width_from n lines ≤ m
width-le n m [] h b = h
width-le n m (c ∷ cs) h b = width-le (reach n c) m cs (reach-le n m c h (each-head (IsBelow m) c cs b)) (each-tail (IsBelow m) c cs b)

assumed-below : (m : ℕ) (assume : Option Literal) → IfSome assume (λ a. a.var < m) → IsBelow m (option_to_list assume)
assumed-below m None h l g = absurd (cc)
assumed-below m (Some a) h l g = elim (has-cases a l [] g) [ inl e ↦ (let P : ℕ → Type 0 = λ v. v < m in subst P (ap (λ (j : Literal). j.var) (sym e)) h) | inr c ↦ absurd (cc) ]

-- the variables of a call are below next
pub variables-le : (next : ℕ) (lines : List (List Literal)) (assume : Option Literal) (first : ℕ) → first ≤ next → AreBelow next lines → IfSome assume (λ a. a.var < next) → variables lines assume first ≤ next
variables-le next lines assume first f b a = reach-le (max first (width lines)) next (option_to_list assume) (max-le f (width-le 0 next lines (let z : 0 ≤ next = omega arith in z) b)) (assumed-below next assume a)

pub determined-less : (lines : List (List Literal)) (k m next : ℕ) → m ≤ next → Determined lines k next → Determined lines k m
determined-less lines k m next h d set c g v b = d set c g v (omega (arith, h, b))

line-below : (next : ℕ) (assume : Option Literal) (c : List Literal) → IfSome assume (λ a. a.var < next) → IsBelow next c → IsBelow next (line_of assume c)
line-below next assume c a b l h = elim (has-append_cases c (map negated (option_to_list assume)) l h) [
  | inl x ↦ b l x
  | inr x ↦ assumed-below next assume a (negated l) (has-map_negated (option_to_list assume) l x)
]

lines-below : (next : ℕ) (assume : Option Literal) (cs : List (List Literal)) → IfSome assume (λ a. a.var < next) → AreBelow next cs → AreBelow next (map (line_of assume) cs)
lines-below next assume [] a b = each-none (IsBelow next)
lines-below next assume (c ∷ cs) a b = each-cons (IsBelow next) (line_of assume c) (map (line_of assume) cs) (line-below next assume c a (each-head (IsBelow next) c cs b)) (lines-below next assume cs a (each-tail (IsBelow next) c cs b))

refuting-below : (next : ℕ) (assume : Option Literal) (c : List Literal) → IfSome assume (λ a. a.var < next) → Refutes assume c → IsBelow next c
refuting-below next assume c a (inl e) l h = (let P : List Literal → Type 0 = λ x. has x l ≡ true in let g = subst P e h in absurd (cc))
refuting-below next None c a (inr e) l h = absurd e
refuting-below next (Some x) c a (inr e) l h = (let P : List Literal → Type 0 = λ y. has y l ≡ true in elim (has-cases (negated x) l [] (subst P e h)) [
  | inl q ↦ (let V : ℕ → Type 0 = λ v. v < next in subst V (ap (λ (j : Literal). j.var) (sym q)) a)
  | inr c' ↦ absurd (cc)
])

last-below : (next : ℕ) (assume question : Option Literal) (c : List Literal) → IfSome assume (λ a. a.var < next) → IfSome question (λ q. q.var < next) → IsLast assume question c → IsBelow next c
last-below next assume question c a b (inl r) = refuting-below next assume c a r
last-below next assume None c a b (inr e) = absurd e
last-below next assume (Some q) c a b (inr e) = (let P : List Literal → Type 0 = IsBelow next in subst P (sym e) (line-below next assume (negated q ∷ []) a (assumed-below next (Some (negated q)) b)))

-- the lines of a formula with those that leave rows out are an aim
pub aimed-begun : (d : Shared) (goal : ℕ) (cone : List Bool) (lines new : List (List Literal)) (next : ℕ) → length cone ≡ d.rows → d.rows ≤ next → AreBelow next lines
    → ((keep : List Bool) → length keep ≡ d.rows → val d keep goal ≡ true → (bools : List Bool) × (length bools ≡ next) × AgreeBelow d.rows keep bools × IsModel lines bools)
    → ((keep bools : List Bool) → AgreeBelow d.rows keep bools → IsModel lines bools → val d keep goal ≡ true) → Determined lines d.rows next → new ≡ lines ++ left_out 0 cone → IsAimed d goal cone new next
aimed-begun d goal cone lines new next long w b c s t e =
    let out = left_out 0 cone in
    let B : List (List Literal) → Type 0 = AreBelow next in
    record {
      wide = w;
      below = subst B (sym e) (each-append (IsBelow next) lines out b (left_out-below 0 cone next (omega (arith, w, long))));
      complete = λ keep g.
          let r = c keep g.0 g.1 in
          let M : List (List Literal) → Type 0 = λ ls. IsModel ls r.0 in
          (r.0, r.1, r.2, subst M (sym e) (each-append (IsTrueAt r.0) lines out r.3 (left_out-true 0 cone r.0 (λ v l o. ap (bool_at r.0) (let z : 0 + v ≡ v = omega arith in z) ∙ sym (r.2 v (omega (arith, l, long))) ∙ g.2 v (omega (arith, l, long)) o))));
      sound = λ keep bools a m.
          let M : List (List Literal) → Type 0 = λ ls. IsModel ls bools in
          let all = subst M e m in (
            s keep bools a (model-older lines out bools all),
            λ v l o. a v l ∙ ap (bool_at bools) (let z : v ≡ 0 + v = omega arith in z) ∙ left_out-forces 0 cone bools (each-back (IsTrueAt bools) lines out all) v (omega (arith, l, long)) o,
          );
      determined = λ set x g. (let C : List (List Literal) → Type 0 = λ ls. Closed ls set in t set (closed-front lines out set (subst C e x)) g);
      outside = λ v l o set x. (let C : List (List Literal) → Type 0 = λ ls. Closed ls set in
          let y = subst C e x in
          ap (λ k. has set (not_kept k)) (let z : v ≡ 0 + v = omega arith in z) ∙ left_out-met 0 cone set y.consistent (each-back (IsMet set) lines out y.met) v (omega (arith, l, long)) o);
    }

-- a call of solve keeps the aim
pub aimed-on : (d : Shared) (goal : ℕ) (cone : List Bool) (lines new : List (List Literal)) (fo fn : List Bool) (assume question : Option Literal) (next first : ℕ) → first ≤ next → IsAimed d goal cone lines next → IfSome assume (λ a. a.var < next) → IfSome question (λ q. q.var < next)
    → HasSearched lines new fo fn assume question first (variables lines assume first) → IsAimed d goal cone new next
aimed-on d goal cone lines new fo fn assume question next first f h a b s =
    let more = map (line_of assume) s.learned ++ s.last in
    let m = variables lines assume first in
    let le = variables-le next lines assume first f h.below a in
    let learned : AreBelow next s.learned = (λ i b l g. let p = s.below.0 i b l g in omega (arith, p, le)) in
    let last : AreBelow next s.last = elim s.ends [
      | inl z ↦ (let P : List (List Literal) → Type 0 = AreBelow next in subst P (sym z) (each-none (IsBelow next)))
      | inr z ↦ (let P : List (List Literal) → Type 0 = AreBelow next in subst P (sym z.1) (each-cons (IsBelow next) z.0 [] (last-below next assume question z.0 a b z.2) (each-none (IsBelow next))))
    ] in
    let B : List (List Literal) → Type 0 = AreBelow next in
    record {
      wide = h.wide;
      below = subst B (sym s.lines) (each-append (IsBelow next) lines more h.below (each-append (IsBelow next) (map (line_of assume) s.learned) s.last (lines-below next assume s.learned a learned) last));
      complete = λ keep g. let r = h.complete keep g in (r.0, r.1, r.2, s.sound r.0 r.3);
      sound = λ keep bools ag m. (let M : List (List Literal) → Type 0 = λ ls. IsModel ls bools in h.sound keep bools ag (model-older lines more bools (subst M s.lines m)));
      determined = λ set c g. (let C : List (List Literal) → Type 0 = λ ls. Closed ls set in h.determined set (closed-front lines more set (subst C s.lines c)) g);
      outside = λ v l o set c. (let C : List (List Literal) → Type 0 = λ ls. Closed ls set in h.outside v l o set (closed-front lines more set (subst C s.lines c)));
    }

pub counted-on : (d : Shared) (lines new more : List (List Literal)) (next : ℕ) (outs : List Literal) → new ≡ lines ++ more → HasCounter d lines next outs → HasCounter d new next outs
counted-on d lines new more next outs e h = record {
  low = h.low;
  counts = λ keep bools k a m. (let M : List (List Literal) → Type 0 = λ ls. IsModel ls bools in h.counts keep bools k a (model-older lines more bools (subst M e m)));
}

-- and so does a counter
pub aimed-extends : (d : Shared) (goal : ℕ) (cone : List Bool) (lines new : List (List Literal)) (next m : ℕ) → IsAimed d goal cone lines next → Extends lines next new m → IsAimed d goal cone new m
aimed-extends d goal cone lines new next m h e = record {
  wide = (let a = h.wide in let b = e.wider in omega (arith, a, b));
  below = e.below h.below;
  complete = λ keep g.
      let r = h.complete keep g in
      let x = e.extends h.below r.0 r.1 r.3 in
      let w = h.wide in
      (r.0 ++ x.0, x.1, (λ v b. r.2 v b ∙ sym (index-front r.0 x.0 v (let l = r.1 in omega (arith, b, l, w)))), x.2);
  sound = λ keep bools a q. (let M : List (List Literal) → Type 0 = λ ls. IsModel ls bools in h.sound keep bools a (model-older lines e.more bools (subst M e.lines q)));
  determined = e.determined d.rows h.determined;
  outside = λ v l o set c. (let C : List (List Literal) → Type 0 = λ ls. Closed ls set in h.outside v l o set (closed-front lines e.more set (subst C e.lines c)));
}

-- the rows of a model are a choice that is sought
pub model-sought : (d : Shared) (goal : ℕ) (cone : List Bool) (lines : List (List Literal)) (assume : Option Literal) (next m rows : ℕ) (bools keep : List Bool) → rows ≡ d.rows → rows ≤ length bools → keep ≡ take rows bools → IsAimed d goal cone lines next → IsModelled lines assume m bools
    → IsSought d goal cone keep
model-sought d goal cone lines assume next m rows bools keep e w k h q =
    let S : List Bool → Type 0 = IsSought d goal cone in
    let R : ℕ → Type 0 = λ n. n ≤ length bools in
    let f = h.sound (take d.rows bools) bools (take-index d.rows bools) q.model in
    subst S (sym (k ∙ ap (λ n. take n bools) e)) (take-length d.rows bools (subst R e w), f.0, f.1)

not-le : (a b : ℕ) → nat_le a b ≡ false → b < a
not-le a b h = search rules

pub lt-not-le : (a b : ℕ) → b < a → nat_le a b ≡ false
lt-not-le a b h = search rules

pub fewer-low : (d : Shared) (lines : List (List Literal)) (next : ℕ) (outs : List Literal) (most : ℕ) (a : Literal) → HasCounter d lines next outs → a ≡ fewer_than outs most → 0 < most → most ≤ length outs → a.var < next
fewer-low d lines next outs most a h e z o =
    let P : ℕ → Type 0 = λ v. v < next in
    subst P (ap (λ (l : Literal). l.var) (sym e)) (h.low (output_at outs most) (cell-has outs (most - 1) (omega (arith, z, o))))

pub some-kept : (n : ℕ) → (n ≡ 0 → ⊥) → 0 < n
some-kept zero h = absurd (h refl)
some-kept (suc n) h = omega arith

-- the model has a Bool for each row
pub model-long : (lines : List (List Literal)) (assume : Option Literal) (rows : ℕ) (bools : List Bool) → length bools ≡ variables lines assume rows → rows ≤ length bools
model-long lines assume rows bools e =
    let a = le-max_left rows (width lines) in
    let b = reach-least (max rows (width lines)) (option_to_list assume) in omega (arith, a, b, e)

-- the assumption is true exactly where fewer rows are kept
pub fewer-means : (d : Shared) (lines : List (List Literal)) (next : ℕ) (outs : List Literal) (most : ℕ) → HasCounter d lines next outs → 0 < most → most ≤ length outs → (keep bools : List Bool) → length keep ≡ d.rows → AgreeBelow d.rows keep bools → IsModel lines bools
    → lit_true bools (fewer_than outs most) ≡ not (nat_le most (size keep))
fewer-means d lines next outs most h z w keep bools k a m =
    lit_true-negated bools (output_at outs most) ∙ ap not (h.counts keep bools k a m most (omega (arith, z)) w)

pub model-fewer : (d : Shared) (lines : List (List Literal)) (a : Literal) (next m rows : ℕ) (outs : List Literal) (most : ℕ) (bools keep : List Bool) → rows ≡ d.rows → rows ≤ length bools → keep ≡ take rows bools → HasCounter d lines next outs
    → a ≡ fewer_than outs most → 0 < most → most ≤ length outs → IsModelled lines (Some a) m bools → size keep < most
model-fewer d lines a next m rows outs most bools keep e w k h ae z o q =
    let S : List Bool → Type 0 = λ xs. size xs < most in
    let R : ℕ → Type 0 = λ n. n ≤ length bools in
    let f = fewer-means d lines next outs most h z o (take d.rows bools) bools (take-length d.rows bools (subst R e w)) (take-index d.rows bools) q.model in
    subst S (sym (k ∙ ap (λ n. take n bools) e)) (not-le most (size (take d.rows bools)) (turn (nat_le most (size (take d.rows bools))) (sym f ∙ ap (lit_true bools) (sym ae) ∙ q.assumed))) where
      turn : (b : Bool) → not b ≡ true → b ≡ false
      turn true h = cc
      turn false h = refl

-- no model of refuting lines makes the assumption true
pub refuted-false : (lines : List (List Literal)) (assume : Option Literal) (bools : List Bool) → IsRefuted lines assume → IsModel lines bools → IfSome assume (λ a. lit_true bools a ≡ true) → ⊥
refuted-false lines assume bools r m a = by assume a r.2 (m r.0 r.1) where
  by : (o : Option Literal) → IfSome o (λ x. lit_true bools x ≡ true) → Refutes o (line_at lines r.0) → clause_true bools (line_at lines r.0) ≡ true → ⊥
  by o t (inl e) h = (let g : clause_true bools [] ≡ true = ap (clause_true bools) (sym e) ∙ h in cc)
  by None t (inr e) h = e
  by (Some x) t (inr e) h =
      let g : (lit_true bools (negated x) || false) ≡ true = ap (clause_true bools) (sym e) ∙ h in
      let n = lit_true-negated bools x ∙ ap not t in
      let f = ap (λ b. b || false) (sym n) ∙ g in cc

-- the lines refute, so no choice has fewer rows
pub refuted-least : (d : Shared) (goal : ℕ) (cone : List Bool) (lines : List (List Literal)) (a : Literal) (next : ℕ) (outs : List Literal) (most : ℕ) (best : List Bool) → IsAimed d goal cone lines next → HasCounter d lines next outs
    → a ≡ fewer_than outs most → most ≡ size best → 0 < most → most ≤ length outs → IsRefuted lines (Some a) → (other : List Bool) → IsSought d goal cone other → size best ≤ size other
refuted-least d goal cone lines a next outs most best h q ae me z o r other g = elim (bool-cases (nat_lt (size other) (size best))) [
  | inl y ↦ absurd (
      let l : size other < size best = search rules in
      let x = h.complete other g in
      refuted-false lines (Some a) x.0 r x.3 (ap (lit_true x.0) ae ∙ fewer-means d lines next outs most q z o other x.0 g.0 x.2 x.3 ∙ ap not (lt-not-le most (size other) (omega (arith, l, me)))))
  | inr y ↦ search rules
]

pub refuted-never : (d : Shared) (goal : ℕ) (cone : List Bool) (lines : List (List Literal)) (next : ℕ) → IsAimed d goal cone lines next → IsRefuted lines None
    → (keep : List Bool) → length keep ≡ d.rows → IsWithin d.rows cone keep → val d keep goal ≡ false
refuted-never d goal cone lines next h r keep k w = elim (bool-cases (val d keep goal)) [
  | inl y ↦ absurd (let x = h.complete keep (k, y, w) in refuted-false lines None x.0 r x.3 tt)
  | inr y ↦ y
]
