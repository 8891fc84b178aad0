-- One question for an earlier row: what the lines say before the call of solve, and after.
use Rattle.std.proofs.Common.{◌≡◌, ℕ, ◌+◌, ◌-◌, ◌*◌, ◌<◌, ◌≤◌, Bool, true, false, List, [], ◌∷◌, ◌++◌, length, slice_index_or, sym, ap, subst, ◌∙◌, inl, inr, Some, arith}
use Rattle.std.proofs.Math.Nat.{mul-le-mul_left}
use Rattle.rt_clause.specs.Literal.{Literal, negated}
use Rattle.rt_clause.specs.Lists.{IsBelow}
use Rattle.rt_clause.specs.Gates.{gate}
use Rattle.rt_clause.proofs.Literals.{has-cases}
use Rattle.rt_clause.proofs.Extending.{extends-gate}
use Rattle.rt_formula.specs.Shared.{Shared}
use Rattle.rt_least.specs.Aimed.{IsAimed}
use Rattle.rt_least.specs.Attempts.{IsAnswered, IsGrown, HasNone}
use Rattle.rt_least.specs.Leading.{IsLeading}
use Rattle.rt_least.specs.Order.{IsNext}
use Rattle.rt_least.specs.Sought.{not_kept_between}
use Rattle.rt_least.proofs.Aiming.{aimed-extends, model-sought}
use Rattle.rt_least.proofs.Between.{between-below}
use Rattle.rt_least.proofs.Leading.{IsAsked, asked-begun, asked-on, asked-model, model-asked, leading-next, leading-refuted}

pub low-both : (m : ℕ) (a b : Literal) → a.var < m → b.var < m → IsBelow m (a ∷ b ∷ [])
low-both m a b p q l h = elim (has-cases a l (b ∷ []) h) [
  | inl e ↦ (let V : ℕ → Type 0 = λ v. v < m in subst V (ap (λ (j : Literal). j.var) (sym e)) p)
  | inr r ↦ elim (has-cases b l [] r) [ inl e ↦ (let V : ℕ → Type 0 = λ v. v < m in subst V (ap (λ (j : Literal). j.var) (sym e)) q) | inr c ↦ absurd (cc) ]
]

-- a gate of two literals keeps the aim
pub both-aimed : (d : Shared) (goal : ℕ) (cone : List Bool) (lines new : List (List Literal)) (next : ℕ) (a b out : Literal) → IsAimed d goal cone lines next → out.var ≡ next → a.var < next → b.var < next → new ≡ lines ++ gate out (a ∷ b ∷ []) → IsAimed d goal cone new (next + 1)
both-aimed d goal cone lines new next a b out h o p q e =
    let A : List (List Literal) → Type 0 = λ ls. IsAimed d goal cone ls (next + 1) in
    subst A (sym e) (aimed-extends d goal cone lines (lines ++ gate out (a ∷ b ∷ [])) next (next + 1) h (extends-gate lines next out (a ∷ b ∷ []) o (low-both next a b p q)))

-- what is known between two questions: the rows below a place are settled
pub record IsSettled (d : Shared) (goal : ℕ) (cone : List Bool) (lines : List (List Literal)) (next : ℕ) (best : List Bool) (place : ℕ) (held : Literal) : Type 0 where
  pub aimed : IsAimed d goal cone lines next
  pub leading : IsLeading d goal cone lines best place held
  pub low : held.var < next

-- the lines with the two literals of a question
given-aimed : (d : Shared) (goal : ℕ) (cone : List Bool) (lines mid given : List (List Literal)) (next : ℕ) (best : List Bool) (place end : ℕ) (held none some asked : Literal) → IsSettled d goal cone lines next best place held → end ≤ d.rows
    → none.var ≡ next → mid ≡ lines ++ gate none (not_kept_between cone place end) → some ≡ negated none → asked.var ≡ next + 1 → given ≡ mid ++ gate asked (held ∷ some ∷ []) → IsAimed d goal cone given (next + 2)
given-aimed d goal cone lines mid given next best place end held none some asked h r nv me x av ge =
    let A : List (List Literal) → Type 0 = λ ls. IsAimed d goal cone ls (next + 1) in
    let N : ℕ → Type 0 = λ n. IsAimed d goal cone given n in
    let w = h.aimed.wide in
    let low = h.low in
    let xv = ap (λ (l : Literal). l.var) x in
    let out = extends-gate lines next none (not_kept_between cone place end) nv (λ l g. let b = between-below cone place end l g in omega (arith, b, r, w)) in
    let one = subst A (sym me) (aimed-extends d goal cone lines (lines ++ gate none (not_kept_between cone place end)) next (next + 1) h.aimed out) in
    let two : next + 1 + 1 ≡ next + 2 = omega arith in
    subst N two (both-aimed d goal cone mid given (next + 1) held some asked one av (omega (arith, low)) (omega (arith, xv, nv)) ge)

-- what is known after a question
pub record HasAsked (d : Shared) (goal : ℕ) (cone : List Bool) (lines : List (List Literal)) (next : ℕ) (best : List Bool) (place end : ℕ) (held asked : Literal) : Type 0 where
  pub aimed : IsAimed d goal cone lines next
  pub question : IsAsked d goal cone lines best place end held asked
  pub low : held.var < next
  pub asked_low : asked.var < next

pub has-asked : (d : Shared) (goal : ℕ) (cone : List Bool) (lines mid given new : List (List Literal)) (next : ℕ) (best : List Bool) (place row end : ℕ) (held none some asked : Literal) → IsSettled d goal cone lines next best place held → IsNext best place row → row < d.rows
    → place ≤ end → end ≤ row → none.var ≡ next → mid ≡ lines ++ gate none (not_kept_between cone place end) → some ≡ negated none → asked.var ≡ next + 1 → given ≡ mid ++ gate asked (held ∷ some ∷ []) → IsGrown given new (Some held) (next + 2)
    → HasAsked d goal cone new (next + 2) best place end held asked
has-asked d goal cone lines mid given new next best place row end held none some asked h n r from to nv me x av ge s =
    let here : end ≤ d.rows = omega (arith, r, to) in
    let low = h.low in
    record {
      aimed = s.aims d goal cone (omega (arith, low)) (given-aimed d goal cone lines mid given next best place end held none some asked h here nv me x av ge);
      question = asked-on d goal cone given new _ best place end held asked s.lines
          (asked-begun d goal cone lines mid given next best place end held none some asked h.aimed h.leading from (λ v a b. n.bare v a (omega (arith, b, to))) here me x ge);
      low = omega (arith, low);
      asked_low = omega (arith, av);
    }

-- its answer is an earlier choice of as many rows
pub earlier-found : (d : Shared) (goal : ℕ) (cone : List Bool) (new : List (List Literal)) (next rows : ℕ) (best : List Bool) (place end row : ℕ) (held asked : Literal) (mid : List Bool) → rows ≡ d.rows
    → HasAsked d goal cone new next best place end held asked → IsAnswered new held asked rows (Some mid) → IsNext mid place row → IsSettled d goal cone new next mid place asked × (row < end)
earlier-found d goal cone new next rows best place end row held asked mid e h q n =
    let g = model-sought d goal cone new (Some held) next (length q.0) rows q.0 mid e q.1 q.4 h.aimed q.2 in
    let m = asked-model d goal cone new best place end row held asked mid g h.question (model-asked d goal cone new best place end rows held asked q.0 mid e q.1 q.4 h.question q.2.model q.3) n in
    (record { aimed = h.aimed; leading = m.0; low = h.asked_low }, m.1)

-- or that there is none, so that the rows before the end are settled
pub none-earlier : (d : Shared) (goal : ℕ) (cone : List Bool) (lines : List (List Literal)) (next : ℕ) (best : List Bool) (place end : ℕ) (held asked : Literal) → HasAsked d goal cone lines next best place end held asked → HasNone lines (Some held) asked
    → IsSettled d goal cone lines next best end held
none-earlier d goal cone lines next best place end held asked h r = record {
  aimed = h.aimed;
  leading = leading-refuted d goal cone lines next best place end held asked h.aimed h.question r;
  low = h.low;
}

-- a row that the best keeps is settled
pub row-settled : (d : Shared) (goal : ℕ) (cone : List Bool) (lines new : List (List Literal)) (next : ℕ) (best : List Bool) (place row : ℕ) (held x out : Literal) → IsSettled d goal cone lines next best place held → IsNext best place row → row < d.rows → place ≡ row
    → x.var ≡ row → x.on ≡ true → out.var ≡ next → new ≡ lines ++ gate out (held ∷ x ∷ []) → IsSettled d goal cone new (next + 1) best (place + 1) out
row-settled d goal cone lines new next best place row held x out h n r p xv xo ov e =
    let w = h.aimed.wide in
    let t = h.leading.best_is.0 in
    let here = ap (λ i. slice_index_or best i false) p ∙ n.kept (omega (arith, r, t)) in
    record {
      aimed = both-aimed d goal cone lines new next held x out h.aimed ov h.low (omega (arith, xv, r, w)) e;
      leading = leading-next d goal cone lines new best place held x out h.leading here (omega (arith, p, r)) (xv ∙ sym p) xo e;
      low = omega (arith, ov);
    }

-- the measure of the questions
pub falls : (rows place place' row row' : ℕ) → place < place' → place' ≤ rows → row' ≤ rows → (rows - place') * (rows + 1) + row' < (rows - place) * (rows + 1) + row
falls rows place place' row row' a b c =
    let x = rows - place' in
    let y = rows - place in
    let m : x + 1 ≤ y = omega (arith, a, b) in
    let k = mul-le-mul_left (rows + 1) m in
    omega (arith, k, c)
