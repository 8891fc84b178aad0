-- A search with one assumption for all questions of a size: what is known before a question, and after.
use Rattle.std.proofs.Common.{◌≡◌, ℕ, ◌+◌, ◌<◌, ◌≤◌, nat_lt, Bool, not, List, ◌++◌, length, ap, ◌∙◌, inl, inr, Some, arith, rules}
use Rattle.rt_value.specs.Keep.{size}
use Rattle.rt_clause.specs.Literal.{Literal}
use Rattle.rt_clause.specs.Models.{lit_true}
use Rattle.rt_clause.proofs.Bools.{bool-cases}
use Rattle.rt_formula.specs.Shared.{Shared}
use Rattle.rt_totalizer.specs.declared.counter.Outputs.{Outputs}
use Rattle.rt_least.specs.Aimed.{IsAimed, HasCounter, IsUnderWay, fewer_than}
use Rattle.rt_least.specs.Alone.{AllowsFew}
use Rattle.rt_least.specs.Attempts.{IsAnswered, HasNone}
use Rattle.rt_least.specs.Least.{HasFewest}
use Rattle.rt_least.specs.Sought.{IsSought}
use Rattle.rt_least.proofs.Aiming.{counted-on, fewer-means, lt-not-le, model-fewer}

-- more lines keep what is known, with a choice of no more rows
pub way-on : (d : Shared) (goal : ℕ) (cone : List Bool) (lines new more : List (List Literal)) (next next' : ℕ) (counter : Outputs) (best keep : List Bool) → new ≡ lines ++ more → next ≤ next' → IsAimed d goal cone new next' → IsUnderWay d goal cone lines next counter best
    → IsSought d goal cone keep → size keep ≤ size best → size best < d.rows → IsUnderWay d goal cone new next' counter keep
way-on d goal cone lines new more next next' counter best keep e w a u s l r = record {
  long = u.long;
  aimed = a;
  counted = record {
    low = λ x h. (let b = u.counted.low x h in omega (arith, b, w));
    counts = (counted-on d lines new more next counter.outs e u.counted).counts;
  };
  sought = s;
  within = (let b = u.within in omega (arith, b, l));
  room = λ h. (let b = u.room r in omega (arith, b, l));
}

-- what is assumed is true where no more rows are kept
pub allows-few : (d : Shared) (lines : List (List Literal)) (next : ℕ) (outs : List Literal) (best : List Bool) (most : ℕ) (held : Literal) → HasCounter d lines next outs → most ≡ size best + 1 → most ≤ length outs → held ≡ fewer_than outs most → AllowsFew d lines best held
allows-few d lines next outs best most held c m w h keep bools k a q s =
    ap (lit_true bools) h ∙ fewer-means d lines next outs most c (omega (arith, m)) w keep bools k a q ∙ ap not (lt-not-le most (size keep) (omega (arith, s, m)))

-- where no model makes the question for fewer rows true, no choice has fewer
pub none-fewer : (d : Shared) (goal : ℕ) (cone : List Bool) (lines : List (List Literal)) (next : ℕ) (outs : List Literal) (best : List Bool) (most : ℕ) (held bound : Literal) → IsAimed d goal cone lines next → HasCounter d lines next outs → AllowsFew d lines best held
    → most ≡ size best → 0 < most → most ≤ length outs → bound ≡ fewer_than outs most → HasNone lines (Some held) bound → HasFewest (IsSought d goal cone) best
none-fewer d goal cone lines next outs best most held bound h q f me z o ae r other g = elim (bool-cases (nat_lt (size other) (size best))) [
  | inl y ↦ absurd (
      let l : size other < size best = search rules in
      let x = h.complete other g in
      r x.0 x.3 (f other x.0 g.0 x.2 x.3 (omega (arith, l))) (ap (lit_true x.0) ae ∙ fewer-means d lines next outs most q z o other x.0 g.0 x.2 x.3 ∙ ap not (lt-not-le most (size other) (omega (arith, l, me)))))
  | inr y ↦ search rules
]

-- and a model keeps fewer
pub found-fewer : (d : Shared) (lines : List (List Literal)) (next rows : ℕ) (outs : List Literal) (most : ℕ) (held bound : Literal) (keep : List Bool) → rows ≡ d.rows → HasCounter d lines next outs → 0 < most → most ≤ length outs → bound ≡ fewer_than outs most
    → IsAnswered lines held bound rows (Some keep) → size keep < most
found-fewer d lines next rows outs most held bound keep e c z o ae q =
    model-fewer d lines bound next (length q.0) rows outs most q.0 keep e q.1 q.4 c ae z o (record { each = q.2.each; model = q.2.model; assumed = q.3 })
