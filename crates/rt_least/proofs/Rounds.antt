-- One round of the search: what it knows before its call of solve, and after.
use Rattle.std.proofs.Common.{◌≡◌, ℕ, ◌<◌, ◌≤◌, Bool, false, List, length, take, Option, Some, None, IsSomeAnd, arith}
use Rattle.rt_value.specs.Keep.{size}
use Rattle.rt_clause.specs.Literal.{Literal}
use Rattle.rt_clause.specs.Refuting.{IsRefuted}
use Rattle.rt_formula.specs.Shared.{Shared}
use Rattle.rt_solver.specs.Answers.{IsModelled}
use Rattle.rt_least.specs.Aimed.{IsAimed, HasCounter, fewer_than}
use Rattle.rt_least.specs.Least.{HasFewest}
use Rattle.rt_least.specs.Sought.{IsSought, IsSpentWithin}
use Rattle.rt_least.specs.Attempts.{IsGrown, IsGivenUp}
use Rattle.rt_least.proofs.Attempts.{aimed-grown}
use Rattle.rt_least.proofs.Aiming.{counted-on, fewer-low, model-sought, model-fewer, refuted-least, some-kept}
use Rattle.rt_least.proofs.Nogoods.{spent-some, spent-none}

-- the literal says that fewer rows are kept than in the best choice
pub record IsRound (d : Shared) (goal : ℕ) (cone : List Bool) (lines : List (List Literal)) (next : ℕ) (outs : List Literal) (best : List Bool) (most : ℕ) (a : Literal) : Type 0 where
  pub aimed : IsAimed d goal cone lines next
  pub counted : HasCounter d lines next outs
  pub best_is : IsSought d goal cone best
  pub assumed : a ≡ fewer_than outs most
  pub most_is : most ≡ size best
  pub some : 0 < most
  pub within : most ≤ length outs

-- what the code knows before its call of solve
pub round-begun : (d : Shared) (goal : ℕ) (cone : List Bool) (lines : List (List Literal)) (next : ℕ) (outs : List Literal) (best : List Bool) (most : ℕ) (a : Literal) → IsAimed d goal cone lines next → HasCounter d lines next outs → IsSought d goal cone best
    → a ≡ fewer_than outs most → most ≡ size best → (most ≡ 0 → ⊥) → size best ≤ length outs → IsRound d goal cone lines next outs best most a
round-begun d goal cone lines next outs best most a h c g e m z w = record { aimed = h; counted = c; best_is = g; assumed = e; most_is = m; some = some-kept most z; within = omega (arith, m, w) }

round-low : (d : Shared) (goal : ℕ) (cone : List Bool) (lines : List (List Literal)) (next : ℕ) (outs : List Literal) (best : List Bool) (most : ℕ) (a : Literal) → IsRound d goal cone lines next outs best most a → a.var < next
round-low d goal cone lines next outs best most a r = fewer-low d lines next outs most a r.counted r.assumed r.some r.within

-- an attempt keeps what is known
pub round-on : (d : Shared) (goal : ℕ) (cone : List Bool) (lines new : List (List Literal)) (next n : ℕ) (outs : List Literal) (best : List Bool) (most : ℕ) (a : Literal) → n ≡ next → IsRound d goal cone lines next outs best most a
    → IsGrown lines new (Some a) n → IsRound d goal cone new next outs best most a
round-on d goal cone lines new next n outs best most a e r g = record {
  aimed = aimed-grown d goal cone lines new (Some a) next n e (round-low d goal cone lines next outs best most a r) r.aimed g;
  counted = counted-on d lines new g.more next outs g.lines r.counted;
  best_is = r.best_is;
  assumed = r.assumed;
  most_is = r.most_is;
  some = r.some;
  within = r.within;
}

-- the rows of its model are a smaller choice
pub round-model : (d : Shared) (goal : ℕ) (cone : List Bool) (new : List (List Literal)) (next rows : ℕ) (outs : List Literal) (best : List Bool) (most : ℕ) (a : Literal) (bools keep : List Bool) → rows ≡ d.rows → IsRound d goal cone new next outs best most a
    → (rows ≤ length bools) × IsModelled new (Some a) (length bools) bools → keep ≡ take rows bools → IsSought d goal cone keep × (size keep < most)
round-model d goal cone new next rows outs best most a bools keep e r q k = (
  model-sought d goal cone new (Some a) next (length bools) rows bools keep e q.0 k r.aimed q.1,
  model-fewer d new a next (length bools) rows outs most bools keep e q.0 k r.counted r.assumed r.some r.within q.1,
)

-- where the lines refute, no choice has fewer rows than the best
pub round-least : (d : Shared) (goal : ℕ) (cone : List Bool) (new : List (List Literal)) (next : ℕ) (outs : List Literal) (best : List Bool) (most : ℕ) (a : Literal) → IsRound d goal cone new next outs best most a → IsRefuted new (Some a) → HasFewest (IsSought d goal cone) best
round-least d goal cone new next outs best most a r f = refuted-least d goal cone new a next outs most best r.aimed r.counted r.assumed r.most_is r.some r.within f

pub round-spent : (d : Shared) (goal : ℕ) (cone : List Bool) (lines new : List (List Literal)) (next n rows : ℕ) (outs : List Literal) (best : List Bool) (most : ℕ) (a : Literal) (budget : Option ℕ) (list : List (List Literal)) → n ≡ next → rows ≡ d.rows → IsRound d goal cone lines next outs best most a
    → IsSomeAnd budget (λ b. IsGivenUp lines new (Some a) n rows b list) → IsSomeAnd budget (λ b. IsSpentWithin d goal cone b (Some best) false list)
round-spent d goal cone lines new next n rows outs best most a None list q e r f = absurd f
round-spent d goal cone lines new next n rows outs best most a (Some b) list q e r f =
    let m = round-on d goal cone lines f.mid next n outs best most a q r f.grown in
    spent-some d goal cone f.mid new a next rows (Some b) best outs most list e m.aimed m.counted (round-low d goal cone f.mid next outs best most a m) m.assumed m.most_is m.some m.within f.keeps m.best_is f.spent

pub none-spent : (d : Shared) (goal : ℕ) (cone : List Bool) (lines new : List (List Literal)) (next n rows : ℕ) (budget : Option ℕ) (list : List (List Literal)) → n ≡ next → rows ≡ d.rows → IsAimed d goal cone lines next
    → IsSomeAnd budget (λ b. IsGivenUp lines new None n rows b list) → IsSomeAnd budget (λ b. IsSpentWithin d goal cone b None false list)
none-spent d goal cone lines new next n rows None list q e h f = absurd f
none-spent d goal cone lines new next n rows (Some b) list q e h f =
    spent-none d goal cone f.mid new next rows (Some b) list e (aimed-grown d goal cone lines f.mid None next n q tt h f.grown) f.keeps f.spent
