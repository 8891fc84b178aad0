-- A step as two numbers: its literal with a bit on top, and which reason it has.
use Rattle.std.specs.Prelude.{◌≡◌, ℕ, ◌+◌, ◌*◌, ◌/◌, ◌%◌, ◌^◌, ◌<◌, ◌==◌, Bool, true, false, cond}
use Rattle.std.proofs.Common.{zero, suc, refl, ap, ◌∙◌, arith}
use Rattle.rt_clause.specs.Packed.{packed, unpacked, packed-unpacked}
use Rattle.rt_store.specs.declared.trail.Step.{Step}
use Rattle.rt_store.specs.declared.trail.Why.{Why}
use Rattle.rt_store.specs.declared.trail.Why.TheVariants.{Line, Decided, Assumed}

-- the bit: whether a line is the reason
abbrev pub is_line : Why → Bool
is_line (Line r) = true
is_line Decided = false
is_line Assumed = false

-- the number of the line, or 0 for a decision and 1 for the assumption
abbrev pub code : Why → ℕ
code (Line r) = r
code Decided = 0
code Assumed = 1

-- the reason that a bit and a number stand for
abbrev pub why_of : Bool → ℕ → Why
why_of true n = Line n
why_of false n = cond (n == 0) Decided Assumed

-- a number that stands for a reason
abbrev pub IsCode : Bool → ℕ → Type 0
IsCode true n = Unit {0}
IsCode false n = n < 2

-- the literal and the bit as one number
abbrev pub mark_of : Step → ℕ
mark_of s = packed s.lit + cond (is_line s.why) (2 ^ 63) 0

-- the step that two numbers stand for
abbrev pub step_of : ℕ → ℕ → Step
step_of m n = record { lit = unpacked (m % 2 ^ 63); why = why_of (m / 2 ^ 63 == 1) n }

-- two numbers that stand for a step
pub record IsPacked (m n : ℕ) : Type 0 where
  pub mark : m < 2 ^ 64
  pub code : IsCode (m / 2 ^ 63 == 1) n

no-line : (b : Bool) → is_line (cond b Decided Assumed) ≡ false
no-line true = refl
no-line false = refl

line-why : (b : Bool) (n : ℕ) → is_line (why_of b n) ≡ b
line-why true n = refl
line-why false n = no-line (n == 0)

bit : (b : ℕ) → b < 2 → cond (b == 1) (2 ^ 63) 0 ≡ 2 ^ 63 * b
bit zero h = refl
bit (suc zero) h = refl
bit (suc (suc b)) h = absurd (omega (arith, h))

-- neither number is lost
pub code-why : (b : Bool) (n : ℕ) → IsCode b n → code (why_of b n) ≡ n
code-why true n h = refl
code-why false zero h = refl
code-why false (suc zero) h = refl
code-why false (suc (suc n)) h = absurd (omega (arith, h))

pub mark-step : (m n : ℕ) → m < 2 ^ 64 → mark_of (step_of m n) ≡ m
mark-step m n h =
    ap (λ b. packed (unpacked (m % 2 ^ 63)) + cond b (2 ^ 63) 0) (line-why (m / 2 ^ 63 == 1) n)
    ∙ ap (λ w. w + cond (m / 2 ^ 63 == 1) (2 ^ 63) 0) (packed-unpacked (m % 2 ^ 63))
    ∙ ap (λ k. m % 2 ^ 63 + k) (bit (m / 2 ^ 63) (omega (arith, h))) ∙ omega arith
