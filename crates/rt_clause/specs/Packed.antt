-- A literal as one number: twice the variable, and one more where the literal is true at true.
use Rattle.std.specs.Prelude.{◌≡◌, ℕ, ◌+◌, ◌*◌, ◌/◌, ◌%◌, ◌<◌, ◌==◌, cond}
use Rattle.std.proofs.Common.{zero, suc, refl, ap, ◌∙◌, arith}
use Rattle.rt_clause.specs.Literal.{Literal}

abbrev pub packed : Literal → ℕ
packed l = 2 * l.var + cond l.on 1 0

abbrev pub unpacked : ℕ → Literal
unpacked w = record { var = w / 2; on = w % 2 == 1 }

bit : (r : ℕ) → r < 2 → cond (r == 1) 1 0 ≡ r
bit zero h = refl
bit (suc zero) h = refl
bit (suc (suc r)) h = absurd (omega arith)

-- nothing is lost
pub packed-unpacked : (w : ℕ) → packed (unpacked w) ≡ w
packed-unpacked w = ap (λ r. 2 * (w / 2) + r) (bit (w % 2) (omega arith)) ∙ omega arith
