-- Different literals are different numbers.
use Rattle.std.proofs.Common.{◌≡◌, ℕ, ◌+◌, ◌*◌, ◌/◌, ◌%◌, ◌==◌, Bool, true, false, cond, sym, ap, ◌∙◌, arith}
use Rattle.rt_clause.specs.Literal.{Literal}
use Rattle.rt_clause.specs.Packed.{packed, unpacked}

unpacked-at : (v : ℕ) (b : Bool) → unpacked (2 * v + cond b 1 0) ≡ record { var = v; on = b }
unpacked-at v true = let q : (2 * v + 1) / 2 ≡ v = omega arith in let r : (2 * v + 1) % 2 ≡ 1 = omega arith in λ i. record { var = q i; on = r i == 1 }
unpacked-at v false = let q : (2 * v + 0) / 2 ≡ v = omega arith in let r : (2 * v + 0) % 2 ≡ 0 = omega arith in λ i. record { var = q i; on = r i == 1 }

pub unpacked-packed : (l : Literal) → unpacked (packed l) ≡ l
unpacked-packed l = unpacked-at l.var l.on

pub packed-same : (k l : Literal) → packed k ≡ packed l → k ≡ l
packed-same k l e = sym (unpacked-packed k) ∙ ap unpacked e ∙ unpacked-packed l
