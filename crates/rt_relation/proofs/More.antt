-- The number of names, and repeats of NULL.
use Rattle.std.proofs.Common.{◌≡◌, ◌∙◌, ℕ, zero, suc, ◌-◌, List, [], ◌∷◌, ◌++◌, refl, ap, arith, length, append_assoc}
use Rattle.std.proofs.lemmas.List.{length-map}
use Rattle.std.specs.Prelude.{replicate}
use Rattle.rt_algebra.specs.declared.expr.Expr.{Expr}
use Rattle.rt_algebra.specs.declared.expr.Expr.TheVariants as expr
use Rattle.rt_relation.specs.Columns.{names}
use Rattle.rt_relation.specs.declared.column.Column.{Column}

pub names_length : (cs : List Column) → length (names cs) ≡ length cs
names_length cs = length-map cs (λ c. c.name)

pub one_null_more : (es : List Expr) (n : ℕ) → (n ≡ 0 → ⊥) → (es ++ expr.Null ∷ []) ++ replicate (n - 1) expr.Null ≡ es ++ replicate n expr.Null
one_null_more es zero h = absurd (h refl)
one_null_more es (suc n) h =
    let e : suc n - 1 ≡ n = omega arith in
    ap (λ (m : ℕ). (es ++ expr.Null ∷ []) ++ replicate m expr.Null) e ∙ append_assoc es (expr.Null ∷ []) (replicate n expr.Null)
