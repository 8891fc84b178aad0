-- What clauses say of the choices of rows.
use Rattle.std.specs.Prelude.{◌≡◌, ◌↔◌, ℕ, ◌<◌, Bool, true, List, length, Option, None, Some, IfSome, ⊤}
use Rattle.rt_value.specs.Keep.{size}
use Rattle.rt_clause.specs.Literal.{Literal}
use Rattle.rt_clause.specs.Lists.{AreBelow, Determined}
use Rattle.rt_clause.specs.Models.{lit_true, IsModel}
use Rattle.rt_clause.specs.Gates.{AgreeBelow}

-- some model of the lines over this choice makes true what is assumed
abbrev pub HasModelOver : ℕ → List (List Literal) → Option Literal → List Bool → Type 0
HasModelOver rows lines assume keep =
    (bools : List Bool) × AgreeBelow rows keep bools × IsModel lines bools × IfSome assume (λ a. lit_true bools a ≡ true)

-- a literal is assumed where there is a number of rows to be beaten, and not for no rows
abbrev pub IsAsked : ℕ → Option Literal → Type 0
IsAsked most None = most ≡ 0
IsAsked most (Some l) = 0 < most

-- what is assumed asks for fewer rows
abbrev pub KeepsFewer : ℕ → Option Literal → List Bool → Type 0
KeepsFewer most None keep = ⊤
KeepsFewer most (Some l) keep = size keep < most

-- The lines have a model over a choice, with what is assumed true, exactly if the choice is
-- wanted and, where a literal is assumed, keeps fewer rows. The rows determine the other
-- variables.
pub record Encodes (rows : ℕ) (IsWanted : List Bool → Type 0) (most : ℕ) (lines : List (List Literal)) (assume : Option Literal) : Type 0 where
  pub asked : IsAsked most assume
  pub means : (keep : List Bool) → length keep ≡ rows → HasModelOver rows lines assume keep ↔ (IsWanted keep × KeepsFewer most assume keep)
  pub next : ℕ
  pub below : AreBelow next lines
  pub low : IfSome assume (λ a. a.var < next)
  pub determined : Determined lines rows next
