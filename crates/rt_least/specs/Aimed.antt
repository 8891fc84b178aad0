-- The lines of a search.
use Rattle.std.specs.Prelude.{◌≡◌, ℕ, ◌<◌, ◌≤◌, Bool, true, false, List, length}
use Rattle.rt_clause.specs.Literal.{Literal, negated}
use Rattle.rt_clause.specs.Lists.{has, IsBelow, AreBelow, Closed, Determined}
use Rattle.rt_clause.specs.Models.{IsModel}
use Rattle.rt_clause.specs.Gates.{AgreeBelow}
use Rattle.rt_value.specs.Keep.{size}
use Rattle.rt_formula.specs.Shared.{Shared, bool_at, val}
use Rattle.rt_totalizer.specs.Outputs.{output_at, CountsRows}
use Rattle.rt_totalizer.specs.declared.counter.Outputs.{Outputs}
use Rattle.rt_least.specs.Sought.{IsSought, IsWithin, not_kept}

-- The lines have a model over a choice exactly where it is sought, and the rows determine the
-- other variables. Propagation gives that no row outside of the cone is kept.
pub record IsAimed (d : Shared) (goal : ℕ) (cone : List Bool) (lines : List (List Literal)) (next : ℕ) : Type 0 where
  pub wide : d.rows ≤ next
  pub below : AreBelow next lines
  pub complete : (keep : List Bool) → IsSought d goal cone keep → (bools : List Bool) × (length bools ≡ next) × AgreeBelow d.rows keep bools × IsModel lines bools
  pub sound : (keep bools : List Bool) → AgreeBelow d.rows keep bools → IsModel lines bools → (val d keep goal ≡ true) × IsWithin d.rows cone keep
  pub determined : Determined lines d.rows next
  pub outside : (v : ℕ) → v < d.rows → bool_at cone v ≡ false → (set : List Literal) → Closed lines set → has set (not_kept v) ≡ true

-- under the lines the outputs count the kept rows
pub record HasCounter (d : Shared) (lines : List (List Literal)) (next : ℕ) (outs : List Literal) : Type 0 where
  pub low : IsBelow next outs
  pub counts : CountsRows d.rows lines outs

-- the literal that says that fewer than so many rows are kept
abbrev pub fewer_than : List Literal → ℕ → Literal
fewer_than outs most = negated (output_at outs most)

-- A search under way. The lines ask for the goal within the cone, and the best choice is one that
-- is sought. The counter counts under the lines, up to as many rows as the best choice keeps, and
-- to one more if there are more rows.
pub record IsUnderWay (d : Shared) (goal : ℕ) (cone : List Bool) (lines : List (List Literal)) (next : ℕ) (counter : Outputs) (best : List Bool) : Type 0 where
  pub long : length cone ≡ d.rows
  pub aimed : IsAimed d goal cone lines next
  pub counted : HasCounter d lines next counter.outs
  pub sought : IsSought d goal cone best
  pub within : size best ≤ length counter.outs
  pub room : size best < d.rows → size best < length counter.outs
