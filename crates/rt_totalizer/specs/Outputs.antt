-- What the outputs of a counter say.
use Rattle.std.specs.Prelude.{◌≡◌, ℕ, ◌-◌, ◌≤◌, Bool, false, nat_le, List, length, slice_index_or}
use Rattle.rt_value.specs.Keep.{size}
use Rattle.rt_clause.specs.Literal.{Literal}
use Rattle.rt_clause.specs.Models.{lit_true, IsModel}
use Rattle.rt_clause.specs.Gates.{AgreeBelow}

-- the j-th output, counted from 1
abbrev pub output_at : List Literal → ℕ → Literal
output_at outs j = slice_index_or outs (j - 1) (record { var = 0; on = false })

-- in each model over a choice of rows the j-th output is true exactly where at least j rows are kept
abbrev pub CountsRows : ℕ → List (List Literal) → List Literal → Type 0
CountsRows rows lines outs = (keep bools : List Bool) → length keep ≡ rows → AgreeBelow rows keep bools → IsModel lines bools
    → (j : ℕ) → 1 ≤ j → j ≤ length outs → lit_true bools (output_at outs j) ≡ nat_le j (size keep)
