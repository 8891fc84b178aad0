-- Where the first of two queries alone answers with a row (the smallest witness problem; Miao,
-- Roy and Yang, SIGMOD 2019).
use Rattle.std.specs.Prelude.{◌≡◌, ℕ, Bool, true, false, not, ◌&&◌, List, length, Option, IsSomeAnd}
use Rattle.rt_value.specs.declared.value.Value.{Value}
use Rattle.rt_schema.specs.declared.table.Table.{Table}
use Rattle.rt_schema.specs.Given.{Instance, places}
use Rattle.rt_schema.specs.Kept.{kept}
use Rattle.rt_schema.specs.Law.{lawful}
use Rattle.rt_algebra.specs.Answer.{has_row, plain}
use Rattle.rt_algebra.specs.declared.typed.Typed.{Typed}
use Rattle.rt_least.specs.Least.{IsLeast, IsSpentBest}
use Rattle.rt_least.specs.declared.best.Best.{Best}
use Rattle.rt_least.specs.declared.best.Best.TheVariants.{Least, Never, Spent}

-- on the kept rows the first query answers with the row, and the second doesn't
abbrev pub told_at : Instance → Typed → Typed → List Value → List Bool → Bool
told_at given left right row keep = has_row (plain left.query (kept given.tables keep)) row && not (has_row (plain right.query (kept given.tables keep)) row)

-- and the kept rows meet the rules of the schema
abbrev pub holds_at : List Table → Instance → Typed → Typed → List Value → List Bool → Bool
holds_at schema given left right row keep = lawful schema (kept given.tables keep) && told_at given left right row keep

-- a choice of the given rows at which that is so
abbrev pub Holds : List Table → Instance → Typed → Typed → List Value → List Bool → Type 0
Holds schema given left right row keep = (length keep ≡ places given.tables) × (holds_at schema given left right row keep ≡ true)

-- the first of the smallest such choices; or there is none; or the budget is spent
abbrev pub IsRowVerdict : List Table → Instance → Typed → Typed → List Value → Option ℕ → Best → Type 0
IsRowVerdict schema given left right row budget (Least keep) = IsLeast (Holds schema given left right row) keep
IsRowVerdict schema given left right row budget Never = (keep : List Bool) → length keep ≡ places given.tables → holds_at schema given left right row keep ≡ false
IsRowVerdict schema given left right row budget (Spent s) =
    IsSomeAnd budget (λ b. IsSpentBest (places given.tables) (Holds schema given left right row) b s.best s.least s.nogoods)
