-- What the search finds is the verdict on the row.
use Rattle.std.proofs.Common.{◌≡◌, ℕ, List}
use Rattle.std.specs.Prelude.{Option}
use Rattle.rt_value.specs.declared.value.Value.{Value}
use Rattle.rt_schema.specs.declared.table.Table.{Table}
use Rattle.rt_schema.specs.Given.{Instance, places}
use Rattle.rt_algebra.specs.declared.typed.Typed.{Typed}
use Rattle.rt_formula.specs.Shared.{Shared}
use Rattle.rt_least.specs.Least.{IsBest}
use Rattle.rt_least.specs.declared.best.Best.{Best}
use Rattle.rt_least.specs.declared.best.Best.TheVariants.{Least, Never, Spent}
use Rattle.rt_row.specs.Holds.{IsRowVerdict, holds_at}
use Rattle.rt_row.proofs.Transfer.{Means, least_of, never_of, some_spent}

pub verdict_of : (schema : List Table) (given : Instance) (left right : Typed) (row : List Value) (budget : Option ℕ) (d : Shared) (goal : ℕ) (best : Best)
    → d.rows ≡ places given.tables → Means d goal (holds_at schema given left right row) → IsBest d goal budget best → IsRowVerdict schema given left right row budget best
verdict_of schema given left right row budget d goal (Least keep) same m is = least_of d goal (places given.tables) (holds_at schema given left right row) same m keep is
verdict_of schema given left right row budget d goal Never same m is = never_of d goal (places given.tables) (holds_at schema given left right row) same m is
verdict_of schema given left right row budget d goal (Spent s) same m is =
    some_spent d goal (places given.tables) (holds_at schema given left right row) budget s.best s.least s.nogoods same m is
