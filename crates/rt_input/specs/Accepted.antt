-- An accepted input, as contracts see it: a schema, the rows given for it, two queries over it,
-- and the numbers of the command.
use Rattle.std.specs.Prelude.{◌≡◌, ◌≤◌, ℕ, List, Option}
use Rattle.std.specs.Option.{ForSome}
use Rattle.rt_schema.specs.declared.table.Table.{Table}
use Rattle.rt_schema.specs.Given.{Instance, IsOf, places, row_limit}
use Rattle.rt_algebra.specs.declared.typed.Typed.{Typed}
use Rattle.rt_algebra.specs.Typed.{IsTypedOf}
use Rattle.rt_io.specs.Ranges.{Command, IsWithin, most_conflicts, most_made, most_work}

pub record Accepted : Type 0 where
  pub schema : List Table
  pub given : Instance
  pub left : Typed
  pub right : Typed
  pub conflicts : Option ℕ
  pub work_limit : ℕ
  pub made : Option ℕ

-- what the type `Input` keeps: the rows and the queries are of the schema, the queries have the
-- same kinds of columns, and the numbers are in their ranges
pub record IsAccepted (input : Accepted) : Type 0 where
  pub of_schema : IsOf input.schema input.given
  pub left : IsTypedOf input.schema input.left
  pub right : IsTypedOf input.schema input.right
  pub kinds : input.right.kinds ≡ input.left.kinds
  pub few : places input.given.tables ≤ row_limit
  pub conflicts : ForSome input.conflicts (IsWithin most_conflicts)
  pub work_limit : IsWithin most_work input.work_limit
  pub made : ForSome input.made (IsWithin most_made)

-- the numbers of the input are those of the command
pub record HasOptions (c : Command) (input : Accepted) : Type 0 where
  pub conflicts : input.conflicts ≡ c.conflicts
  pub work_limit : input.work_limit ≡ c.work_limit
  pub made : input.made ≡ c.made
