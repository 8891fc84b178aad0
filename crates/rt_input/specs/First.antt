-- What a command reads before its second query: the schema, the rows and the first query.
use Rattle.std.specs.Prelude.{◌≤◌, Result, Ok}
use Rattle.rt_schema.specs.Given.{IsOf, places, row_limit}
use Rattle.rt_algebra.specs.Typed.{IsTypedOf}
use Rattle.rt_algebra.specs.declared.typed.Typed.{Typed}
use Rattle.rt_input.specs.declared.first.First.{First}
use Rattle.rt_input.specs.declared.outcome.Outcome.{Outcome}
use Rattle.rt_input.specs.declared.part.Part.TheVariants.{Query1}
use Rattle.rt_input.specs.declared.source.Source.{Source}
use Rattle.rt_input.specs.Judged.{Data, data_judged, query_judged, then_read}
use Rattle.rt_input.specs.Held.{Holding}

-- the rows and the query are of the schema
pub record IsFirst (first : First) : Type 0 where
  pub of_schema : IsOf first.schema first.given
  pub few : places first.given.tables ≤ row_limit
  pub left : IsTypedOf first.schema first.left

abbrev pub first_of : Data → Typed → First
first_of d left = record { schema = d.schema; given = d.given; left = left }

-- the schema and the rows of what was read first
abbrev pub data_in : First → Data
data_in first = record { schema = first.schema; given = first.given }

-- these three, or the first refusal
abbrev pub first_judged : Source → Holding → Result First Outcome
first_judged source held = then_read (data_judged source held) (λ d. then_read (query_judged source held Query1 d.schema) (λ left. Ok (first_of d left)))
