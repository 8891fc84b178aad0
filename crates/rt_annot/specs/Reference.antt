-- A query that is compared with others: what all these goals share.
use Rattle.std.specs.Prelude.{◌≡◌, ◌<◌, Bool, List, length}
use Rattle.rt_schema.specs.declared.table.Table.{Table}
use Rattle.rt_schema.specs.Given.{Instance}
use Rattle.rt_schema.specs.Kept.{kept}
use Rattle.rt_schema.specs.Law.{lawful}
use Rattle.rt_algebra.specs.Answer.{plain}
use Rattle.rt_algebra.specs.declared.typed.Typed.{Typed}
use Rattle.rt_formula.specs.Shared.{Shared, IsGrown, val}
use Rattle.rt_noted.specs.Ann.{AreOf, rows_of}
use Rattle.rt_noted.specs.Annotated.{SameRows}
use Rattle.rt_annot.specs.declared.reference.Reference.{Reference}

-- its nodes are of this Dag
pub record StandsOn (d : Shared) (r : Reference) : Type 0 where
  pub lawful : r.lawful < length d.entries
  pub rows : AreOf d r.rows

-- at every choice of rows its node says whether they are lawful, and its rows are the query's
-- answer
pub record IsReference (schema : List Table) (given : Instance) (query : Typed) (d : Shared) (r : Reference) : Type 0 where
  pub stands : StandsOn d r
  pub law : (keep : List Bool) → length keep ≡ d.rows → val d keep r.lawful ≡ lawful schema (kept given.tables keep)
  pub answer : (keep : List Bool) → SameRows (rows_of d keep r.rows) (plain query.query (kept given.tables keep))

-- it stays one as the Dag grows
abbrev pub ReferenceStays : Type 0
ReferenceStays = (schema : List Table) (given : Instance) (query : Typed) (r : Reference) (old new : Shared) → IsGrown old new → IsReference schema given query old r → IsReference schema given query new r
