-- A reference that is prepared for its candidates.
use Rattle.std.specs.Prelude.{◌≡◌, ℕ, Option}
use Rattle.rt_schema.specs.Given.{places}
use Rattle.rt_algebra.specs.declared.typed.Typed.{Typed}
use Rattle.rt_annot.specs.Reference.{IsReference}
use Rattle.rt_input.specs.declared.first.First.{First}
use Rattle.rt_least.specs.declared.best.Best.{Best}
use Rattle.rt_top.specs.GivenUp.{IsVerdict}
use Rattle.rt_grade.specs.declared.prepared.Prepared.{Prepared}

-- the reference on the Dag is this one, over these rows
pub record IsPreparedOf (first : First) (p : Prepared) : Type 0 where
  pub rows : p.dag.rows ≡ places first.given.tables
  pub reference : IsReference first.schema first.given first.left p.dag p.reference

-- the verdict on what is read first with a second query, whatever else the command says
abbrev pub IsVerdictBeside : First → Typed → Option ℕ → Best → Type 0
IsVerdictBeside first right conflicts best =
    (limit : ℕ) (made : Option ℕ) → IsVerdict (record { schema = first.schema; given = first.given; left = first.left; right = right; conflicts = conflicts; work_limit = limit; made = made }) best
