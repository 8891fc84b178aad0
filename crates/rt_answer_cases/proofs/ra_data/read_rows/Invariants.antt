use Rattle.rt_schema.specs.Given.{IsOf}
use Rattle.rt_answer_cases.proofs.ra_data.read_rows.Given as goal

abbrev pub invariant-files : goal.invariant-files
invariant-files g l = IsOf l.schema l.given
