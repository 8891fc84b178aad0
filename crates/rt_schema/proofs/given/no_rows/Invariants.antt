use Rattle.std.proofs.Common.{◌≡◌, [], replicate}
use Rattle.rt_schema.proofs.given.no_rows.Given as goal

abbrev pub invariant-loop : goal.invariant-loop
invariant-loop l = l.tables ≡ replicate l.counter []
