use Rattle.std.proofs.Common.{◌≡◌, ◌+◌, drop}
use Rattle.rt_schema.specs.Given.{places}
use Rattle.rt_schema.proofs.given.Given.total.Given as goal

abbrev pub invariant-loop-rows : goal.invariant-loop-rows
invariant-loop-rows l = l.total + places (drop l.rows-index l.rows-items) ≡ places l.rows-items
