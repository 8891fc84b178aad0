use Rattle.std.proofs.Common.{◌≡◌, ◌+◌, drop}
use Rattle.rt_schema.specs.Given.{places, base_of}
use Rattle.rt_noted.proofs.rows.first_place.Given as goal

abbrev pub invariant-loop-rows : goal.invariant-loop-rows
invariant-loop-rows l = record {
  room : l.base + places (drop l.rows-index l.given) ≡ places l.given;
  same : l.base + base_of l.left (drop l.rows-index l.given) ≡ base_of l.number l.given;
}
