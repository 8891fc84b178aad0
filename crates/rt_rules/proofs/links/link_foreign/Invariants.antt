use Rattle.std.proofs.Common.{◌≡◌, ◌++◌, take}
use Rattle.rt_schema.specs.Given.{base_of, rows_at}
use Rattle.rt_rules.specs.Cone.{foreign_links}
use Rattle.rt_rules.proofs.links.link_foreign.Given as goal

abbrev pub invariant-loop-at : goal.invariant-loop-at
invariant-loop-at l = l.links ≡ l.fn.links ++ foreign_links l.fn.foreign.from l.fn.foreign.to (base_of l.fn.foreign.table l.fn.all) (rows_at l.fn.all l.fn.foreign.table) l.fn.base (take l.at l.rows)
