use Rattle.std.proofs.Common.{None, Some, refl}
use Rattle.rt_ddl.proofs.PlaceLemmas.{table-here}
use Rattle.rt_ddl.proofs.known_tables.KnownTables.place.Goals as goal

pub returns-in-Some : goal.returns-in-Some
returns-in-Some c =
    table-here c.self.inside.list c.args.self.now c.self.inside.names c.args.name.now (Some c.in-Some.place) c.in-Some.place c.in-Some.ensures refl c.self.invariant c.self.view_is

pub returns-in-None : goal.returns-in-None
returns-in-None c =
    table-here c.self.inside.list c.args.self.now c.self.inside.names c.args.name.now None c.len.result c.in-None.ensures c.len.ensures c.self.invariant c.self.view_is
