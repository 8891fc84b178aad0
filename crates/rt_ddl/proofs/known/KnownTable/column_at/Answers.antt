use Rattle.std.proofs.Common.{None, Some, refl}
use Rattle.rt_ddl.proofs.PlaceLemmas.{column-here}
use Rattle.rt_ddl.proofs.known.KnownTable.column_at.Goals as goal

pub returns-in-Some : goal.returns-in-Some
returns-in-Some c =
    column-here c.self.inside.text c.args.self.now c.self.inside.names c.args.name.now (Some c.in-Some.place) c.in-Some.place c.in-Some.ensures refl c.self.invariant.names_are c.self.view_is

pub returns-in-None : goal.returns-in-None
returns-in-None c =
    column-here c.self.inside.text c.args.self.now c.self.inside.names c.args.name.now None c.len.result c.in-None.ensures c.len.ensures c.self.invariant.names_are c.self.view_is
