use Rattle.std.proofs.Common.{◌∙◌, List, None, Some, ap}
use Rattle.std.specs.Prelude.{slice_get}
use Rattle.rt_ddl.specs.declared.parts.TableText.{TableText}
use Rattle.rt_ddl.proofs.PlaceLemmas.{table-there}
use Rattle.rt_ddl.proofs.known_tables.KnownTables.named.Goals as goal

pub returns-in-Some : goal.returns-in-Some
returns-in-Some c =
    c.nth.ensures ∙ ap (λ (ts : List TableText). slice_get ts c.in-Some.place) c.as_slice.ensures
    ∙ table-there c.self.inside.list c.args.self.now c.self.inside.names c.args.name.now (Some c.in-Some.place) c.in-Some.ensures c.self.invariant c.self.view_is

pub returns-in-None : goal.returns-in-None
returns-in-None c = table-there c.self.inside.list c.args.self.now c.self.inside.names c.args.name.now None c.in-None.ensures c.self.invariant c.self.view_is
