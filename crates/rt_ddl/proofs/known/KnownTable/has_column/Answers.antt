use Rattle.std.proofs.Common.{◌∙◌, List, ap}
use Rattle.rt_token.specs.Terminals.{Word}
use Rattle.rt_ddl.specs.Meaning.{has_column, has_name}
use Rattle.rt_ddl.specs.declared.parts.TableText.{TableText}
use Rattle.rt_ddl.proofs.PlaceLemmas.{column-named}
use Rattle.rt_ddl.proofs.known.KnownTable.has_column.Goals as goal

pub returns : goal.returns
returns c =
    let name = c.args.name.now in
    c.has.ensures ∙ ap (λ (ns : List Word). has_name ns name) c.self.invariant.names_are ∙ column-named c.self.inside.text.parts name
    ∙ ap (λ (t : TableText). has_column t.parts name) c.self.view_is
