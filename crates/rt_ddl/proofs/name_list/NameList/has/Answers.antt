use Rattle.std.proofs.Common.{◌∙◌, List, ap}
use Rattle.rt_token.specs.Terminals.{Word}
use Rattle.rt_ddl.specs.Meaning.{has_name}
use Rattle.rt_ddl.proofs.PlaceLemmas.{has}
use Rattle.rt_ddl.proofs.name_list.NameList.has.Goals as goal

pub returns : goal.returns
returns c =
    let name = c.args.name.now in
    c.contains_key.ensures ∙ has c.self.inside.list c.self.inside.places.entries name c.self.invariant
    ∙ ap (λ (ns : List Word). has_name ns name) c.self.view_is
