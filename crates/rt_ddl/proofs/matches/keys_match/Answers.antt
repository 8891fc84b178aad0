use Rattle.std.proofs.Common.{◌∙◌, List, ap, sym}
use Rattle.std.specs.List.{list_all}
use Rattle.rt_ddl.specs.Matches.{part_matches}
use Rattle.rt_ddl.specs.Meaning.{columns_of}
use Rattle.rt_ddl.specs.declared.parts.Part.{Part}
use Rattle.rt_ddl.proofs.MatchLemmas.{table-matches}
use Rattle.rt_ddl.proofs.matches.keys_match.Goals as goal

pub returns : goal.returns
returns c =
    let tables = c.args.tables.now in
    let table = c.args.table.now in
    c.parts_match.ensures ∙ ap (λ (ps : List Part). list_all (part_matches tables (columns_of table.parts)) ps) c.parts.ensures ∙ sym (table-matches tables table)
