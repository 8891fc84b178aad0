use Rattle.std.proofs.Common.{◌∙◌, sym}
use Rattle.rt_ddl.specs.Meaning.{columns_at, columns_of}
use Rattle.rt_ddl.proofs.MatchLemmas.{foreign-matches, not-nulls-match}
use Rattle.rt_ddl.proofs.matches.rule_matches.Goals as goal

pub returns-in-PrimaryKey : goal.returns-in-PrimaryKey
returns-in-PrimaryKey c =
    let columns = columns_of c.args.table.now.parts in
    rw c.in-PrimaryKey.is (sym (not-nulls-match c.args.tables.now columns (columns_at columns c.in-PrimaryKey.field-0)))

pub returns-in-Foreign : goal.returns-in-Foreign
returns-in-Foreign c =
    let columns = columns_of c.args.table.now.parts in
    let from = c.in-Foreign.from in
    let to = c.in-Foreign.to in
    rw c.in-Foreign.is ((rw (c.as_slice.ensures, c.named.ensures) at c.target_matches.ensures) ∙ sym (foreign-matches c.args.tables.now columns from c.in-Foreign.name to))
