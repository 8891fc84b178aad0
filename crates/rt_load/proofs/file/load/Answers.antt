use Rattle.std.proofs.Common.{◌∙◌, sym, arith, ap, length, ◌<◌, [], Ok}
use Rattle.std.proofs.lemmas.List.{get_or-set_same}
use Rattle.std.proofs.lemmas.Result.{err_from_is_err_and}
use Rattle.rt_schema.specs.Given.{Rows}
use Rattle.rt_load.proofs.SuitLemmas.{columns-are, kinds-are, placed, same-length}
use Rattle.rt_load.proofs.file.load.Goals as goal

pub returns-in_err-rows-clause-rows : goal.returns-in_err-rows-clause-rows
returns-in_err-rows-clause-rows c =
    let columns = rw c.tables.ensures.same at c.as_slice-columns.ensures ∙ sym (columns-are c.args.schema.now c.args.table c.index-tables-table.result c.requires.in_range) in
    let p = err_from_is_err_and c.from_residual.result c.from_residual.ensures.1 in
    rw (p.1, p.2) (rw (columns, c.total.ensures.total) at c.in_err-rows.ensures)

pub fill-requires-clause-in_range : goal.fill-requires-clause-in_range
fill-requires-clause-in_range c = let l = same-length c.args.schema.now c.args.given.now c.requires.of_schema c.tables-tables.ensures.sound in omega (arith, l, c.requires.in_range)

pub fill-requires-clause-suit : goal.fill-requires-clause-suit
fill-requires-clause-suit c =
    let columns = rw c.tables.ensures.same at c.as_slice-columns.ensures ∙ sym (columns-are c.args.schema.now c.args.table c.index-tables-table.result c.requires.in_range) in
    let w = placed _ _ _ _ (rw (columns, c.total.ensures.total) at c.in_ok-rows.ensures) in
    rw (c.requires.of_schema, kinds-are c.args.schema.now c.args.table) w.0

pub fill-requires-clause-room : goal.fill-requires-clause-room
fill-requires-clause-room c =
    let w = placed _ _ _ _ c.in_ok-rows.ensures in
    omega (arith, w.1 c.total.ensures.limit, c.total.ensures.total)

pub returns-clause-rows : goal.returns-clause-rows
returns-clause-rows c =
    let columns = rw c.tables.ensures.same at c.as_slice-columns.ensures ∙ sym (columns-are c.args.schema.now c.args.table c.index-tables-table.result c.requires.in_range) in
    let w = rw (columns, c.total.ensures.total) at c.in_ok-rows.ensures in
    let l = same-length c.args.schema.now c.args.given.now c.requires.of_schema c.tables-tables.ensures.sound in
    let r : c.args.table < length c.args.given.now.tables = omega (arith, l, c.requires.in_range) in
    w ∙ ap (λ (rows : Rows). Ok rows) (sym (rw c.fill.ensures.tables (get_or-set_same c.args.given.now.tables c.args.table c.in_ok-rows.rows [] r)))
