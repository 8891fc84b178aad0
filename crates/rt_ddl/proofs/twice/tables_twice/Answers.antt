use Rattle.std.proofs.Common.{◌∙◌, ◌++◌, ◌∷◌, [], List, Some, true, ap, sym}
use Rattle.rt_token.specs.Terminals.{Word}
use Rattle.rt_ddl.specs.Meaning.{has_name}
use Rattle.rt_ddl.proofs.TwiceLemmas.{names-step, tables-none, tables-now, tables-some}
use Rattle.rt_ddl.proofs.twice.tables_twice.Goals as goal

pub returns-then-has : goal.returns-then-has
returns-then-has c =
    let names = c.loop-table.names in
    let had = ap (λ (n : Word). has_name names n) (sym c.name-name.ensures) ∙ sym c.has.ensures ∙ c.if-has.true in
    ap (λ (n : Word). Some n) c.name-name.ensures
    ∙ sym (tables-now c.args.tables.now c.loop-table.table-index c.table-item.result names true c.loop-table-test.true c.table-item.is c.loop-table.invariant.names had)
    ∙ c.loop-table.invariant.rest

pub returns-in-Some : goal.returns-in-Some
returns-in-Some c =
    let names = c.loop-table.names in
    let had = ap (λ (n : Word). has_name names n) (sym c.name-name.ensures) ∙ sym c.has.ensures ∙ c.if-has.false in
    let found = rw (c.in-Some.is, c.name-name.ensures, c.parts-parts.ensures) at c.in_ok-twice.ensures in
    tables-some c.args.tables.now c.loop-table.table-index c.table-item.result names c.in-Some.twice.now c.loop-table-test.true c.table-item.is c.loop-table.invariant.names had found
    ∙ c.loop-table.invariant.rest

pub loop-table-preserved : goal.loop-table-preserved
loop-table-preserved c =
    let tables = c.args.tables.now in
    let at = c.loop-table.table-index in
    let table = c.table-item.result in
    let names = c.loop-table.names in
    let had = ap (λ (n : Word). has_name names n) (sym c.name-name.ensures) ∙ sym c.has.ensures ∙ c.if-has.false in
    let none = rw (c.in_default.is, c.name-name.ensures, c.parts-parts.ensures) at c.in_ok-twice.ensures in
    record {
      names = rw c.name-name.ensures at c.in_ok-names.ensures ∙ ap (λ (ns : List Word). ns ++ table.name ∷ []) c.loop-table.invariant.names
          ∙ sym (names-step tables at table c.loop-table-test.true c.table-item.is);
      rest = tables-none tables at table names c.loop-table-test.true c.table-item.is c.loop-table.invariant.names had none ∙ c.loop-table.invariant.rest;
    }
