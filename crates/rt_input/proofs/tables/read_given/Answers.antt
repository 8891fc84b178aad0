use Rattle.std.proofs.Common.{◌≡◌, ◌<◌, ℕ, arith, ◌∙◌, sym, ap, refl, subst, Ok, Result, List, ◌++◌, append-nil, length, get_or}
use Rattle.std.specs.Prelude.{Some, IsOk, slice_get}
use Rattle.std.specs.Option.{option_map}
use Rattle.std.proofs.lemmas.Option.{slice_get-get_or}
use Rattle.std.proofs.lemmas.Result.{err_from_is_err_and}
use Rattle.rt_schema.specs.declared.table.Table.{Table}
use Rattle.rt_schema.specs.Given.{Tables, places, rows_at}
use Rattle.rt_schema.proofs.GivenLemmas.{no_rows-places}
use Rattle.rt_input.specs.declared.outcome.Outcome.{Outcome}
use Rattle.rt_input.specs.declared.part.Part.TheVariants as part
use Rattle.rt_input.specs.Judged.{IsTableReached, no_rows, table_judged, tables_judged}
use Rattle.rt_io.proofs.AddLemmas.{all_then}
use Rattle.rt_io.proofs.GaveLemmas.{adds_none, adds_on, fits_first, fits_then}
use Rattle.rt_input.proofs.BegunLemmas.{files-from, files-more, reached-from, table_begun, when_err}
use Rattle.rt_input.proofs.EndLemmas.{ends_later}
use Rattle.rt_input.proofs.StepLemmas.{stops_on}
use Rattle.rt_input.proofs.TableLemmas.{no_rows-at, rows_at-set_other, tables_judged-more, tables_judged-stops}
use Rattle.rt_input.proofs.tables.read_given.Goals as goal

pub tables-init : goal.tables-init
tables-init g c = record {
  of_schema = c.in_ok-given.ensures.of_schema;
  empty = λ k h. rw c.in_ok-given.ensures.no_rows (no_rows-at (length c.args.schema.now) k);
  few = rw c.in_ok-given.ensures.no_rows (omega (arith, no_rows-places (length c.args.schema.now)));
  told = λ t. ap Ok (sym c.in_ok-given.ensures.no_rows);
  given = λ held fits. ap Ok (sym c.in_ok-given.ensures.no_rows);
  adds = adds_none _ _ refl;
  begun = sym (append-nil (g.F.Files.begun c.args.files.now));
  made = λ m. refl;
  has = refl;
  held = refl;
  rises = λ name. omega arith;
}

here : (tables schema : List Table) (at : ℕ) (table : Table) → tables ≡ schema → at < length tables → table ≡ get_or tables at table → slice_get schema at ≡ Some table
here tables schema at table same within is =
    ap (λ ts. slice_get ts at) (sym same) ∙ slice_get-get_or tables at table within ∙ ap Some (sym is)

pub read_table-requires-clause-is_table : goal.read_table-requires-clause-is_table
read_table-requires-clause-is_table g c = here _ _ c.tables.at c.table-item.result c.tables-table-items.ensures.same c.tables-test.true c.table-item.is

pub returns-in_err-read_table-clause-err : goal.returns-in_err-read_table-clause-err
returns-in_err-read_table-clause-err g c =
    let held = g.F.Files.held c.args.files.now in
    let schema = c.args.schema.now in
    let source = c.args.source.now in
    let table = c.table-item.result in
    let at = c.tables.at in
    let within : at < length schema = subst (λ (ts : List Table). at < length ts) c.tables-table-items.ensures.same c.tables-test.true in
    let is : table ≡ get_or schema at table = subst (λ (ts : List Table). table ≡ get_or ts at table) c.tables-table-items.ensures.same c.table-item.is in
    let p = err_from_is_err_and c.from_residual-in_err-read_table.result c.from_residual-in_err-read_table.ensures.1 in
    rw (p.1, p.2) (stops_on g.F.Files.tells held (g.F.Files.held c.tables.files) (g.F.Files.faults c.args.files.now) (g.F.Files.faults c.tables.files)
    (g.F.Files.faults c.read_table.new.files) (g.F.Files.current c.read_table.new.files) (g.F.Files.taken c.read_table.new.files) source
    (table_judged source (g.F.Files.held c.tables.files) at table (places c.tables.given.tables)) (tables_judged source held 0 (no_rows schema) schema)
    (λ q. q ≡ part.Table at table.name) (IsTableReached source held schema) c.in_err-read_table.field-0.0 c.tables.invariant.rises
    (λ t e stop. tables_judged-stops source held (no_rows schema) schema at c.tables.given.tables table e within is (c.tables.invariant.told t)
    (ap (λ h. table_judged source h at table (places c.tables.given.tables)) (sym c.tables.invariant.held) ∙ stop))
    (λ t q named. subst (IsTableReached source held schema) (sym named) (
      ap (option_map (λ x. x.name)) (slice_get-get_or schema at table within ∙ ap Some (sym is)),
      subst (λ (r : Result Tables Outcome). IsOk r) (sym (c.tables.invariant.told t)) refl,
    ))
    c.in_err-read_table.ensures.err)

pub returns-in_err-read_table-clause-adds : goal.returns-in_err-read_table-clause-adds
returns-in_err-read_table-clause-adds g c = adds_on _ _ _ c.tables.invariant.adds c.in_err-read_table.ensures.adds

pub returns-in_err-read_table-clause-begun : goal.returns-in_err-read_table-clause-begun
returns-in_err-read_table-clause-begun g c =
    let schema = c.args.schema.now in
    let table = c.table-item.result in
    let at = c.tables.at in
    let within : at < length schema = subst (λ (ts : List Table). at < length ts) c.tables-table-items.ensures.same c.tables-test.true in
    let is : table ≡ get_or schema at table = subst (λ (ts : List Table). table ≡ get_or ts at table) c.tables-table-items.ensures.same c.table-item.is in
    when_err c.from_residual-in_err-read_table.result
    (table_begun (g.F.Files.begun c.args.files.now) (g.F.Files.begun c.tables.files) (g.F.Files.begun c.read_table.new.files) _ _ _ _
    (files-from c.args.source.now schema at table within is) c.tables.invariant.begun c.read_table.ensures.begun)

pub returns-in_err-read_table-clause-reached : goal.returns-in_err-read_table-clause-reached
returns-in_err-read_table-clause-reached g c =
    let schema = c.args.schema.now in
    let table = c.table-item.result in
    let at = c.tables.at in
    let within : at < length schema = subst (λ (ts : List Table). at < length ts) c.tables-table-items.ensures.same c.tables-test.true in
    let is : table ≡ get_or schema at table = subst (λ (ts : List Table). table ≡ get_or ts at table) c.tables-table-items.ensures.same c.table-item.is in
    when_err c.from_residual-in_err-read_table.result (λ t.
    table_begun (g.F.Files.begun c.args.files.now) (g.F.Files.begun c.tables.files) (g.F.Files.begun c.read_table.new.files) _ _ _ _
    (reached-from c.args.source.now schema at table within is (g.F.Files.held c.args.files.now) (no_rows schema) c.tables.given.tables (c.tables.invariant.told t))
    c.tables.invariant.begun c.read_table.ensures.begun)

pub returns-in_err-read_table-clause-last : goal.returns-in_err-read_table-clause-last
returns-in_err-read_table-clause-last g c =
    let p = err_from_is_err_and c.from_residual-in_err-read_table.result c.from_residual-in_err-read_table.ensures.1 in
    rw (p.1, p.2) (ends_later c.args.source.now c.in_err-read_table.field-0.0 (g.F.Files.begun c.args.files.now) (g.F.Files.begun c.tables.files)
    (g.F.Files.begun c.read_table.new.files) _ c.tables.invariant.begun c.in_err-read_table.ensures.last)

pub tables-preserved : goal.tables-preserved
tables-preserved g c =
    let held = g.F.Files.held c.args.files.now in
    let schema = c.args.schema.now in
    let source = c.args.source.now in
    let table = c.table-item.result in
    let at = c.tables.at in
    let rows = rows_at c.read_table.new.given.tables at in
    let within : at < length schema = subst (λ (ts : List Table). at < length ts) c.tables-table-items.ensures.same c.tables-test.true in
    let is : table ≡ get_or schema at table = subst (λ (ts : List Table). table ≡ get_or ts at table) c.tables-table-items.ensures.same c.table-item.is in
    record {
      of_schema = c.in_ok-read_table.ensures.kinds ∙ c.tables.invariant.of_schema;
      empty = λ k h. ap (λ ts. length (rows_at ts k)) c.in_ok-read_table.ensures.tables
          ∙ ap (λ rs. length rs) (rows_at-set_other c.tables.given.tables at k rows (omega arith)) ∙ c.tables.invariant.empty k (omega arith);
      few = c.in_ok-read_table.ensures.few;
      told = λ t. tables_judged-more source held (no_rows schema) schema at c.tables.given.tables table rows within is (c.tables.invariant.told t)
          (ap (λ h. table_judged source h at table (places c.tables.given.tables)) (sym c.tables.invariant.held) ∙ c.in_ok-read_table.ensures.ok t)
          ∙ ap Ok (sym c.in_ok-read_table.ensures.tables);
      given = λ held fits. tables_judged-more source held (no_rows schema) schema at c.tables.given.tables table rows within is
          (c.tables.invariant.given held (fits_first held _ _ _ c.in_ok-read_table.ensures.adds fits))
          (c.in_ok-read_table.ensures.given held (fits_then held _ _ _ c.tables.invariant.adds fits)) ∙ ap Ok (sym c.in_ok-read_table.ensures.tables);
      adds = adds_on _ _ _ c.tables.invariant.adds c.in_ok-read_table.ensures.adds;
      begun = all_then _ _ _ _ _ c.tables.invariant.begun c.in_ok-read_table.ensures.begun_ok ∙ ap (λ fs. g.F.Files.begun c.args.files.now ++ fs) (sym (files-more source schema at table within is));
      made = λ m. c.in_ok-read_table.ensures.made m ∙ c.tables.invariant.made m;
      has = c.in_ok-read_table.ensures.has ∙ c.tables.invariant.has;
      held = c.in_ok-read_table.ensures.held ∙ c.tables.invariant.held;
      rises = λ name. let a = c.tables.invariant.rises name in let b = c.in_ok-read_table.ensures.rises name in omega (arith, a, b);
    }
