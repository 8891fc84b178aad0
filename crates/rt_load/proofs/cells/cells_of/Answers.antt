use Rattle.std.proofs.Common.{◌∙◌, sym, arith, ◌+◌}
use Rattle.std.proofs.lemmas.Result.{err_from_is_err_and}
use Rattle.csv.specs.Records.{fields_of}
use Rattle.rt_load.proofs.LoadLemmas.{cells-end, cells-fault, cells-step, field-there, passes}
use Rattle.rt_load.proofs.cells.cells_of.Goals as goal

pub unreachable-requires : goal.unreachable-requires
unreachable-requires c = field-there (fields_of c.args.fields.now) c.loop-i.i (omega arith) (sym c.in_default.ensures.value)

pub returns-in_err-cell_of : goal.returns-in_err-cell_of
returns-in_err-cell_of c =
    let p = err_from_is_err_and c.from_residual.result c.from_residual.ensures.1 in
    rw (p.1, p.2) (passes c.in_err-cell_of.field-0.0 _ _
    (λ h. sym c.loop-i.invariant ∙ cells-fault c.args.columns.now c.args.n c.loop-i.i c.index-columns-i.result (fields_of c.args.fields.now) c.in-Some.field.now c.loop-i.row c.in_err-cell_of.field-0.0 (omega arith) c.index-columns-i.is (sym c.in-Some.ensures.value) h)
    c.in_err-cell_of.ensures)

pub loop-i-preserved : goal.loop-i-preserved
loop-i-preserved c =
    rw c.in_ok-push.ensures.ok (sym (cells-step c.args.columns.now c.args.n c.loop-i.i c.index-columns-i.result (fields_of c.args.fields.now) c.in-Some.field.now c.loop-i.row c.in_ok-cell_of.field-0 (omega arith) c.index-columns-i.is
    (sym c.in-Some.ensures.value) c.in_ok-cell_of.ensures) ∙ c.loop-i.invariant)

pub returns : goal.returns
returns c = sym c.loop-i.invariant ∙ cells-end c.args.columns.now c.args.n (c.loop-i.i + 1) c.loop-i.i (fields_of c.args.fields.now) c.loop-i.row (omega arith)
