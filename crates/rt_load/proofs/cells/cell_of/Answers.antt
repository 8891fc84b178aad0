use Rattle.std.proofs.Common.{◌∙◌, sym}
use Rattle.rt_load.proofs.CellLemmas.{text-read, text-bad}
use Rattle.rt_load.specs.declared.fault.LoadFault.TheVariants.{BadText}
use Rattle.rt_load.proofs.cells.cell_of.Goals as goal

pub returns-in_ok-of-in-Ok : goal.returns-in_ok-of-in-Ok
returns-in_ok-of-in-Ok c =
    let read = c.in-Ok.ensures.cases in
    rw c.in-Text.is (text-read (BadText c.args.n c.args.c) c.args.field.now c.in_ok-of-in-Ok.field-0 (sym c.if-is_empty-2.ensures) read.1 (c.in_ok-of-in-Ok.ensures ∙ read.0))

pub returns-in-Err : goal.returns-in-Err
returns-in-Err c = rw c.in-Text.is (text-bad (BadText c.args.n c.args.c) c.args.field.now (sym c.if-is_empty-2.ensures) c.in-Err.ensures.cases.0)
