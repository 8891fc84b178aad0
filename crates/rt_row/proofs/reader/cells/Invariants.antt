use Rattle.std.proofs.Common.{◌≡◌, length, drop}
use Rattle.std.specs.List.{slice_split}
use Rattle.rt_row.specs.Rows.{each_cell, is_comma}
use Rattle.rt_row.proofs.ReaderLemmas.{after}
use Rattle.rt_row.proofs.reader.cells.Given as goal

abbrev pub invariant-parts : goal.invariant-parts
invariant-parts l =
    let parts = slice_split is_comma l.tokens in
    each_cell parts ≡ after l.row (each_cell (drop (length l.yielded) parts))
