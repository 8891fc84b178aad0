use Rattle.std.proofs.Common.{◌≡◌, ◌+◌, drop}
use Rattle.csv.specs.Records.{fields_of}
use Rattle.rt_load.specs.Loaded.{cells}
use Rattle.rt_load.proofs.LoadLemmas.{with_front}
use Rattle.rt_load.proofs.cells.cells_of.Given as goal

abbrev pub invariant-loop-i : goal.invariant-loop-i
invariant-loop-i l = with_front l.row (cells (drop l.i l.columns) l.n (l.i + 1) (drop l.i (fields_of l.fields))) ≡ cells l.columns l.n 1 (fields_of l.fields)
