use Rattle.std.proofs.Common.{◌≡◌, ◌≤◌, ◌+◌, ◌-◌, length}
use Rattle.rt_schema.specs.Given.{row_limit}
use Rattle.rt_load.specs.Loaded.{rows_from}
use Rattle.rt_load.specs.Records.{IsReading, left_of}
use Rattle.rt_load.proofs.LoadLemmas.{with_front}
use Rattle.rt_load.proofs.file.rows_left.Given as goal

abbrev pub invariant-rows : goal.invariant-rows
invariant-rows l = record {
  reading : IsReading l.reader;
  so_far : rows_from l.columns 2 l.before (left_of l.fn.reader) ≡ with_front l.rows (rows_from l.columns (length l.rows + 2) (l.before + length l.rows) (left_of l.reader));
  within : length l.rows ≤ row_limit;
}

abbrev pub decreases-rows : goal.decreases-rows
decreases-rows l = row_limit - (l.before + length l.rows)
