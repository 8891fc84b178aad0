use Rattle.std.proofs.Common.{◌≡◌, drop}
use Rattle.csv.specs.Records.{fields_of}
use Rattle.rt_load.specs.Loaded.{is_header}
use Rattle.rt_load.proofs.header.is_header.Given as goal

abbrev pub invariant-loop-i : goal.invariant-loop-i
invariant-loop-i l = is_header (drop l.i l.columns) (drop l.i (fields_of l.fields)) ≡ is_header l.columns (fields_of l.fields)
