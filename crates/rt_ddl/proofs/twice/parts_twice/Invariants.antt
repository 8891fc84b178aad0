use Rattle.std.proofs.Common.{◌≡◌, [], drop, take}
use Rattle.rt_ddl.specs.Meaning.{parts_twice}
use Rattle.rt_ddl.specs.Places.{column_names}
use Rattle.rt_ddl.proofs.twice.parts_twice.Given as goal

abbrev pub invariant-loop-at : goal.invariant-loop-at
invariant-loop-at l = record {
  columns : l.columns ≡ column_names (take l.at l.parts);
  rest : parts_twice l.table (take l.at l.parts) (drop l.at l.parts) ≡ parts_twice l.table [] l.parts;
}
