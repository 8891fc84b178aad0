use Rattle.std.proofs.Common.{◌≡◌, [], drop, take}
use Rattle.rt_ddl.specs.Meaning.{name_twice}
use Rattle.rt_ddl.proofs.twice.name_twice.Given as goal

abbrev pub invariant-loop-name : goal.invariant-loop-name
invariant-loop-name l = record {
  before : l.before ≡ take l.name-index l.names;
  rest : name_twice (take l.name-index l.names) (drop l.name-index l.names) ≡ name_twice [] l.names;
}
