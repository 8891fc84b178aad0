use Rattle.std.proofs.Common.{refl}
use Rattle.rt_load.specs.Records.{left_of}
use Rattle.rt_load.proofs.records.reader_of.Goals as goal

pub returns-clause-left : goal.returns-clause-left
unfolding left_of
returns-clause-left c = rw (c.from_reader.ensures.source, c.from_reader.ensures.state) refl
