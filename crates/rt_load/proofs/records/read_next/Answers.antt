use Rattle.csv.specs.Records.{fields_of}
use Rattle.rt_load.proofs.ReaderLemmas.{reads_next}
use Rattle.rt_load.proofs.records.read_next.Goals as goal

pub returns-in-Ok-clause-next : goal.returns-in-Ok-clause-next
returns-in-Ok-clause-next c =
    let e = c.in-Ok.ensures in
    reads_next c.args.reader.now c.read_byte_record.new.self c.in-Ok.found (fields_of c.read_byte_record.new.row) c.requires
    (e.reads c.requires.plain c.requires.ready) (e.ready c.requires.plain) e.flexible
