use Rattle.rt_recorder.proofs.BadLemmas.{of-bad, of-cert}
use Rattle.rt_recorder.proofs.reader.read_cert.Goals as goal

pub returns-clause-one : goal.returns-clause-one
returns-clause-one c = of-cert c.args.text.now c.read.result c.read.ensures

pub returns-clause-first : goal.returns-clause-first
returns-clause-first c = of-bad c.args.text.now c.read.result c.read.ensures
