use Rattle.rt_input.specs.Reading.{call}
use Rattle.rt_cert.proofs.SayLemmas.{prove_says}
use Rattle.rt_cert.proofs.prove_told.prove_told.Goals as goal

pub returns-in-Ok-clause-says : goal.returns-in-Ok-clause-says
returns-in-Ok-clause-says g c =
    prove_says (call g.F.Files c.args.words.now c.args.files.now c.read_input.new.files) c.in-Ok.input c.proved-told.result c.in-Ok.ensures.ok c.proved-told.ensures
