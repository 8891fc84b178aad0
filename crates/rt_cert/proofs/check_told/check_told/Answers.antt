use Rattle.rt_io.specs.Command.{command}
use Rattle.rt_input.specs.Steps.{over}
use Rattle.rt_cert.proofs.BegunLemmas.{input_read, input_stops}
use Rattle.rt_cert.proofs.SayLemmas.{check_says}
use Rattle.rt_cert.proofs.check_told.check_told.Goals as goal

pub returns-in-Ok-clause-says : goal.returns-in-Ok-clause-says
returns-in-Ok-clause-says g c =
    check_says c.args.words.now (over g.F.Files c.args.files.now c.checked-told.new.files) (g.F.Files.held c.read_input.new.files) (g.F.Files.faults c.read_input.new.files)
    c.in-Ok.ensures.held c.in-Ok.ensures.rises (g.F.Files.current c.read_input.new.files) (g.F.Files.taken c.read_input.new.files)
    (g.F.Files.gave c.args.files.now) (g.F.Files.gave c.read_input.new.files) (g.F.Files.gave c.checked-told.new.files) c.checked-told.ensures.adds
    c.args.name.now c.in-Ok.input c.in-Ok.ensures.ok c.checked-told.result c.checked-told.ensures.says

pub returns-in-Ok-clause-begun : goal.returns-in-Ok-clause-begun
returns-in-Ok-clause-begun g c =
    input_read g.F.Files.tells (g.F.Files.held c.args.files.now) c.args.name.now _ _ _ (command c.args.words.now) c.in-Ok.input c.in-Ok.ensures.ok.told c.in-Ok.ensures.begun_ok c.checked-told.ensures.begun

pub returns-in-Err-clause-begun : goal.returns-in-Err-clause-begun
returns-in-Err-clause-begun g c =
    input_stops g.F.Files.tells (g.F.Files.held c.args.files.now) c.args.name.now _ (g.F.Files.begun c.read_input.new.files) _ (command c.args.words.now) c.in-Err.ensures.begun
