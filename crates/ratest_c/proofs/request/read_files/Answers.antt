use Rattle.std.proofs.Common.{arith, rules}
use Rattle.ratest_c.proofs.FrameLemmas.{files_go}
use Rattle.ratest_c.proofs.request.read_files.Goals as goal

pub loop-preserved : goal.loop-preserved
loop-preserved c = (
  omega (arith, c.loop-test.true),
  files_go c.args.count c.loop.counter c.loop.files c.push.new.self c.loop.reader.rest.now c.in_ok-read_file.field-0 c.read_file.new.reader.rest.now _ (omega (arith, c.loop-test.true)) c.in_ok-read_file.ensures.ok (search rules) c.loop.invariant.1,
)
