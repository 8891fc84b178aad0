use Rattle.std.proofs.Common.{arith, rules}
use Rattle.ratest_c.proofs.FrameLemmas.{texts_go}
use Rattle.ratest_c.proofs.request.read_words.Goals as goal

pub loop-preserved : goal.loop-preserved
loop-preserved c = (
  omega (arith, c.loop-test.true),
  texts_go c.args.count c.loop.counter c.loop.words c.push.new.self c.loop.reader.rest.now c.in_ok-text.field-0.now c.text.new.self.rest.now _ (omega (arith, c.loop-test.true)) c.in_ok-text.ensures.ok (search rules) c.loop.invariant.1,
)
