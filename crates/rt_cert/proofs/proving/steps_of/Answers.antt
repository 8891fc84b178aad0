use Rattle.rt_cert.proofs.LeastLemmas.{verdict-refutes}
use Rattle.rt_cert.proofs.proving.steps_of.Goals as goal

pub refutation-requires : goal.refutation-requires
refutation-requires c =
    verdict-refutes c.args.input.now c.args.keep.now c.args.encoded.now.lines c.args.encoded.now.assume c.requires.encoding c.requires.verdict
    (c.is_to_be_refuted.ensures.0 c.if-is_to_be_refuted.true)
