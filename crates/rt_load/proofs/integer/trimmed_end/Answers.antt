use Rattle.std.proofs.Common.{arith, sym, ◌-◌}
use Rattle.rt_load.proofs.TrimLemmas.{back-end, back-other}
use Rattle.rt_load.proofs.integer.trimmed_end.Goals.{then-loop-to-test+else-is_blank, else-loop-to-test}
use Rattle.rt_load.proofs.integer.trimmed_end.Goals as goal

pub returns : goal.returns
returns c =
    elim c.loop-to-test.branch [
      | then-loop-to-test+else-is_blank w ↦ let e = back-other c.args.bytes.now (c.loop-to.to - 1) c.loop-to.to (omega arith) (omega arith) (sym w.if-is_blank.ensures) in cc
      | else-loop-to-test w ↦ let e = back-end c.args.bytes.now c.loop-to.to (omega arith) in cc
    ]
