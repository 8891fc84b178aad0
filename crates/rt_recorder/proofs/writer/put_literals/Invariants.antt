use Rattle.std.proofs.Common.{◌≡◌, ◌++◌, drop}
use Rattle.rt_recorder.specs.Certificate.{literal, spaced}
use Rattle.rt_recorder.proofs.writer.put_literals.Given as goal

abbrev pub invariant-loop-lit : goal.invariant-loop-lit
invariant-loop-lit l = l.text ++ spaced literal (drop l.lit-index l.lits) ≡ l.fn.text ++ spaced literal l.lits
