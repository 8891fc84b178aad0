use Rattle.std.proofs.Common.{◌≡◌, ◌++◌, drop}
use Rattle.rt_print.specs.Texts.{doubled}
use Rattle.rt_print.proofs.cells.put_doubled.Given as goal

abbrev pub invariant-loop-byte : goal.invariant-loop-byte
invariant-loop-byte l = l.text ++ doubled (drop l.byte-index l.content) ≡ l.fn.text ++ doubled l.content
