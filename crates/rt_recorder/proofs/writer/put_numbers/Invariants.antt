use Rattle.std.proofs.Common.{◌≡◌, ◌++◌, drop}
use Rattle.std.specs.Fmt.{decimal}
use Rattle.rt_recorder.specs.Certificate.{spaced}
use Rattle.rt_recorder.proofs.writer.put_numbers.Given as goal

abbrev pub invariant-loop-n : goal.invariant-loop-n
invariant-loop-n l = l.text ++ spaced decimal (drop l.n-index l.numbers) ≡ l.fn.text ++ spaced decimal l.numbers
