use Rattle.std.proofs.Common.{take}
use Rattle.rt_derive.specs.Alike.{Alike}
use Rattle.rt_derive.proofs.checker.without_repeats.Given as goal

abbrev pub invariant-loop-l : goal.invariant-loop-l
invariant-loop-l l = record {
  seen : Alike l.seen (take l.l-index l.lits);
  line : Alike l.line (take l.l-index l.lits);
}
