use Rattle.std.proofs.Common.{◌≡◌, drop}
use Rattle.rt_split.specs.Split.{is_taken}
use Rattle.rt_split.proofs.conjuncts.is_taken.Given as goal

abbrev pub invariant-loop-width : goal.invariant-loop-width
invariant-loop-width l = is_taken l.base (drop l.width-index l.widths) l.conjunct ≡ is_taken 0 l.widths l.conjunct
