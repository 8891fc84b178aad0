use Rattle.std.proofs.Common.{take}
use Rattle.std.specs.List.{All as Each}
use Rattle.rt_split.specs.Refused.{IsSimple}
use Rattle.rt_split.proofs.refused.+asks.Given as goal

abbrev pub invariant-some_asks-loop-member : goal.invariant-some_asks-loop-member
invariant-some_asks-loop-member l = Each IsSimple (take l.member-index l.members)
