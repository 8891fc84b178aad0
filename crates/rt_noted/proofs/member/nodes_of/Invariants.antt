use Rattle.std.proofs.Common.{◌≡◌, take}
use Rattle.rt_noted.specs.Annotated.{nodes_of}
use Rattle.rt_noted.proofs.member.nodes_of.Given as goal

abbrev pub invariant-loop-noted : goal.invariant-loop-noted
invariant-loop-noted l = l.out ≡ nodes_of (take l.noted-index l.rows)
