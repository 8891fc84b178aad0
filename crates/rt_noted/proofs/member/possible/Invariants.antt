use Rattle.std.proofs.Common.{◌≡◌, ◌++◌, drop}
use Rattle.rt_noted.specs.Annotated.{possible}
use Rattle.rt_noted.proofs.member.possible.Given as goal

abbrev pub invariant-loop-noted : goal.invariant-loop-noted
invariant-loop-noted l = l.out ++ possible l.x (drop l.noted-index l.rows) ≡ possible l.x l.rows
