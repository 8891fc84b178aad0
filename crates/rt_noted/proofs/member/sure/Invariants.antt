use Rattle.std.proofs.Common.{◌≡◌, ◌++◌, drop}
use Rattle.rt_noted.specs.Annotated.{sure}
use Rattle.rt_noted.proofs.member.sure.Given as goal

abbrev pub invariant-loop-noted : goal.invariant-loop-noted
invariant-loop-noted l = l.out ++ sure l.x (drop l.noted-index l.rows) ≡ sure l.x l.rows
