use Rattle.std.proofs.Common.{◌≡◌, take}
use Rattle.rt_least.proofs.choice.rows_of.Given as goal

abbrev pub invariant-loop-place : goal.invariant-loop-place
invariant-loop-place l = l.keep ≡ take l.place l.model
