use Rattle.std.proofs.Common.{◌≡◌, map, take}
use Rattle.rt_eval.proofs.pairs.borrowed.Given as goal

abbrev pub invariant-loop-row : goal.invariant-loop-row
invariant-loop-row l = map (λ r. r.now) l.out ≡ take l.row-index l.rows
