use Rattle.std.proofs.Common.{◌≡◌, map, take}
use Rattle.rt_noted.proofs.join.noted_rows.Given as goal

abbrev pub invariant-loop-noted : goal.invariant-loop-noted
invariant-loop-noted l = map (λ r. r.now) l.out ≡ map (λ n. n.row) (take l.noted-index l.rows)
