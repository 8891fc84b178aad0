use Rattle.std.proofs.Common.{◌≡◌, map, take}
use Rattle.rt_noted.specs.Narrowed.{own_rows}
use Rattle.rt_noted.proofs.join.own_rows.Given as goal

abbrev pub invariant-loop-noted : goal.invariant-loop-noted
invariant-loop-noted l = l.out ≡ own_rows l.conditions (map (λ r. r.now) l.env) (take l.noted-index l.rows)
