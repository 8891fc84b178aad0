use Rattle.std.proofs.Common.{◌≡◌, take, map}
use Rattle.rt_noted.specs.Annotated.{projected_rows}
use Rattle.rt_noted.proofs.rows.projected.Given as goal

abbrev pub invariant-loop-noted : goal.invariant-loop-noted
invariant-loop-noted l = l.out ≡ projected_rows (take l.noted-index l.from) l.items (map (λ r. r.now) l.env)
