use Rattle.std.proofs.Common.{◌≡◌, ◌≤◌}
use Rattle.rt_least.specs.Sought.{not_kept_between}
use Rattle.rt_least.proofs.none_kept.not_kept_between.Given as goal

abbrev pub invariant-loop-row : goal.invariant-loop-row
invariant-loop-row l = record { from : l.place ≤ l.row; lits : l.lits ≡ not_kept_between l.cone l.place l.row }
