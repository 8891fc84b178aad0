use Rattle.std.proofs.Common.{◌≡◌, ◌≤◌, ◌++◌}
use Rattle.rt_totalizer.proofs.Listing.{listed}
use Rattle.rt_totalizer.proofs.clauses.merging.Given as goal

abbrev pub invariant-loop-i : goal.invariant-loop-i
invariant-loop-i g l = record {
  within : l.i ≤ l.k;
  lines : g.A.Adds.lines l.to ≡ g.A.Adds.lines l.fn.to ++ listed l.never l.left.list l.right.list l.left.most l.right.most l.k l.out l.i;
}
