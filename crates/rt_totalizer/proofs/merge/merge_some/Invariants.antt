use Rattle.std.proofs.Common.{◌≡◌, ◌≤◌, ◌^◌, length}
use Rattle.rt_totalizer.specs.Sums.{IsSum}
use Rattle.rt_totalizer.proofs.merge.merge_some.Given as goal

abbrev pub invariant-loop-k : goal.invariant-loop-k
invariant-loop-k g l = record {
  len : length l.list ≡ l.k;
  few : l.next ≤ 2 ^ 61;
  sum : IsSum l.never l.left.list l.left.most l.right.list l.right.most l.fn.next (g.A.Adds.lines l.fn.to) l.list l.most l.next (g.A.Adds.lines l.to);
}
