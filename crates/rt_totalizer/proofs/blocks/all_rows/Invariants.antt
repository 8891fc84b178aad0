use Rattle.std.proofs.Common.{◌≡◌, ◌+◌, ◌-◌, ◌≤◌, ◌^◌, length}
use Rattle.rt_totalizer.specs.Sums.{IsCounted}
use Rattle.rt_totalizer.proofs.blocks.all_rows.Given as goal

abbrev pub invariant-loop-low : goal.invariant-loop-low
invariant-loop-low g l = record {
  within : l.low ≤ length l.among;
  few : l.next ≤ 2 ^ 61;
  len : length l.total.list ≡ l.upto + 1;
  most : l.total.most ≤ l.low;
  counted : IsCounted l.among l.never 0 l.low l.total.most l.total.list l.fn.next (g.A.Adds.lines l.fn.to) l.next (g.A.Adds.lines l.to);
}

abbrev pub decreases-loop-low : goal.decreases-loop-low
decreases-loop-low g l = length l.among - l.low
