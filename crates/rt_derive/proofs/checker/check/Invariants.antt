use Rattle.std.proofs.Common.{◌≡◌, take, drop, map}
use Rattle.rt_clause.specs.Literal.{Literal, negated}
use Rattle.rt_clause.specs.Lists.{has, propagates}
use Rattle.rt_derive.specs.Spent.{AreUsedUp}
use Rattle.rt_derive.proofs.checker.check.Given as goal

abbrev pub invariant-loop-l : goal.invariant-loop-l
invariant-loop-l l = (k : Literal) → has l.held k ≡ has (map negated (take l.l-index l.lits)) k

abbrev pub invariant-loop-h : goal.invariant-loop-h
invariant-loop-h l = record {
  same : propagates l.lines (map negated l.lits) l.hints ≡ propagates l.lines l.held (drop l.h-index l.hints);
  spent : AreUsedUp l.lines l.held l.used.keys;
}
