use Rattle.std.proofs.Common.{◌≡◌, ◌≤◌, not, filter, take}
use Rattle.rt_clause.specs.Literal.{lit_eq}
use Rattle.rt_totalizer.proofs.clauses.add_without.Given as goal

abbrev pub invariant-loop-l : goal.invariant-loop-l
invariant-loop-l g l = record {
  room : l.len ≤ l.l-index;
  kept : take l.len l.kept ≡ filter (λ k. not (lit_eq k l.never)) (take l.l-index l.l-items);
}
