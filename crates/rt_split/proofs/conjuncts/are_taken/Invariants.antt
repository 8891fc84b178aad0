use Rattle.std.proofs.Common.{◌≡◌, drop}
use Rattle.std.specs.List.{list_all}
use Rattle.rt_split.specs.Split.{is_taken}
use Rattle.rt_split.proofs.conjuncts.are_taken.Given as goal

abbrev pub invariant-loop-conjunct : goal.invariant-loop-conjunct
invariant-loop-conjunct l = list_all (is_taken 0 l.widths) (drop l.conjunct-index l.conjuncts) ≡ list_all (is_taken 0 l.widths) l.conjuncts
