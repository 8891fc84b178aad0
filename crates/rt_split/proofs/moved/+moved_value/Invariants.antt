use Rattle.std.proofs.Common.{◌≡◌, [], map, drop}
use Rattle.rt_split.specs.Split.{all_from, moved, moved_term}
use Rattle.rt_split.proofs.moved.+moved_value.Given as goal

abbrev pub invariant-moved_exprs-loop-expr : goal.invariant-moved_exprs-loop-expr
invariant-moved_exprs-loop-expr l =
    all_from l.out (map (moved l.base l.width) (drop l.expr-index l.exprs)) ≡ all_from [] (map (moved l.base l.width) l.exprs)

abbrev pub invariant-moved_terms-loop-term : goal.invariant-moved_terms-loop-term
invariant-moved_terms-loop-term l =
    all_from l.out (map (moved_term l.base l.width) (drop l.term-index l.terms)) ≡ all_from [] (map (moved_term l.base l.width) l.terms)
