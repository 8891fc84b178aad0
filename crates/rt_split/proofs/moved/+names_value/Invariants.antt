use Rattle.std.proofs.Common.{◌≡◌, map, drop}
use Rattle.rt_split.specs.Split.{some_true, names, names_term}
use Rattle.rt_split.proofs.moved.+names_value.Given as goal

abbrev pub invariant-any_names-loop-expr : goal.invariant-any_names-loop-expr
invariant-any_names-loop-expr l = some_true (map names (drop l.expr-index l.exprs)) ≡ some_true (map names l.exprs)

abbrev pub invariant-any_term_names-loop-term : goal.invariant-any_term_names-loop-term
invariant-any_term_names-loop-term l = some_true (map names_term (drop l.term-index l.terms)) ≡ some_true (map names_term l.terms)
