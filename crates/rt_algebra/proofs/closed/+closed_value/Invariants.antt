use Rattle.std.proofs.Common.{take}
use Rattle.std.specs.List.{All as Each}
use Rattle.rt_algebra.specs.Stays.{StaysValue, StaysTerm}
use Rattle.rt_algebra.proofs.closed.+closed_value.Given as goal

abbrev pub invariant-exprs_are_closed-loop-expr : goal.invariant-exprs_are_closed-loop-expr
invariant-exprs_are_closed-loop-expr l = Each (StaysValue l.depth) (take l.expr-index l.exprs)

abbrev pub invariant-terms_are_closed-loop-term : goal.invariant-terms_are_closed-loop-term
invariant-terms_are_closed-loop-term l = Each (StaysTerm l.depth) (take l.term-index l.terms)
