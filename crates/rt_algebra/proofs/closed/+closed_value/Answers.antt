use Rattle.rt_algebra.specs.Stays.{StaysValue, StaysTerm}
use Rattle.rt_algebra.proofs.Staying.{each_more, each_of, each_at, stays_sum, stays_mul}
use Rattle.rt_algebra.proofs.closed.+closed_value.Goals as goal

pub expr_is_closed-returns-in-Sum : goal.expr_is_closed-returns-in-Sum
expr_is_closed-returns-in-Sum t c h = stays_sum c.args.depth c.in-Sum.terms c.in-Sum.is (each_at (StaysTerm c.args.depth) c.as_slice.ensures (c.terms_are_closed.ensures h))

pub expr_is_closed-returns-in-Mul : goal.expr_is_closed-returns-in-Mul
expr_is_closed-returns-in-Mul t c h = stays_mul c.args.depth c.in-Mul.members c.in-Mul.is (each_at (StaysValue c.args.depth) c.as_slice-in-Mul.ensures (c.exprs_are_closed.ensures h))

pub terms_are_closed-loop-term-preserved : goal.terms_are_closed-loop-term-preserved
terms_are_closed-loop-term-preserved t c =
    each_more (StaysTerm c.args.depth) c.args.terms.now c.loop-term.term-index c.term-item.result c.loop-term-test.true c.term-item.is c.loop-term.invariant (c.term_is_closed.ensures c.if-not-term_is_closed.false)

pub terms_are_closed-returns : goal.terms_are_closed-returns
terms_are_closed-returns t c h = each_of (StaysTerm c.args.depth) c.args.terms.now c.loop-term.term-index c.loop-term-test.false c.loop-term.invariant

pub exprs_are_closed-loop-expr-preserved : goal.exprs_are_closed-loop-expr-preserved
exprs_are_closed-loop-expr-preserved t c =
    each_more (StaysValue c.args.depth) c.args.exprs.now c.loop-expr.expr-index c.expr-item.result c.loop-expr-test.true c.expr-item.is c.loop-expr.invariant (c.expr_is_closed.ensures c.if-not-expr_is_closed.false)

pub exprs_are_closed-returns : goal.exprs_are_closed-returns
exprs_are_closed-returns t c h = each_of (StaysValue c.args.depth) c.args.exprs.now c.loop-expr.expr-index c.loop-expr-test.false c.loop-expr.invariant
