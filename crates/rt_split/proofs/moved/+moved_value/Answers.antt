use Rattle.rt_split.specs.Split.{moved, moved_term}
use Rattle.rt_algebra.proofs.Steps.{drop_more}
use Rattle.rt_split.proofs.Steps.{all_step}
use Rattle.rt_split.proofs.moved.+moved_value.Goals as goal

pub moved_exprs-loop-expr-preserved : goal.moved_exprs-loop-expr-preserved
moved_exprs-loop-expr-preserved t c =
    let i = c.loop-expr.expr-index in
    let x = c.expr-item.result in
    all_step (moved c.args.base c.args.width) c.args.exprs.now i x c.loop-expr.out _ _ _ _ (drop_more c.args.exprs.now i x c.loop-expr-test.true c.expr-item.is) c.in_ok-expr.ensures c.in-Some.is c.in_ok-push-in-Some.ensures.ok c.loop-expr.invariant

pub moved_terms-loop-term-preserved : goal.moved_terms-loop-term-preserved
moved_terms-loop-term-preserved t c =
    let i = c.loop-term.term-index in
    let x = c.term-item.result in
    all_step (moved_term c.args.base c.args.width) c.args.terms.now i x c.loop-term.out _ _ _ _ (drop_more c.args.terms.now i x c.loop-term-test.true c.term-item.is) c.in_ok-term.ensures c.in-Some.is c.in_ok-push-in-Some.ensures.ok c.loop-term.invariant
