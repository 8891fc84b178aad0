use Rattle.std.proofs.Common.{◌+◌}
use Rattle.rt_algebra.specs.Stays.{StaysValue, StaysPred, StaysQuery}
use Rattle.rt_algebra.proofs.Staying.{each_more, each_of, each_at, stays_one_of, stays_and, stays_or, stays_select, stays_project, stays_product, query_at}
use Rattle.rt_algebra.proofs.closed.+closed.Goals as goal

pub pred_is_closed-returns-then-expr_is_closed-2 : goal.pred_is_closed-returns-then-expr_is_closed-2
pred_is_closed-returns-then-expr_is_closed-2 t c h =
    stays_one_of c.args.depth c.in-OneOf.expr c.in-OneOf.items c.in-OneOf.is (c.expr_is_closed-in-OneOf.ensures c.if-expr_is_closed-2.true) (each_at (StaysValue c.args.depth) c.as_slice.ensures (c.exprs_are_closed.ensures h))

pub pred_is_closed-returns-in-And : goal.pred_is_closed-returns-in-And
pred_is_closed-returns-in-And t c h = stays_and c.args.depth c.in-And.members c.in-And.is (each_at (StaysPred c.args.depth) c.as_slice-in-And.ensures (c.preds_are_closed.ensures h))

pub pred_is_closed-returns-in-Or : goal.pred_is_closed-returns-in-Or
pred_is_closed-returns-in-Or t c h = stays_or c.args.depth c.in-Or.members c.in-Or.is (each_at (StaysPred c.args.depth) c.as_slice-in-Or.ensures (c.preds_are_closed-in-Or.ensures h))

pub preds_are_closed-loop-pred-preserved : goal.preds_are_closed-loop-pred-preserved
preds_are_closed-loop-pred-preserved t c =
    each_more (StaysPred c.args.depth) c.args.preds.now c.loop-pred.pred-index c.pred-item.result c.loop-pred-test.true c.pred-item.is c.loop-pred.invariant (c.pred_is_closed.ensures c.if-not-pred_is_closed.false)

pub preds_are_closed-returns : goal.preds_are_closed-returns
preds_are_closed-returns t c h = each_of (StaysPred c.args.depth) c.args.preds.now c.loop-pred.pred-index c.loop-pred-test.false c.loop-pred.invariant

pub query_is_closed-returns-then-query_is_closed : goal.query_is_closed-returns-then-query_is_closed
query_is_closed-returns-then-query_is_closed t c h =
    stays_select c.args.depth c.in-Select.source c.in-Select.condition c.in-Select.is (query_at c.args.depth c.get.ensures (c.query_is_closed.ensures c.if-query_is_closed.true)) (c.row_pred_is_closed.ensures h)

pub query_is_closed-returns-then-query_is_closed-2 : goal.query_is_closed-returns-then-query_is_closed-2
query_is_closed-returns-then-query_is_closed-2 t c h =
    stays_project c.args.depth c.in-Project.source c.in-Project.items c.in-Project.is (query_at c.args.depth c.get-in-Project.ensures (c.query_is_closed-in-Project.ensures c.if-query_is_closed-2.true))
    (each_at (StaysValue (c.args.depth + 1)) c.as_slice.ensures (c.row_items_are_closed.ensures h))

pub query_is_closed-returns-in-Product : goal.query_is_closed-returns-in-Product
query_is_closed-returns-in-Product t c h = stays_product c.args.depth c.in-Product.members c.in-Product.is (each_at (StaysQuery c.args.depth) c.as_slice-in-Product.ensures (c.queries_are_closed.ensures h))

pub queries_are_closed-loop-query-preserved : goal.queries_are_closed-loop-query-preserved
queries_are_closed-loop-query-preserved t c =
    each_more (StaysQuery c.args.depth) c.args.queries.now c.loop-query.query-index c.query-item.result c.loop-query-test.true c.query-item.is c.loop-query.invariant (c.query_is_closed.ensures c.if-not-query_is_closed.false)

pub queries_are_closed-returns : goal.queries_are_closed-returns
queries_are_closed-returns t c h = each_of (StaysQuery c.args.depth) c.args.queries.now c.loop-query.query-index c.loop-query-test.false c.loop-query.invariant
