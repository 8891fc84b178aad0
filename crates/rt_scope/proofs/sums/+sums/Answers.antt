use Rattle.std.proofs.Common.{map}
use Rattle.rt_scope.proofs.Walking.{added_fails, factor_fails, leaf_fails, mul_head_fails, multiplied_fails, next_added, next_multiplied, sum_head_fails, term_fails}
use Rattle.rt_scope.proofs.sums.+sums.Goals as goal

pub multiplied_all-loop-next-preserved : goal.multiplied_all-loop-next-preserved
multiplied_all-loop-next-preserved t c =
    next_multiplied c.args.factors.now c.loop-next.next-index c.next-item.result (map (λ s. s.now) c.args.scopes.now) c.loop-next.all _
    c.loop-next-test.true c.next-item.is c.loop-next.invariant c.in_ok-x.x c.in_ok-all.all c.in_ok-x.ensures c.in_ok-all.ensures

pub multiplied_all-returns-in_err-x : goal.multiplied_all-returns-in_err-x
multiplied_all-returns-in_err-x t c =
    factor_fails c.args.factors.now c.loop-next.next-index c.next-item.result (map (λ s. s.now) c.args.scopes.now) c.loop-next.all _
    c.loop-next-test.true c.next-item.is c.loop-next.invariant c.from_residual.result c.in_err-x.field-0.0 c.from_residual.ensures.1 c.in_err-x.ensures

pub multiplied_all-returns-in_err-all : goal.multiplied_all-returns-in_err-all
multiplied_all-returns-in_err-all t c =
    multiplied_fails c.args.factors.now c.loop-next.next-index c.next-item.result (map (λ s. s.now) c.args.scopes.now) c.loop-next.all _
    c.loop-next-test.true c.next-item.is c.loop-next.invariant c.in_ok-x.x c.from_residual-in_err-all.result c.in_err-all.field-0.0
    c.in_ok-x.ensures c.from_residual-in_err-all.ensures.1 c.in_err-all.ensures

pub added_all-loop-next-preserved : goal.added_all-loop-next-preserved
added_all-loop-next-preserved t c =
    next_added c.args.links.now c.loop-next.next-index c.next-item.result (map (λ s. s.now) c.args.scopes.now) c.loop-next.all _
    c.loop-next-test.true c.next-item.is c.loop-next.invariant c.in_ok-x.x c.in_ok-all.all c.in_ok-x.ensures c.in_ok-all.ensures

pub added_all-returns-in_err-x : goal.added_all-returns-in_err-x
added_all-returns-in_err-x t c =
    term_fails c.args.links.now c.loop-next.next-index c.next-item.result (map (λ s. s.now) c.args.scopes.now) c.loop-next.all _
    c.loop-next-test.true c.next-item.is c.loop-next.invariant c.from_residual.result c.in_err-x.field-0.0 c.from_residual.ensures.1 c.in_err-x.ensures

pub added_all-returns-in_err-all : goal.added_all-returns-in_err-all
added_all-returns-in_err-all t c =
    added_fails c.args.links.now c.loop-next.next-index c.next-item.result (map (λ s. s.now) c.args.scopes.now) c.loop-next.all _
    c.loop-next-test.true c.next-item.is c.loop-next.invariant c.in_ok-x.x c.from_residual-in_err-all.result c.in_err-all.field-0.0
    c.in_ok-x.ensures c.from_residual-in_err-all.ensures.1 c.in_err-all.ensures

pub factor-returns-in_err-x : goal.factor-returns-in_err-x
factor-returns-in_err-x t c =
    leaf_fails c.args.of.now (map (λ s. s.now) c.args.scopes.now) c.from_residual.result c.in_err-x.field-0.0 c.from_residual.ensures.1 c.in_err-x.ensures

pub mul-returns-in_err-x : goal.mul-returns-in_err-x
mul-returns-in_err-x t c =
    mul_head_fails c.args.of.now (map (λ s. s.now) c.args.scopes.now) c.from_residual.result c.in_err-x.field-0.0 c.from_residual.ensures.1 c.in_err-x.ensures

pub sum-returns-in_err-x : goal.sum-returns-in_err-x
sum-returns-in_err-x t c =
    sum_head_fails c.args.of.now (map (λ s. s.now) c.args.scopes.now) c.from_residual.result c.in_err-x.field-0.0 c.from_residual.ensures.1 c.in_err-x.ensures
