use Rattle.std.proofs.Common.{map}
use Rattle.rt_scope.proofs.Walking.{listed_fails, member_fails, next_listed}
use Rattle.rt_scope.proofs.compare.listed.Goals as goal

pub loop-next-preserved : goal.loop-next-preserved
loop-next-preserved c =
    next_listed c.args.kind c.args.sums.now c.loop-next.next-index c.next-item.result (map (λ s. s.now) c.args.scopes.now) c.loop-next.all _
    c.loop-next-test.true c.next-item.is c.loop-next.invariant c.in_ok-y.y c.in_ok-all.all c.in_ok-y.ensures c.in_ok-all.ensures

pub returns-in_err-y : goal.returns-in_err-y
returns-in_err-y c =
    member_fails c.args.kind c.args.sums.now c.loop-next.next-index c.next-item.result (map (λ s. s.now) c.args.scopes.now) c.loop-next.all _
    c.loop-next-test.true c.next-item.is c.loop-next.invariant c.from_residual.result c.in_err-y.field-0.0 c.from_residual.ensures.1 c.in_err-y.ensures

pub returns-in_err-all : goal.returns-in_err-all
returns-in_err-all c =
    listed_fails c.args.kind c.args.sums.now c.loop-next.next-index c.next-item.result (map (λ s. s.now) c.args.scopes.now) c.loop-next.all _
    c.loop-next-test.true c.next-item.is c.loop-next.invariant c.in_ok-y.y c.from_residual-in_err-all.result c.in_err-all.field-0.0
    c.in_ok-y.ensures c.from_residual-in_err-all.ensures.1 c.in_err-all.ensures
