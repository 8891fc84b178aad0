use Rattle.rt_token.proofs.Loops.{after-ends, after-fails, after-more, after-shorter, passed-on}
use Rattle.rt_token.specs.declared.fixed.Fixed.TheVariants as fixed
use Rattle.rt_ra_tree.specs.Reads.{read_test}
use Rattle.rt_ra_tree.proofs.TestLaws.{test-step-law}
use Rattle.rt_ra_tree.proofs.conditions.more_tests.Goals as goal

pub returns-in_err-item : goal.returns-in_err-item
returns-in_err-item c = passed-on c.from_residual.result c.in_err-item.field-0.0 _ c.from_residual.ensures.1
    (after-fails fixed.And read_test c.items.items c.items.rest.now c.in-Some.next.now c.args.terminals.now c.in_err-item.field-0.0 c.items.invariant c.in-Some.ensures c.in_err-item.ensures)

pub items-smaller : goal.items-smaller
items-smaller c = after-shorter fixed.And read_test _ _ _ _ (test-step-law 0) c.items.rest.now c.in-Some.next.now c.in_ok-item.more.now c.in_ok-item.item c.in-Some.ensures c.in_ok-item.ensures

pub items-preserved : goal.items-preserved
items-preserved c = rw c.in_ok-push.ensures.ok
    (after-more fixed.And read_test _ _ _ _ (test-step-law 0) c.items.items c.items.rest.now c.in-Some.next.now c.args.terminals.now c.in_ok-item.more.now c.in_ok-item.item c.items.invariant c.in-Some.ensures c.in_ok-item.ensures)

pub returns : goal.returns
returns c = after-ends fixed.And read_test c.items.items c.items.rest.now c.args.terminals.now c.items.invariant c.in_default.ensures
