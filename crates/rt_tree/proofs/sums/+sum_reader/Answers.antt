use Rattle.std.proofs.Common.{◌∙◌, sym, refl}
use Rattle.rt_token.proofs.Loops.{after-ends, after-fails, after-more, after-shorter, passed-on, when-ends, when-fails, when-more, when-shorter}
use Rattle.rt_token.specs.declared.fixed.Fixed.TheVariants as fixed
use Rattle.rt_tree.specs.Reads.{is_sign, read_factor, read_sum, read_sum_link}
use Rattle.rt_tree.proofs.SumLaws.{factor-step-law, sum-law, sum-step-law}
use Rattle.rt_tree.proofs.sums.+sum_reader.Goals as goal

pub factors-returns-in_err-item : goal.factors-returns-in_err-item
factors-returns-in_err-item t c = passed-on c.from_residual.result c.in_err-item.field-0.0 _ c.from_residual.ensures.1
    (after-fails fixed.Star (read_factor (read_sum c.args.depth)) c.items.items c.items.rest.now c.in-Some.next.now c.args.terminals.now c.in_err-item.field-0.0 c.items.invariant c.in-Some.ensures c.in_err-item.ensures)

pub factors-items-smaller : goal.factors-items-smaller
factors-items-smaller t c = after-shorter fixed.Star (read_factor (read_sum c.args.depth)) _ _ _ _ (factor-step-law (read_sum c.args.depth) c.args.depth (sum-law c.args.depth)) c.items.rest.now c.in-Some.next.now c.in_ok-item.more.now c.in_ok-item.item c.in-Some.ensures c.in_ok-item.ensures

pub factors-items-preserved : goal.factors-items-preserved
factors-items-preserved t c = rw c.in_ok-push.ensures.ok
    (after-more fixed.Star (read_factor (read_sum c.args.depth)) _ _ _ _ (factor-step-law (read_sum c.args.depth) c.args.depth (sum-law c.args.depth)) c.items.items c.items.rest.now c.in-Some.next.now c.args.terminals.now c.in_ok-item.more.now c.in_ok-item.item c.items.invariant c.in-Some.ensures c.in_ok-item.ensures)

pub factors-returns : goal.factors-returns
factors-returns t c = after-ends fixed.Star (read_factor (read_sum c.args.depth)) c.items.items c.items.rest.now c.args.terminals.now c.items.invariant c.in_default.ensures

pub sum_links-returns-in_err-item : goal.sum_links-returns-in_err-item
sum_links-returns-in_err-item t c = passed-on c.from_residual.result c.in_err-item.field-0.0 _ c.from_residual.ensures.1
    (when-fails is_sign (read_sum_link (read_sum c.args.depth)) c.items.items c.items.rest.now c.args.terminals.now c.in_err-item.field-0.0 c.items.invariant refl (sym c.is_sign.ensures ∙ c.items-test.true) c.in_err-item.ensures)

pub sum_links-items-smaller : goal.sum_links-items-smaller
sum_links-items-smaller t c = when-shorter is_sign (read_sum_link (read_sum c.args.depth)) _ _ _ _ (sum-step-law (read_sum c.args.depth) c.args.depth (sum-law c.args.depth)) c.items.rest.now c.in_ok-item.more.now c.in_ok-item.item (sym c.is_sign.ensures ∙ c.items-test.true) c.in_ok-item.ensures

pub sum_links-items-preserved : goal.sum_links-items-preserved
sum_links-items-preserved t c = rw c.in_ok-push.ensures.ok
    (when-more is_sign (read_sum_link (read_sum c.args.depth)) _ _ _ _ (sum-step-law (read_sum c.args.depth) c.args.depth (sum-law c.args.depth)) c.items.items c.items.rest.now c.args.terminals.now c.in_ok-item.more.now c.in_ok-item.item c.items.invariant (sym c.is_sign.ensures ∙ c.items-test.true) c.in_ok-item.ensures)

pub sum_links-returns : goal.sum_links-returns
sum_links-returns t c = when-ends is_sign (read_sum_link (read_sum c.args.depth)) c.items.items c.items.rest.now c.args.terminals.now c.items.invariant (sym c.is_sign.ensures ∙ c.items-test.false)
