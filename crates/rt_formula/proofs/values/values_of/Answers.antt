use Rattle.std.proofs.Common.{◌∙◌, sym, ap}
use Rattle.rt_formula.specs.Shared.{entry_value}
use Rattle.rt_formula.proofs.Meaning.{values-none, values-next}
use Rattle.rt_formula.proofs.values.values_of.Goals as goal

pub loop-e-init : goal.loop-e-init
loop-e-init c = c.new-done.ensures.items ∙ sym (values-none c.args.keep.now)

pub loop-e-preserved : goal.loop-e-preserved
loop-e-preserved c =
    values-next c.args.keep.now c.loop-e.done.items c.push.new.self.items c.args.entries.now c.loop-e.e-index c.e-item.result c.entry_of-b.result c.loop-e-test.true c.e-item.is c.loop-e.invariant
    (c.entry_of-b.ensures ∙ ap (λ ds. entry_value c.args.keep.now ds c.e-item.result) c.as_slice.ensures.value) c.in_ok-push.ensures.items
