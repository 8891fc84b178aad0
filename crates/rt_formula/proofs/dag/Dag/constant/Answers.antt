use Rattle.std.proofs.Common.{ap, ◌∙◌, sym, Some}
use Rattle.rt_formula.specs.declared.entry.Entry.TheVariants.{Yes, No}
use Rattle.rt_formula.proofs.Meaning.{val-known}
use Rattle.rt_formula.proofs.dag.Dag.constant.Goals as goal

pub returns-in-Some-Yes : goal.returns-in-Some-Yes
returns-in-Some-Yes c keep =
    val-known c.self.view_is Yes c.self.invariant (sym c.in-Some-Yes.ensures.key ∙ ap Some c.in-Some-Yes.field-0-is) (sym c.number.ensures) keep

pub returns-in-Some-No : goal.returns-in-Some-No
returns-in-Some-No c keep =
    val-known c.self.view_is No c.self.invariant (sym c.in-Some-No.ensures.key ∙ ap Some c.in-Some-No.field-0-is) (sym c.number.ensures) keep
