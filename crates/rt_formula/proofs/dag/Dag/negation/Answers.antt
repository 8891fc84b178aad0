use Rattle.std.proofs.Common.{◌≡◌, Bool, true, false, not, refl, ap, ◌∙◌, sym, Some}
use Rattle.rt_formula.specs.declared.entry.Entry.TheVariants.{Yes, No, Not}
use Rattle.rt_formula.proofs.Meaning.{val-known}
use Rattle.rt_formula.proofs.dag.Dag.negation.Goals as goal

pub returns-in-Some-Yes-clause-means : goal.returns-in-Some-Yes-clause-means
returns-in-Some-Yes-clause-means c keep =
    c.no.ensures.means keep ∙ ap not (sym (val-known c.self.view_is Yes c.self.invariant (sym c.in-Some-Yes.ensures.key ∙ ap Some c.in-Some-Yes.field-0-is) (sym c.number.ensures) keep))

pub returns-in-Some-No-clause-means : goal.returns-in-Some-No-clause-means
returns-in-Some-No-clause-means c keep =
    c.yes.ensures.means keep ∙ ap not (sym (val-known c.self.view_is No c.self.invariant (sym c.in-Some-No.ensures.key ∙ ap Some c.in-Some-No.field-0-is) (sym c.number.ensures) keep))

not_twice : (b : Bool) → b ≡ not (not b)
not_twice true = refl
not_twice false = refl

pub returns-in-Some-Not-clause-means : goal.returns-in-Some-Not-clause-means
returns-in-Some-Not-clause-means c keep =
    not_twice _ ∙ ap not (sym (val-known c.self.view_is (Not c.in-Some-Not.b) c.self.invariant (sym c.in-Some-Not.ensures.key ∙ ap Some c.in-Some-Not.field-0-is) (sym c.number.ensures) keep))
