use Rattle.std.proofs.Common.{◌≡◌, ℕ, List, true, ap, ◌∙◌, sym, subst, Some}
use Rattle.rt_formula.specs.declared.entry.Entry.TheVariants.{Not}
use Rattle.rt_formula.specs.Gathering.{has_node}
use Rattle.rt_formula.proofs.Gates.{has-at}
use Rattle.rt_formula.proofs.Meaning.{val-known}
use Rattle.rt_formula.proofs.dag.Dag.is_contrary.Goals as goal

pub returns-then-has : goal.returns-then-has
returns-then-has c _ = record {
  one = c.a-item.result;
  other = c.in-Some-Not.b;
  has_one = (let P : List ℕ → Type 0 = λ xs. has_node xs c.a-item.result ≡ true in subst P c.as_slice-a-items.ensures (has-at c.as_slice-a-items.result.now c.loop-a.a-index c.a-item.result c.loop-a-test.true c.a-item.is));
  has_other = sym c.has.ensures ∙ c.if-has.true;
  contrary = λ keep. val-known c.self.view_is (Not c.in-Some-Not.b) c.self.invariant (sym c.in-Some-Not.ensures.key ∙ ap Some c.in-Some-Not.field-0-is) (sym c.number.ensures) keep;
}
