use Rattle.std.proofs.Common.{◌≡◌, ◌∙◌, ◌+◌, ◌-◌, Bool, length, sym, ap, arith}
use Rattle.std.proofs.lemmas.List.{length-replicate}
use Rattle.rt_formula.specs.Under.{is_marked}
use Rattle.rt_formula.proofs.MarkLemmas.{all-marked, all-unmarked, closed-all, none-marked, only-named, marked-long}
use Rattle.rt_formula.proofs.marks.marked_rows.Goals as goal

pub nodes-init : goal.nodes-init
nodes-init c = record {
  long = ap (length {A = Bool}) c.in_ok-rows.ensures ∙ length-replicate _ _ ∙ c.rows.ensures;
  within = (let n = c.len-at.ensures in omega (arith, n));
  all = λ k e low f m. absurd (let n = c.len-at.ensures in let b = marked-long c.args.marks.now k m in omega (arith, low, n, b));
  only = λ v m. absurd (none-marked _ v (ap (λ ms. is_marked ms v) (sym c.in_ok-rows.ensures) ∙ m));
}

pub mark_row-requires : goal.mark_row-requires
mark_row-requires c i d b =
    let f = (c.entry.ensures.sound.fits _ _ c.entry.ensures.entry).row i d b in
    let l = c.nodes.invariant.long in
    omega (arith, f, l)

pub nodes-preserved-then-is : goal.nodes-preserved-then-is
nodes-preserved-then-is c =
    let v = c.nodes.invariant in
    let at = c.nodes.at - 1 in
    let again : c.nodes.at ≡ at + 1 = (let t = c.nodes-test.true in omega arith) in
    record {
      long = c.mark_row.ensures.len ∙ v.long;
      within = (let w = v.within in omega (arith, w));
      all = all-marked c.args.dag.now c.args.marks.now at c.nodes.at c.entry.result.now c.nodes.rows c.mark_row.new.rows again c.entry.ensures.entry c.mark_row.ensures.stay c.mark_row.ensures.set v.all;
      only = only-named c.args.dag.now c.args.goal at c.entry.result.now c.nodes.rows c.mark_row.new.rows c.entry.ensures.entry
          (c.requires.under.stand at (sym c.is.ensures ∙ c.if-is.true)) c.mark_row.ensures.only v.only;
    }

pub nodes-preserved : goal.nodes-preserved
nodes-preserved c =
    let v = c.nodes.invariant in
    let again : c.nodes.at ≡ c.nodes.at - 1 + 1 = (let t = c.nodes-test.true in omega arith) in
    record {
      long = v.long;
      within = (let w = v.within in omega (arith, w));
      all = all-unmarked c.args.dag.now c.args.marks.now (c.nodes.at - 1) c.nodes.at c.nodes.rows again (sym c.is.ensures ∙ c.if-is.false) v.all;
      only = v.only;
    }

pub returns : goal.returns
returns c =
    let v = c.nodes.invariant in
    record {
      long = v.long;
      all = λ r s. v.all s.node _ (let t = c.nodes-test.false in omega (arith, t)) s.names (s.stands c.args.marks.now c.requires.under.goal_is (closed-all c.args.dag.now c.args.goal c.args.marks.now c.requires.under)) 0 0 (omega arith);
      only = v.only;
    }
