use Rattle.std.proofs.Common.{◌≡◌, Bool, true, false, not, ◌&&◌, ap, ◌∙◌}
use Rattle.rt_formula.specs.Shared.{val}
use Rattle.rt_formula.proofs.Meaning.{val-grown}
use Rattle.rt_rules.proofs.Meanings.{below-grown, grown-on, three-below}
use Rattle.rt_rules.proofs.dependencies.unless.Goals as goal

three : (a b d x y z : Bool) → a ≡ x → b ≡ y → d ≡ z → not (a && (b && (d && true))) ≡ not (x && (y && z))
three a b true x y z p q r = ap (λ v. not (v && (b && true))) p ∙ ap (λ v. not (x && (v && true))) q ∙ ap (λ v. not (x && (y && v))) r
three a b false x y z p q r = ap (λ v. not (v && (b && false))) p ∙ ap (λ v. not (x && (v && false))) q ∙ ap (λ v. not (x && (y && v))) r

pub returns-clause-means : goal.returns-clause-means
returns-clause-means c = record {
  below = c.in_ok-clause.ensures.node;
  same = λ keep l.
      let g1 = c.in_ok-unmet.ensures.grown in
      let g2 = c.in_ok-kept.ensures.grown in
      let agreeing : val c.row.new.self keep c.args.agreeing ≡ val c.args.dag.now keep c.args.agreeing =
      val-grown c.args.dag.now c.row.new.self (grown-on c.args.dag.now c.not.new.self c.row.new.self g1 g2) keep c.args.agreeing c.requires.agreeing in
      let unmet : val c.row.new.self keep c.in_ok-unmet.unmet ≡ not (val c.args.dag.now keep c.args.met) =
      val-grown c.not.new.self c.row.new.self g2 keep c.in_ok-unmet.unmet c.in_ok-unmet.ensures.node ∙ c.in_ok-unmet.ensures.means keep in
      c.in_ok-clause.ensures.means keep ∙ ap not (c.in_ok-broken.ensures.means keep) ∙ three _ _ _ _ _ _ (c.in_ok-kept.ensures.means keep) agreeing unmet;
}

pub returns-in_err-kept-clause-grown : goal.returns-in_err-kept-clause-grown
returns-in_err-kept-clause-grown c = grown-on _ _ _ c.in_ok-unmet.ensures.grown c.in_err-kept.ensures.grown

pub returns-in_err-broken-clause-grown : goal.returns-in_err-broken-clause-grown
returns-in_err-broken-clause-grown c = grown-on _ _ _ (grown-on _ _ _ c.in_ok-unmet.ensures.grown c.in_ok-kept.ensures.grown) c.in_err-broken.ensures.grown

pub returns-in_err-clause-clause-grown : goal.returns-in_err-clause-clause-grown
returns-in_err-clause-clause-grown c = grown-on _ _ _ (grown-on _ _ _ (grown-on _ _ _ c.in_ok-unmet.ensures.grown c.in_ok-kept.ensures.grown) c.in_ok-broken.ensures.grown) c.in_err-clause.ensures.grown

pub returns-clause-grown : goal.returns-clause-grown
returns-clause-grown c = grown-on _ _ _ (grown-on _ _ _ (grown-on _ _ _ c.in_ok-unmet.ensures.grown c.in_ok-kept.ensures.grown) c.in_ok-broken.ensures.grown) c.in_ok-clause.ensures.grown

pub all-requires : goal.all-requires
all-requires c =
    let g = grown-on _ _ _ c.in_ok-unmet.ensures.grown c.in_ok-kept.ensures.grown in
    three-below _ _ _ _ c.in_ok-kept.ensures.node (below-grown _ _ g _ c.requires.agreeing) (below-grown _ _ c.in_ok-kept.ensures.grown _ c.in_ok-unmet.ensures.node)
