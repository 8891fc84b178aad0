use Rattle.std.proofs.Common.{◌≡◌, ◌+◌, ◌-◌, ℕ, List, drop, subst, sym, ap, ◌∙◌, arith}
use Rattle.rt_schema.specs.Kept.{kept_rows}
use Rattle.rt_schema.specs.Law.{foreign_holds}
use Rattle.rt_formula.specs.Shared.{bool_at}
use Rattle.rt_rules.specs.Meaning.{MeanAll, met}
use Rattle.rt_rules.proofs.KeptLemmas.{since, since-at, foreign-kept}
use Rattle.rt_rules.proofs.Meanings.{grown-on, clauses-more, indexed-grown}
use Rattle.rt_rules.proofs.clauses.foreign.Goals as goal

pub rows-preserved : goal.rows-preserved
rows-preserved c =
    let at = c.rows.at - 1 in
    let v = c.rows.invariant in
    let row = c.index-rows-at.result in
    let from = c.args.rule.now.from in
    let to = c.args.rule.now.to in
    let rows = c.args.rows.now in
    let base = c.args.base in
    let again : c.rows.at ≡ at + 1 = (let t = c.rows-test.true in omega arith) in
    let P : ℕ → Type 0 = λ k. MeanAll c.rows.dag c.rows.clauses (λ keep. foreign_holds from to (kept_rows c.args.others.now (drop c.args.others_base keep)) (since rows base k keep)) in
    let w = v.within in
    let r = v.grown.rows in
    let g1 = c.in_ok-clause.ensures.grown in
    let q1 = g1.rows in
    let b = c.requires.rows in
    let C : List ℕ → Type 0 = λ ns. MeanAll c.met.new.dag ns (λ keep. foreign_holds from to (kept_rows c.args.others.now (drop c.args.others_base keep)) (since rows base at keep)) in
    record {
      grown = grown-on _ _ _ v.grown g1;
      within = omega (arith, w);
      indexed = indexed-grown _ _ g1 c.args.groups.now to c.args.others.now c.args.others_base v.indexed;
      clauses = subst C (sym c.in_ok-push.ensures.ok)
          (clauses-more c.rows.dag c.met.new.dag c.rows.clauses c.in_ok-clause.clause _ (met from to row (base + at) c.args.others.now c.args.others_base) _ g1 (subst P again v.clauses) c.in_ok-clause.ensures.means
          (λ keep l.
          let others = kept_rows c.args.others.now (drop c.args.others_base keep) in
          ap (foreign_holds from to others) (since-at rows base at row keep (omega (arith, again, w)) c.index-rows-at.is (omega (arith, l, r, q1, b, again, w)))
          ∙ foreign-kept from to others (bool_at keep (base + at)) row (since rows base (at + 1) keep)));
    }

pub returns-in_err-clause-clause-grown : goal.returns-in_err-clause-clause-grown
returns-in_err-clause-clause-grown c = grown-on _ _ _ c.rows.invariant.grown c.in_err-clause.ensures.grown

pub returns-in_err-push-clause-grown : goal.returns-in_err-push-clause-grown
returns-in_err-push-clause-grown c = grown-on _ _ _ c.rows.invariant.grown c.in_ok-clause.ensures.grown

pub returns-clause-grown : goal.returns-clause-grown
returns-clause-grown c = grown-on _ _ _ c.rows.invariant.grown c.all.ensures.grown
