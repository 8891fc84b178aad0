use Rattle.std.proofs.Common.{◌≡◌, ◌+◌, ◌-◌, ℕ, List, not, subst, sym, ap, ◌∙◌, arith}
use Rattle.rt_schema.specs.Cells.{cell, is_null}
use Rattle.rt_schema.specs.Law.{not_null_holds}
use Rattle.rt_formula.specs.Shared.{bool_at}
use Rattle.rt_rules.specs.Meaning.{MeanAll, filled}
use Rattle.rt_rules.proofs.KeptLemmas.{since, since-at, all-kept}
use Rattle.rt_rules.proofs.Meanings.{grown-on, clauses-more}
use Rattle.rt_rules.proofs.clauses.not_null.Goals as goal

pub rows-preserved : goal.rows-preserved
rows-preserved c =
    let at = c.rows.at - 1 in
    let v = c.rows.invariant in
    let row = c.index-rows-at.result in
    let again : c.rows.at ≡ at + 1 = (let t = c.rows-test.true in omega arith) in
    let P : ℕ → Type 0 = λ k. MeanAll c.rows.dag c.rows.clauses (λ keep. not_null_holds c.args.column (since c.args.rows.now c.args.base k keep)) in
    let w = v.within in
    let r = v.grown.rows in
    let q = c.in_ok-filled.ensures.grown.rows in
    let b = c.requires in
    let C : List ℕ → Type 0 = λ ns. MeanAll c.filled.new.dag ns (λ keep. not_null_holds c.args.column (since c.args.rows.now c.args.base at keep)) in
    record {
      grown = grown-on _ _ _ v.grown c.in_ok-filled.ensures.grown;
      within = omega (arith, w);
      clauses = subst C (sym c.in_ok-push.ensures.ok)
          (clauses-more c.rows.dag c.filled.new.dag c.rows.clauses c.in_ok-filled.field-0 _ (filled c.args.column row (c.args.base + at)) _ c.in_ok-filled.ensures.grown (subst P again v.clauses) c.in_ok-filled.ensures.means
          (λ keep l.
          ap (not_null_holds c.args.column) (since-at c.args.rows.now c.args.base at row keep (omega (arith, again, w)) c.index-rows-at.is (omega (arith, l, r, q, b, again, w)))
          ∙ all-kept (λ x. not (is_null (cell x c.args.column))) (bool_at keep (c.args.base + at)) row (since c.args.rows.now c.args.base (at + 1) keep)));
    }

pub returns-in_err-filled-clause-grown : goal.returns-in_err-filled-clause-grown
returns-in_err-filled-clause-grown c = grown-on _ _ _ c.rows.invariant.grown c.in_err-filled.ensures.grown

pub returns-in_err-push-clause-grown : goal.returns-in_err-push-clause-grown
returns-in_err-push-clause-grown c = grown-on _ _ _ c.rows.invariant.grown c.in_ok-filled.ensures.grown

pub returns-clause-grown : goal.returns-clause-grown
returns-clause-grown c = grown-on _ _ _ c.rows.invariant.grown c.all.ensures.grown
