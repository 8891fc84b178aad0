use Rattle.std.proofs.Common.{◌≡◌, ◌+◌, ◌-◌, ℕ, List, length, drop, subst, sym, ap, ◌∙◌, arith}
use Rattle.std.proofs.lemmas.List.{drop_all}
use Rattle.rt_schema.specs.Given.{Rows}
use Rattle.rt_schema.specs.Law.{key_holds}
use Rattle.rt_formula.specs.Groups.{group_at}
use Rattle.rt_formula.specs.Shared.{bool_at}
use Rattle.rt_rules.specs.Meaning.{Means, MeanAll, IsIndexed, apart}
use Rattle.rt_rules.proofs.KeptLemmas.{since, since-at, since-end, key-kept}
use Rattle.rt_rules.proofs.Meanings.{each-grown, grown-none, grown-on, clauses-none, clauses-more, all-grown, indexed-none, indexed-grown, indexed-more}
use Rattle.rt_rules.proofs.clauses.key.Goals as goal

pub rows-init : goal.rows-init
rows-init c = record {
  grown = grown-none _;
  within = omega arith;
  later = indexed-none _ _ _ _ _ c.new-later.ensures (drop_all _ c.args.rows.now (omega arith));
  clauses = (let C : List ℕ → Type 0 = λ ns. MeanAll c.args.dag.now ns (λ keep. key_holds c.args.columns.now (since c.args.rows.now c.args.base (length c.args.rows.now) keep)) in
      subst C (sym c.new-clauses.ensures) (clauses-none _ _ (λ keep. ap (key_holds c.args.columns.now) (since-end c.args.rows.now c.args.base keep))));
}

pub note-requires-clause-nodes : goal.note-requires-clause-nodes
note-requires-clause-nodes c key = each-grown c.rows.dag c.apart.new.dag c.in_ok-clause.ensures.grown (group_at c.rows.later key) (c.rows.invariant.later.below key)

pub rows-preserved : goal.rows-preserved
rows-preserved c =
    let at = c.rows.at - 1 in
    let v = c.rows.invariant in
    let row = c.index-rows-at.result in
    let columns = c.args.columns.now in
    let rows = c.args.rows.now in
    let base = c.args.base in
    let again : c.rows.at ≡ at + 1 = (let t = c.rows-test.true in omega arith) in
    let P : ℕ → Type 0 = λ k. MeanAll c.rows.dag c.rows.clauses (λ keep. key_holds columns (since rows base k keep)) in
    let Q : ℕ → Type 0 = λ k. IsIndexed c.rows.dag c.rows.later columns (drop k rows) (base + k) in
    let w = v.within in
    let r = v.grown.rows in
    let g1 = c.in_ok-clause.ensures.grown in
    let g2 = c.in_ok-note.ensures.grown in
    let q1 = g1.rows in
    let q2 = g2.rows in
    let b = c.requires in
    let next : c.args.base + at + 1 ≡ base + (at + 1) = omega arith in
    let M : Rows → ℕ → Type 0 = λ rs p. Means c.apart.new.dag c.in_ok-clause.clause (apart columns row (base + at) rs p) in
    let M1 : Rows → Type 0 = λ rs. M rs (base + at + 1) in
    let clause = subst (M (drop (at + 1) rows)) next (subst M1 c.from.ensures c.in_ok-clause.ensures.means) in
    let C : List ℕ → Type 0 = λ ns. MeanAll c.apart.new.dag ns (λ keep. key_holds columns (since rows base at keep)) in
    record {
      grown = grown-on _ _ _ (grown-on _ _ _ v.grown g1) g2;
      within = omega (arith, w);
      later = indexed-more c.apart.new.dag _ c.rows.later _ columns rows base at row (omega (arith, again, w)) c.index-rows-at.is (omega (arith, r, q1, q2, b)) g2
          (indexed-grown _ _ g1 c.rows.later columns (drop (at + 1) rows) (base + (at + 1)) (subst Q again v.later)) c.in_ok-note.ensures.noted;
      clauses = all-grown _ _ g2 _ _ (subst C (sym c.in_ok-push.ensures.ok)
          (clauses-more c.rows.dag c.apart.new.dag c.rows.clauses c.in_ok-clause.clause _ (apart columns row (base + at) (drop (at + 1) rows) (base + (at + 1))) _ g1 (subst P again v.clauses) clause
          (λ keep l.
          ap (key_holds columns) (since-at rows base at row keep (omega (arith, again, w)) c.index-rows-at.is (omega (arith, l, r, q1, b, again, w)))
          ∙ key-kept columns (bool_at keep (base + at)) row (since rows base (at + 1) keep))));
    }

pub returns-in_err-clause-clause-grown : goal.returns-in_err-clause-clause-grown
returns-in_err-clause-clause-grown c = grown-on _ _ _ c.rows.invariant.grown c.in_err-clause.ensures.grown

pub returns-in_err-push-clause-grown : goal.returns-in_err-push-clause-grown
returns-in_err-push-clause-grown c = grown-on _ _ _ c.rows.invariant.grown c.in_ok-clause.ensures.grown

pub returns-in_err-note-clause-grown : goal.returns-in_err-note-clause-grown
returns-in_err-note-clause-grown c = grown-on _ _ _ (grown-on _ _ _ c.rows.invariant.grown c.in_ok-clause.ensures.grown) c.in_err-note.ensures.grown

pub returns-clause-grown : goal.returns-clause-grown
returns-clause-grown c = grown-on _ _ _ c.rows.invariant.grown c.all.ensures.grown
