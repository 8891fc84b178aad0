use Rattle.std.proofs.Common.{◌≡◌, ◌+◌, ◌-◌, ℕ, drop, subst, arith}
use Rattle.std.proofs.lemmas.List.{drop_all}
use Rattle.rt_rules.specs.Meaning.{IsIndexed}
use Rattle.rt_rules.proofs.Meanings.{grown-none, grown-on, indexed-none, indexed-more}
use Rattle.rt_rules.proofs.index.index.Goals as goal

pub rows-init : goal.rows-init
rows-init c = record {
  grown = grown-none _;
  within = omega arith;
  indexed = indexed-none _ _ _ _ _ c.new-groups.ensures (drop_all _ c.args.rows.now (omega arith));
}

pub rows-preserved : goal.rows-preserved
rows-preserved c =
    let at = c.rows.at - 1 in
    let v = c.rows.invariant in
    let again : c.rows.at ≡ at + 1 = (let t = c.rows-test.true in omega arith) in
    let P : ℕ → Type 0 = λ k. IsIndexed c.rows.dag c.rows.groups c.args.columns.now (drop k c.args.rows.now) (c.args.base + k) in
    let w = v.within in
    let r = v.grown.rows in
    let q = c.in_ok-note.ensures.grown.rows in
    let b = c.requires in
    record {
      grown = grown-on _ _ _ v.grown c.in_ok-note.ensures.grown;
      within = omega (arith, w);
      indexed = indexed-more c.rows.dag _ c.rows.groups _ c.args.columns.now c.args.rows.now c.args.base at c.index-rows-at.result (omega (arith, again, w)) c.index-rows-at.is (omega (arith, r, q, b)) c.in_ok-note.ensures.grown
          (subst P again v.indexed) c.in_ok-note.ensures.noted;
    }

pub returns-in_err-note-clause-grown : goal.returns-in_err-note-clause-grown
returns-in_err-note-clause-grown c = grown-on _ _ _ c.rows.invariant.grown c.in_err-note.ensures.grown
