use Rattle.std.proofs.Common.{◌≡◌, ℕ, List, Bool, true, false, not, ◌||◌, sym, ap, subst, ◌∙◌, drop}
use Rattle.std.specs.List.{list_any}
use Rattle.rt_value.specs.Row.{row_eq}
use Rattle.rt_schema.specs.Kept.{kept_rows}
use Rattle.rt_schema.specs.Cells.{agree, cells, is_null}
use Rattle.rt_formula.specs.Shared.{val}
use Rattle.rt_formula.proofs.Meaning.{val-grown}
use Rattle.rt_rules.proofs.KeptLemmas.{agree-same}
use Rattle.rt_rules.proofs.Meanings.{below-grown, grown-on, two-below}
use Rattle.rt_rules.proofs.clauses.met.Goals as goal

two : (a b x n y : Bool) → a ≡ not x → b ≡ y → n ≡ false → (a || (b || false)) ≡ (not x || (n || y))
two a b x true y p q e = absurd (cc)
two a true x false y p q e = ap (λ v. v || true) p ∙ ap (λ v. not x || v) q
two a false x false y p q e = ap (λ v. v || false) p ∙ ap (λ v. not x || v) q

pub returns-clause-means : goal.returns-clause-means
returns-clause-means c = record {
  below = c.in_ok-clause.ensures.node;
  same = λ keep l.
      let from = c.args.rule.now.from in
      let to = c.args.rule.now.to in
      let K = kept_rows c.args.others.now (drop c.args.others_base keep) in
      let g2 = c.in_ok-kept.ensures.grown in
      let g3 = c.in_ok-absent.ensures.grown in
      let m = c.in_ok-referred.ensures.means to c.args.others.now c.args.others_base c.requires.indexed in
      let N : List ℕ → Type 0 = λ cs. list_any is_null (cells cs c.args.row.now) ≡ false in
      let filled : list_any is_null (cells from c.args.row.now) ≡ false = subst N c.as_slice-from.ensures (sym c.has_null.ensures ∙ c.if-has_null.false) in
      let found : val c.found.new.dag keep c.in_ok-referred.referred ≡ list_any (agree from to c.args.row.now) K =
      m.same keep (l ∙ c.in_ok-clause.ensures.grown.rows ∙ g3.rows ∙ g2.rows)
      ∙ ap (λ (cs : List ℕ). list_any (λ r. row_eq (cells cs c.args.row.now) (cells to r)) K) c.as_slice-from.ensures
      ∙ agree-same from to c.args.row.now K filled in
      let still : val c.not.new.self keep c.in_ok-referred.referred ≡ list_any (agree from to c.args.row.now) K =
      val-grown c.row.new.self c.not.new.self g3 keep c.in_ok-referred.referred (below-grown c.found.new.dag c.row.new.self g2 c.in_ok-referred.referred m.below)
      ∙ val-grown c.found.new.dag c.row.new.self g2 keep c.in_ok-referred.referred m.below ∙ found in
      c.in_ok-clause.ensures.means keep ∙ two _ _ _ _ _ (c.in_ok-absent.ensures.means keep ∙ ap not (c.in_ok-kept.ensures.means keep)) still filled;
}

pub found-requires : goal.found-requires
found-requires c = c.requires.indexed.below

pub returns-in_err-kept-clause-grown : goal.returns-in_err-kept-clause-grown
returns-in_err-kept-clause-grown c = grown-on _ _ _ c.in_ok-referred.ensures.grown c.in_err-kept.ensures.grown

pub returns-in_err-absent-clause-grown : goal.returns-in_err-absent-clause-grown
returns-in_err-absent-clause-grown c = grown-on _ _ _ (grown-on _ _ _ c.in_ok-referred.ensures.grown c.in_ok-kept.ensures.grown) c.in_err-absent.ensures.grown

pub returns-in_err-clause-clause-grown : goal.returns-in_err-clause-clause-grown
returns-in_err-clause-clause-grown c = grown-on _ _ _ (grown-on _ _ _ (grown-on _ _ _ c.in_ok-referred.ensures.grown c.in_ok-kept.ensures.grown) c.in_ok-absent.ensures.grown) c.in_err-clause.ensures.grown

pub returns-clause-grown : goal.returns-clause-grown
returns-clause-grown c = grown-on _ _ _ (grown-on _ _ _ (grown-on _ _ _ c.in_ok-referred.ensures.grown c.in_ok-kept.ensures.grown) c.in_ok-absent.ensures.grown) c.in_ok-clause.ensures.grown

pub any-requires : goal.any-requires
any-requires c = two-below _ _ _ c.in_ok-absent.ensures.node (below-grown _ _ (grown-on _ _ _ c.in_ok-kept.ensures.grown c.in_ok-absent.ensures.grown) _ c.in_ok-referred.ensures.node)
