use Rattle.std.proofs.Common.{◌≡◌, ◌+◌, ℕ, Bool, List, true, false, refl, not, ◌&&◌, subst, sym, ap, ap₂, ◌∙◌, drop}
use Rattle.std.specs.List.{list_any}
use Rattle.rt_value.specs.Row.{row_eq}
use Rattle.rt_schema.specs.Cells.{agree, cells, is_null}
use Rattle.rt_schema.specs.Kept.{kept_rows}
use Rattle.rt_formula.specs.Shared.{val, bool_at}
use Rattle.rt_rules.proofs.DependLemmas.{met-same, met_by}
use Rattle.rt_rules.proofs.KeptLemmas.{agree-same, no-agree}
use Rattle.rt_rules.proofs.Meanings.{below-grown, grown-on, indexed-grown, means-grown}
use Rattle.rt_rules.proofs.dependencies.determined.Goals as goal

pub found-requires : goal.found-requires
found-requires c = c.requires.alike.below

pub found-requires-2 : goal.found-requires-2
found-requires-2 c = (indexed-grown _ _ c.in_ok-agreeing.ensures.grown c.args.same.now c.args.columns.now c.args.later.now (c.args.place + 1) c.requires.same).below

pub returns-clause-means : goal.returns-clause-means
returns-clause-means c = record {
  below = c.in_ok-clause.ensures.means.below;
  same = λ keep l.
      let from = c.args.rule.now.from in
      let to = c.args.rule.now.to in
      let row = c.args.row.now in
      let K = kept_rows c.args.later.now (drop (c.args.place + 1) keep) in
      let k = l ∙ c.in_ok-clause.ensures.grown.rows in
      let alike = c.in_ok-agreeing.ensures.means from c.args.later.now (c.args.place + 1) c.requires.alike in
      let same = c.in_ok-met.ensures.means c.args.columns.now c.args.later.now (c.args.place + 1)
      (indexed-grown _ _ c.in_ok-agreeing.ensures.grown c.args.same.now c.args.columns.now c.args.later.now (c.args.place + 1) c.requires.same) in
      let N : List ℕ → Type 0 = λ cs. list_any is_null (cells cs row) ≡ false in
      let filled : list_any is_null (cells from row) ≡ false = subst N c.as_slice-from.ensures (sym c.has_null.ensures ∙ c.if-has_null.false) in
      let agreeing : val c.found-2.new.dag keep c.in_ok-agreeing.agreeing ≡ list_any (agree from from row) K =
      (means-grown c.found.new.dag c.found-2.new.dag c.in_ok-met.ensures.grown c.in_ok-agreeing.agreeing _ alike).same keep k
      ∙ ap (λ (cs : List ℕ). list_any (λ r. row_eq (cells cs row) (cells from r)) K) c.as_slice-from.ensures
      ∙ agree-same from from row K filled in
      let met : val c.found-2.new.dag keep c.in_ok-met.met ≡ list_any (met_by from to row) K =
      same.same keep k
      ∙ ap (λ (cs : List ℕ). list_any (λ r. row_eq (cells cs row) (cells cs r)) K) c.requires.columns
      ∙ met-same from to row K filled in
      c.in_ok-clause.ensures.means.same keep l ∙ ap₂ (λ a b. not (bool_at keep c.args.place && (a && not b))) agreeing met;
}

never : (b x y : Bool) → x ≡ false → true ≡ not (b && (x && y))
never true true y e = absurd (cc)
never true false y e = refl
never false x y e = refl

pub returns-then-has_null-clause-means : goal.returns-then-has_null-clause-means
returns-then-has_null-clause-means c = record {
  below = c.yes.ensures.node;
  same = λ keep l.
      let from = c.args.rule.now.from in
      let row = c.args.row.now in
      let N : List ℕ → Type 0 = λ cs. list_any is_null (cells cs row) ≡ true in
      let null : list_any is_null (cells from row) ≡ true = subst N c.as_slice-from.ensures (sym c.has_null.ensures ∙ c.if-has_null.true) in
      c.yes.ensures.means keep ∙ never (bool_at keep c.args.place) _ _ (no-agree from from row (kept_rows c.args.later.now (drop (c.args.place + 1) keep)) null);
}

pub returns-in_err-met-clause-grown : goal.returns-in_err-met-clause-grown
returns-in_err-met-clause-grown c = grown-on _ _ _ c.in_ok-agreeing.ensures.grown c.in_err-met.ensures.grown

pub returns-in_err-clause-clause-grown : goal.returns-in_err-clause-clause-grown
returns-in_err-clause-clause-grown c = grown-on _ _ _ (grown-on _ _ _ c.in_ok-agreeing.ensures.grown c.in_ok-met.ensures.grown) c.in_err-clause.ensures.grown

pub returns-clause-grown : goal.returns-clause-grown
returns-clause-grown c = grown-on _ _ _ (grown-on _ _ _ c.in_ok-agreeing.ensures.grown c.in_ok-met.ensures.grown) c.in_ok-clause.ensures.grown

pub unless-requires-clause-agreeing : goal.unless-requires-clause-agreeing
unless-requires-clause-agreeing c = below-grown _ _ c.in_ok-met.ensures.grown _ c.in_ok-agreeing.ensures.node
