use Rattle.std.proofs.Common.{◌≡◌, ◌+◌, Bool, true, false, not, ◌&&◌, refl, sym, ap, ◌∙◌, drop}
use Rattle.std.specs.List.{list_any}
use Rattle.rt_schema.specs.Kept.{kept_rows}
use Rattle.rt_schema.specs.Cells.{agree}
use Rattle.rt_formula.specs.Shared.{val, bool_at}
use Rattle.rt_formula.proofs.Meaning.{val-grown}
use Rattle.rt_rules.proofs.KeptLemmas.{no-agree, agree-same}
use Rattle.rt_rules.proofs.Meanings.{below-grown, grown-on, two-below}
use Rattle.rt_rules.proofs.clauses.apart.Goals as goal

never : (b x : Bool) → x ≡ false → true ≡ not (b && x)
never true true e = absurd (cc)
never true false e = refl
never false x e = refl

pub returns-then-has_null-clause-means : goal.returns-then-has_null-clause-means
returns-then-has_null-clause-means c = record {
  below = c.yes.ensures.node;
  same = λ keep l. c.yes.ensures.means keep ∙ never (bool_at keep c.args.place) _ (no-agree c.args.columns.now c.args.columns.now c.args.row.now (kept_rows c.args.others.now (drop (c.args.place + 1) keep)) (sym c.has_null.ensures ∙ c.if-has_null.true));
}

two : (a b x y : Bool) → a ≡ x → b ≡ y → not (a && (b && true)) ≡ not (x && y)
two a true x y p q = ap (λ v. not (v && true)) p ∙ ap (λ v. not (x && v)) q
two a false x y p q = ap (λ v. not (v && false)) p ∙ ap (λ v. not (x && v)) q

pub returns-clause-means : goal.returns-clause-means
returns-clause-means c = record {
  below = c.in_ok-clause.ensures.node;
  same = λ keep l.
      let K = kept_rows c.args.others.now (drop (c.args.place + 1) keep) in
      let g2 = c.in_ok-kept.ensures.grown in
      let m = c.in_ok-clash.ensures.means c.args.columns.now c.args.others.now (c.args.place + 1) c.requires.later in
      let found : val c.found.new.dag keep c.in_ok-clash.clash ≡ list_any (agree c.args.columns.now c.args.columns.now c.args.row.now) K =
      m.same keep (l ∙ c.in_ok-clause.ensures.grown.rows ∙ c.in_ok-both.ensures.grown.rows ∙ g2.rows)
      ∙ agree-same c.args.columns.now c.args.columns.now c.args.row.now K (sym c.has_null.ensures ∙ c.if-has_null.false) in
      let still : val c.row.new.self keep c.in_ok-clash.clash ≡ list_any (agree c.args.columns.now c.args.columns.now c.args.row.now) K =
      val-grown c.found.new.dag c.row.new.self g2 keep c.in_ok-clash.clash m.below ∙ found in
      c.in_ok-clause.ensures.means keep ∙ ap not (c.in_ok-both.ensures.means keep) ∙ two _ _ _ _ (c.in_ok-kept.ensures.means keep) still;
}

pub found-requires : goal.found-requires
found-requires c = c.requires.later.below

pub returns-in_err-kept-clause-grown : goal.returns-in_err-kept-clause-grown
returns-in_err-kept-clause-grown c = grown-on _ _ _ c.in_ok-clash.ensures.grown c.in_err-kept.ensures.grown

pub returns-in_err-both-clause-grown : goal.returns-in_err-both-clause-grown
returns-in_err-both-clause-grown c = grown-on _ _ _ (grown-on _ _ _ c.in_ok-clash.ensures.grown c.in_ok-kept.ensures.grown) c.in_err-both.ensures.grown

pub returns-in_err-clause-clause-grown : goal.returns-in_err-clause-clause-grown
returns-in_err-clause-clause-grown c = grown-on _ _ _ (grown-on _ _ _ (grown-on _ _ _ c.in_ok-clash.ensures.grown c.in_ok-kept.ensures.grown) c.in_ok-both.ensures.grown) c.in_err-clause.ensures.grown

pub returns-clause-grown : goal.returns-clause-grown
returns-clause-grown c = grown-on _ _ _ (grown-on _ _ _ (grown-on _ _ _ c.in_ok-clash.ensures.grown c.in_ok-kept.ensures.grown) c.in_ok-both.ensures.grown) c.in_ok-clause.ensures.grown

pub all-requires : goal.all-requires
all-requires c = two-below _ _ _ c.in_ok-kept.ensures.node (below-grown _ _ c.in_ok-kept.ensures.grown _ c.in_ok-clash.ensures.node)
