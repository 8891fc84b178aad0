use Rattle.std.proofs.Common.{◌≡◌, Bool, true, false, ◌||◌, ap, ◌∙◌}
use Rattle.std.specs.List.{list_any}
use Rattle.rt_formula.specs.Shared.{val}
use Rattle.rt_formula.proofs.Meaning.{val-grown}
use Rattle.rt_rules.proofs.Meanings.{below-grown, grown-none, grown-on, noted-one, two-below}
use Rattle.rt_rules.proofs.index.note.Goals as goal

two : (a b x y : Bool) → a ≡ x → b ≡ y → (a || (b || false)) ≡ (x || y)
two a true x y p q = ap (λ v. v || true) p ∙ ap (λ v. x || v) q
two a false x y p q = ap (λ v. v || false) p ∙ ap (λ v. x || v) q

pub returns-clause-noted : goal.returns-clause-noted
returns-clause-noted c =
    let g1 = c.in_ok-before.ensures.grown in
    let g2 = c.in_ok-kept.ensures.grown in
    let g3 = c.in_ok-either.ensures.grown in
    noted-one _ _ _ _ c.args.columns.now c.args.row.now c.in_ok-key.key c.args.place c.in_ok-either.either (grown-on _ _ _ (grown-on _ _ _ g1 g2) g3) c.requires.nodes c.in_ok-key.ensures
    c.in_ok-either.ensures.node c.in_ok-set.ensures
    (λ keep. c.in_ok-either.ensures.means keep
    ∙ two _ _ _ _ (c.in_ok-kept.ensures.means keep)
    (val-grown c.any.new.self c.row.new.self g2 keep c.in_ok-before.before c.in_ok-before.ensures.node ∙ c.in_ok-before.ensures.means keep ∙ ap (list_any (val c.args.dag.now keep)) c.get.ensures))

pub returns-in_err-key-clause-grown : goal.returns-in_err-key-clause-grown
returns-in_err-key-clause-grown c = grown-none _

pub returns-in_err-kept-clause-grown : goal.returns-in_err-kept-clause-grown
returns-in_err-kept-clause-grown c = grown-on _ _ _ c.in_ok-before.ensures.grown c.in_err-kept.ensures.grown

pub returns-in_err-either-clause-grown : goal.returns-in_err-either-clause-grown
returns-in_err-either-clause-grown c = grown-on _ _ _ (grown-on _ _ _ c.in_ok-before.ensures.grown c.in_ok-kept.ensures.grown) c.in_err-either.ensures.grown

pub returns-in_err-set-clause-grown : goal.returns-in_err-set-clause-grown
returns-in_err-set-clause-grown c = grown-on _ _ _ (grown-on _ _ _ c.in_ok-before.ensures.grown c.in_ok-kept.ensures.grown) c.in_ok-either.ensures.grown

pub returns-clause-grown : goal.returns-clause-grown
returns-clause-grown c = grown-on _ _ _ (grown-on _ _ _ c.in_ok-before.ensures.grown c.in_ok-kept.ensures.grown) c.in_ok-either.ensures.grown

pub any-requires-2 : goal.any-requires-2
any-requires-2 c = two-below _ _ _ c.in_ok-kept.ensures.node (below-grown _ _ c.in_ok-kept.ensures.grown _ c.in_ok-before.ensures.node)
