use Rattle.std.proofs.Common.{◌≡◌, Bool, true, false, List, [], ◌∷◌, length, replicate, refl, sym, ap, subst, ◌∙◌}
use Rattle.std.specs.Result.{IfOk}
use Rattle.rt_formula.specs.Cut.{cut}
use Rattle.rt_formula.specs.Shared.{val}
use Rattle.rt_search_cases.proofs.drawing.Drawing.search.Goals as goal

-- nothing is cut off where each row is in the cone
cut-none : (keep : List Bool) → cut keep (replicate (length keep) true) ≡ keep
cut-none [] = refl
cut-none (true ∷ keep) = ap (λ (xs : List Bool). true ∷ xs) (cut-none keep)
cut-none (false ∷ keep) = ap (λ (xs : List Bool). false ∷ xs) (cut-none keep)

pub smallest_counted-requires-clause-cone : goal.smallest_counted-requires-clause-cone
smallest_counted-requires-clause-cone g c keep h =
    let all : c.expect-all.result ≡ replicate c.rows.result true = subst (λ r. IfOk r (λ k. k ≡ replicate c.rows.result true)) c.expect-all.ensures c.all.ensures in
    ap (λ k. val c.args.self.now.dag k c.node.result) (ap (cut keep) (all ∙ ap (λ n. replicate n true) (c.rows.ensures ∙ sym h.0)) ∙ cut-none keep) ∙ h.1
