-- The values of the variables, read one after another.
use Rattle.std.proofs.Common.{◌≡◌, ℕ, ◌+◌, ◌<◌, ◌≤◌, nat_lt, Bool, false, List, [], ◌∷◌, ◌++◌, length, slice_index_or, refl, sym, ap, subst, ◌∙◌, inl, inr, Option, Some, None, IsSome, arith, rules}
use Rattle.std.specs.Option.{unwrap_or}
use Rattle.rt_clause.proofs.Bools.{bool-cases}
use Rattle.rt_clause.proofs.Extending.{index-front, index-end}
use Rattle.rt_store.specs.declared.trail.Step.{Step}
use Rattle.rt_store.specs.Trail.{value_in}
use Rattle.rt_solver.specs.Answers.{Reads}

some-or : (o : Option Bool) → IsSome o → o ≡ Some (unwrap_or o false)
some-or None h = absurd (cc)
some-or (Some b) h = refl

pub reads-push : (n : ℕ) (t : List Step) (bools now : List Bool) (o : Option Bool) → length bools ≡ n → Reads n t bools → value_in t n ≡ o → IsSome o → now ≡ bools ++ unwrap_or o false ∷ [] → Reads (n + 1) t now
reads-push n t bools now o l r e s w v b =
    let R : List Bool → Type 0 = λ x. value_in t v ≡ Some (slice_index_or x v false) in
    subst R (sym w) here where
      here : value_in t v ≡ Some (slice_index_or (bools ++ unwrap_or o false ∷ []) v false)
      here = elim (bool-cases (nat_lt v n)) [
        | inl y ↦ (let i : v < n = search rules in r v i ∙ ap Some (sym (index-front bools (unwrap_or o false ∷ []) v (omega (arith, i, l)))))
        | inr y ↦ (let g : n ≤ v = search rules in
            let q : v ≡ n = omega (arith, g, b) in
            ap (value_in t) q ∙ e ∙ some-or o s ∙ ap Some (sym (ap (λ k. slice_index_or (bools ++ unwrap_or o false ∷ []) k false) (q ∙ sym l) ∙ index-end bools (unwrap_or o false))))
      ]
