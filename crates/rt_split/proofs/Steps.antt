-- One more element in a walk along a list.
use Rattle.std.proofs.Common.{◌≡◌, ℕ, ◌+◌, List, [], ◌∷◌, ◌++◌, map, drop, Option, Some, sym, ap, ◌∙◌}
use Rattle.rt_split.specs.Split.{all_from}

pub all_step : {X : Type 0} (f : X → Option X) (xs : List X) (i : ℕ) (x : X) (out next : List X) (o : Option X) (y : X) (total : Option (List X)) → drop i xs ≡ x ∷ drop (i + 1) xs → o ≡ f x → o ≡ Some y → next ≡ out ++ y ∷ []
    → all_from out (map f (drop i xs)) ≡ total → all_from next (map f (drop (i + 1) xs)) ≡ total
all_step f xs i x out next o y total d e s c h =
    ap (λ zs. all_from zs (map f (drop (i + 1) xs))) c ∙ sym (ap (λ p. all_from out (p ∷ map f (drop (i + 1) xs))) (sym e ∙ s)) ∙ sym (ap (λ ys. all_from out (map f ys)) d) ∙ h
