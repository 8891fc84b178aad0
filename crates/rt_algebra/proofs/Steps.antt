-- One more element in a walk along a list.
use Rattle.std.proofs.Common.{◌≡◌, ℕ, suc, ◌+◌, ◌<◌, List, ◌∷◌, length, map, drop, get_or, Option, Some, sym, ap, ◌∙◌, add-one}
use Rattle.std.proofs.Math.Seq.{drop-cons}
use Rattle.rt_schema.specs.Capped.{capped}
use Rattle.rt_algebra.specs.Work.{sum_from, product_from, after}
use Rattle.rt_algebra.specs.declared.cost.Cost.{Cost}

pub sum_step : {X : Type 0} (f : X → ℕ) (xs : List X) (i : ℕ) (x : X) (n next m total : ℕ) → drop i xs ≡ x ∷ drop (i + 1) xs → m ≡ f x → next ≡ capped (n + m)
    → sum_from n (map f (drop i xs)) ≡ total → sum_from next (map f (drop (i + 1) xs)) ≡ total
sum_step f xs i x n next m total d e c h =
    ap (λ k. sum_from k (map f (drop (i + 1) xs))) (c ∙ ap (λ k. capped (n + k)) e) ∙ sym (ap (λ ys. sum_from n (map f ys)) d) ∙ h

pub product_step : {X : Type 0} (f : X → Cost) (xs : List X) (i : ℕ) (x : X) (front : Option Cost) (next q : Cost) (total : Option Cost) → drop i xs ≡ x ∷ drop (i + 1) xs → q ≡ f x → next ≡ after front q
    → product_from front (map f (drop i xs)) ≡ total → product_from (Some next) (map f (drop (i + 1) xs)) ≡ total
product_step f xs i x front next q total d e c h =
    ap (λ (k : Cost). product_from (Some k) (map f (drop (i + 1) xs))) (c ∙ ap (after front) e) ∙ sym (ap (λ ys. product_from front (map f ys)) d) ∙ h

pub drop_more : {X : Type 0} (xs : List X) (i : ℕ) (x : X) → i < length xs → x ≡ get_or xs i x → drop i xs ≡ x ∷ drop (i + 1) xs
drop_more xs i x l e = rw add-one (drop-cons xs i x l ∙ ap (λ y. y ∷ drop (suc i) xs) (sym e))
