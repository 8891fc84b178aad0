-- Rows picked by their places, and the lists of one member among those of all.
use Rattle.std.proofs.Common.{◌≡◌, ℕ, zero, suc, ◌+◌, Bool, true, false, cond, List, [], ◌∷◌, ◌++◌, length, map, drop, Option, Some, refl, sym, ap, ap₂, ◌∙◌, add-one, length-append, arith}
use Rattle.std.specs.List.{filter, filter_map, cons_option, slice_get}
use Rattle.std.proofs.lemmas.List.{append_assoc}
use Rattle.rt_value.specs.declared.value.Value.{Value}
use Rattle.rt_split.specs.Join.{places_where}
use Rattle.rt_split.specs.Split.{later}

seam : {X : Type 0} (front xs : List X) (x : X) → slice_get (front ++ x ∷ xs) (length front) ≡ Some x
seam [] xs x = refl
seam (y ∷ front) xs x = seam front xs x

module _ {X : Type 0} (f : X → List Value) (test : List Value → Bool) where
  picked_after : (front xs : List X) (n : ℕ) → length front ≡ n
      → filter_map (slice_get (front ++ xs)) (places_where test n (map f xs)) ≡ filter (λ x. test (f x)) xs
  picked_after front [] n l = refl
  picked_after front (x ∷ xs) n l =
      let next : length (front ++ x ∷ []) ≡ n + 1 = let k = length-append front (x ∷ []) in omega arith in
      let more = picked_after (front ++ x ∷ []) xs (n + 1) next in
      let same : (front ++ x ∷ []) ++ xs ≡ front ++ x ∷ xs = append_assoc front (x ∷ []) xs in
      let here : slice_get (front ++ x ∷ xs) n ≡ Some x = ap (slice_get (front ++ x ∷ xs)) (sym l) ∙ seam front xs x in
      go (test (f x)) here (ap (λ ys. filter_map (slice_get ys) (places_where test (n + 1) (map f xs))) (sym same) ∙ more)
    where
      go : (b : Bool) → slice_get (front ++ x ∷ xs) n ≡ Some x
          → filter_map (slice_get (front ++ x ∷ xs)) (places_where test (n + 1) (map f xs)) ≡ filter (λ x. test (f x)) xs
          → filter_map (slice_get (front ++ x ∷ xs)) (cond b (n ∷ places_where test (n + 1) (map f xs)) (places_where test (n + 1) (map f xs)))
          ≡ cond b (x ∷ filter (λ x. test (f x)) xs) (filter (λ x. test (f x)) xs)
      go true h m = ap₂ (λ (o : Option X) (ys : List X). cons_option o ys) h m
      go false h m = m

  -- the elements at the places of those that pass are those that pass
  pub picked : (xs : List X) → filter_map (slice_get xs) (places_where test 0 (map f xs)) ≡ filter (λ x. test (f x)) xs
  picked xs = picked_after [] xs 0 refl

-- lists for the members
later_next : {X : Type 0} (xss : List (List X)) (i : ℕ) → later (drop i xss) ≡ drop (suc i) xss
later_next [] zero = refl
later_next (xs ∷ xss) zero = refl
later_next [] (suc i) = refl
later_next (xs ∷ xss) (suc i) = later_next xss i

pub later_drop : {X : Type 0} (xss : List (List X)) (i : ℕ) → later (drop i xss) ≡ drop (i + 1) xss
later_drop xss i = rw add-one (later_next xss i)
