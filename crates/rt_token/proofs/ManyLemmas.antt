-- Lists of trees, one after another.
use Rattle.std.proofs.Common.{◌≡◌, ◌∙◌, sym, ap, ℕ, zero, suc, List, [], ◌∷◌, ◌++◌, refl, Option, Some, None, append_assoc}
use Rattle.std.specs.List.{flat_map}
use Rattle.rt_token.specs.Terminals.{Kinds}
use Rattle.rt_token.specs.Readers.{Step, many, match_step, ◌>>=◌}

pub bind-some : {A B : Type 0} (o : Option A) (f : A → Option B) (y : B) → (o >>= f) ≡ Some y → (x : A) × (o ≡ Some x) × (f x ≡ Some y)
bind-some None f y e = cc e
bind-some (Some x) f y e = (x, refl, e)

pub some-is : {A : Type 0} (x y : A) → Some x ≡ Some y → x ≡ y
some-is x y e = cc

-- what a step reads is what is there
pub record StepSound {A : Type 0} (step : Step A) (spell : A → Kinds) : Type 0 where
  pub spelled : (ks : Kinds) (x : A) (rest : Kinds) → step ks ≡ Some (Some (x, rest)) → ks ≡ spell x ++ rest

pub many-sound : {A : Type 0} (step : Step A) (spell : A → Kinds) → StepSound step spell → (n : ℕ) (ks : Kinds) (q : List A × Kinds) → many step n ks ≡ Some q → ks ≡ flat_map spell q.0 ++ q.1
unfolding many
many-sound {A = A} step spell s zero ks q e = let h : ([], ks) ≡ q = cc in ap (λ (p : List A × Kinds). flat_map spell p.0 ++ p.1) h
many-sound {A = A} step spell s (suc n) ks q e =
    elim (step ks) as (λ o. step ks ≡ o → match_step o (Some ([], ks)) (λ p. many step n p.1 >>= λ r. Some (p.0 ∷ r.0, r.1)) ≡ Some q → ks ≡ flat_map spell q.0 ++ q.1) [
      | None ↦ λ e h. let k : ([], ks) ≡ q = some-is _ _ h in ap (λ (p : List A × Kinds). flat_map spell p.0 ++ p.1) k
      | Some o ↦ elim o as (λ o. step ks ≡ Some o → match_step (Some o) (Some ([], ks)) (λ p. many step n p.1 >>= λ r. Some (p.0 ∷ r.0, r.1)) ≡ Some q → ks ≡ flat_map spell q.0 ++ q.1) [
        | None ↦ λ e h. cc h
        | Some p ↦ λ e h.
            let b = bind-some (many step n p.1) _ q h in
            let more = many-sound step spell s n p.1 b.0 b.1 in
            let k : (p.0 ∷ b.0.0, b.0.1) ≡ q = some-is _ _ b.2 in
            s.spelled ks p.0 p.1 e ∙ ap (λ (r : Kinds). spell p.0 ++ r) more ∙ sym (append_assoc (spell p.0) (flat_map spell b.0.0) b.0.1) ∙ ap (λ (r : List A × Kinds). flat_map spell r.0 ++ r.1) k
      ]
    ] refl e

-- each element is good
abbrev pub Each : {A : Type 0} → (A → Type 0) → List A → Type 0
Each P [] = Unit {0}
Each P (x ∷ xs) = P x × Each P xs
