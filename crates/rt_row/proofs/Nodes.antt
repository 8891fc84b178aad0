-- Two nodes as one.
use Rattle.std.proofs.Common.{◌≡◌, ◌∙◌, Bool, true, false, ◌&&◌, Result, Ok, Err, refl, ap, ap₂}
use Rattle.std.specs.Prelude.{IfOk}

pub both_of : (a b x y : Bool) → a ≡ x → b ≡ y → (a && (b && true)) ≡ (x && y)
both_of a b x y p q = ap₂ (λ v w. v && (w && true)) p q ∙ ap (λ w. x && w) (and_true y)
  where
    and_true : (b : Bool) → (b && true) ≡ b
    and_true true = refl
    and_true false = refl

pub if_ok : {X E : Type 0} (P Q : X → Type 0) (r : Result X E) → ((x : X) → P x → Q x) → IfOk r P → IfOk r Q
if_ok P Q (Ok x) f p = f x p
if_ok P Q (Err e) f p = tt
