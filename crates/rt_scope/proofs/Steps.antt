-- Facts about what a step answers, where it answers.
use Rattle.std.proofs.Common.{◌≡◌, Bool, true, false, Result, Ok, Err, refl}
use Rattle.std.specs.Prelude.{IfOk, if◌then◌else◌}
use Rattle.rt_scope.specs.Fault.{◌>>=◌}
use Rattle.rt_scope.specs.declared.fault.NameFault.{NameFault}

pub then-ok : {A B : Type 0} (P : A → Type 0) (Q : B → Type 0) (m : Result A NameFault) (f : A → Result B NameFault) → IfOk m P → ((x : A) → P x → IfOk (f x) Q) → IfOk (m >>= f) Q
then-ok P Q (Ok x) f h k = k x h
then-ok P Q (Err e) f h k = tt

-- a step whose condition holds, or another one
pub if-ok : {A : Type 0} (P : A → Type 0) (b : Bool) (m n : Result A NameFault) → (b ≡ true → IfOk m P) → IfOk n P → IfOk (if b then m else n) P
if-ok P true m n h k = h refl
if-ok P false m n h k = k

-- what holds for each index holds for all at once
pub each-ok : {A I : Type 0} (P : I → A → Type 0) (m : Result A NameFault) → ((i : I) → IfOk m (P i)) → IfOk m (λ x. (i : I) → P i x)
each-ok P (Ok x) h = h
each-ok P (Err e) h = tt
