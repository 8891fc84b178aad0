-- What holds of a result's value where it is there.
use Rattle.std.proofs.Common.{Result, Ok, Err, IfOk}

pub if-ok : {T E : Type 0} (P Q : T → Type 0) (r : Result T E) → ((x : T) → P x → Q x) → IfOk r P → IfOk r Q
if-ok P Q (Ok x) f p = f x p
if-ok P Q (Err e) f p = tt

pub if-ok-both : {T E : Type 0} (P Q R : T → Type 0) (r : Result T E) → ((x : T) → P x → Q x → R x) → IfOk r P → IfOk r Q → IfOk r R
if-ok-both P Q R (Ok x) f p q = f x p q
if-ok-both P Q R (Err e) f p q = tt
