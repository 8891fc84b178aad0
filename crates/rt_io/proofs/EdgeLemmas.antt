-- What calls of the outside, one after the other, do together.
use Rattle.std.proofs.Common.{◌≡◌, ◌≢◌, ◌<◌, ◌++◌, ℕ, List, Option, Some, Bool, false, true, is_err, OnOk, OnErr, Result, None, Ok, Err, IfSome, refl, sym, subst, ap, ◌∙◌, le_trans, le_of_eq, length, arith}
use Rattle.std.proofs.lemmas.List.{length-append}
use Rattle.rt_io.specs.Edge.{Rose, OnlyRises, NoneFell}

pub never : {T E X : Type 0} (t : T) (e : E) → Ok t ≡ Err e → X
never t e h = cc

pub on_ok : {T E P : Type 0} (r : Result T E) (b : Bool) → b ≡ is_err r → b ≡ false → OnOk r P → P
on_ok (Ok t) b is not h = h
on_ok (Err e) b is not h = cc

pub on_err : {T E P : Type 0} (r : Result T E) (b : Bool) → b ≡ is_err r → b ≡ true → OnErr r P → P
on_err (Ok t) b is failed h = cc
on_err (Err e) b is failed h = h

-- what is said of the current file's name, where that name is known
pub at_name : (o : Option (List ℕ)) (name : List ℕ) (P : List ℕ → Type 0) → o ≡ Some name → IfSome o P → P name
at_name o name P is h = subst (λ x. IfSome x P) is h

pub rose_since : (first old new : ℕ) → old ≡ first → Rose old new → Rose first new
rose_since first old new is h = subst (λ n. Rose n new) is h

other_name : (o : Option (List ℕ)) (name other : List ℕ) → o ≡ Some name → o ≡ Some other → other ≡ name
other_name o name other is at = cc

-- one more call at this file
pub rises_on : (name : List ℕ) (o : Option (List ℕ)) (first old new : List ℕ → ℕ) → o ≡ Some name → OnlyRises name first old → ((other : List ℕ) → o ≢ Some other → new other ≡ old other) → NoneFell old new → OnlyRises name first new
rises_on name o first old new is before same rises = record {
  same = λ other not. same other (λ at. not (other_name o name other is at)) ∙ before.same other not;
  rises = λ any. le_trans (before.rises any) (rises any);
}

pub longer : (max : ℕ) (bytes left held : List ℕ) → max < length bytes → held ≡ bytes ++ left → max < length held
longer max bytes left held above is = omega (arith, ap length is, length-append bytes left)

pub unchanged : (name : List ℕ) (old new : List ℕ → ℕ) → ((q : List ℕ) → new q ≡ old q) → OnlyRises name old new
unchanged name old new same = record { same = λ other _. same other; rises = λ any. le_of_eq (sym (same any)) }

-- a call that changed no count, and then one at this name
pub rose_after : (at name : List ℕ) (first old new : List ℕ → ℕ) → at ≡ name → ((q : List ℕ) → old q ≡ first q) → Rose (old at) (new at) → Rose (first name) (new name)
rose_after at name first old new is same h = rose_since (first name) (old name) (new name) (same name) (subst (λ x. Rose (old x) (new x)) is h)

pub rises_after : (at name : List ℕ) (first old new : List ℕ → ℕ) → at ≡ name → ((q : List ℕ) → old q ≡ first q) → OnlyRises at old new → OnlyRises name first new
rises_after at name first old new is same h =
    let here = subst (λ x. OnlyRises x old new) is h in
    record { same = λ other not. here.same other not ∙ same other; rises = λ any. le_trans (le_of_eq (sym (same any))) (here.rises any) }
