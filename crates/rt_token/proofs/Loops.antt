-- A loop that reads a list: its invariant, and what each way out of the loop gives.
use Rattle.std.proofs.Common.{◌≡◌, ◌∙◌, ◌≤◌, ◌<◌, sym, ap, ℕ, zero, suc, List, [], ◌∷◌, ◌++◌, length, refl, Bool, true, false, Option, Some, None, Err, append_assoc, arith}
use Rattle.std.proofs.lemmas.List.{append-nil}
use Rattle.std.specs.Borrow.{Bor}
use Rattle.std.specs.Prelude.{IsErrAnd, Result}
use Rattle.std.proofs.lemmas.Result.{err_from_is_err_and}
use Rattle.rt_token.specs.Terminals.{Kinds}
use Rattle.rt_token.specs.Readers.{Parser, Step, many, ◌>>=◌, list_of, step_after, step_when}
use Rattle.rt_token.specs.Reads.{Reads}
use Rattle.rt_token.specs.declared.read_fault.ReadFault.{ReadFault}
use Rattle.rt_token.specs.declared.read_fault.ReadFault.TheVariants.{Syntax, NoMemory}
use Rattle.rt_token.specs.declared.fixed.Fixed.{Fixed}
use Rattle.rt_token.specs.Terminals.{after}
use Rattle.rt_token.proofs.FrontLemmas.{after-sound}
use Rattle.rt_token.proofs.ListLaws.{StepLaw, step-shorter}

-- what is read, after those that were read before
abbrev pub with_front : {A : Type 0} → List A → Option (List A × Kinds) → Option (List A × Kinds)
with_front front o = o >>= λ q. Some (front ++ q.0, q.1)

-- the items so far and those to be read of the rest are those of all the tokens
pub record Goes {A : Type 0} (step : Step A) (items : List A) (rest start : Kinds) : Type 0 where
  pub turns : ℕ
  pub enough : length rest ≤ turns
  pub so_far : with_front items (many step turns rest) ≡ many step (length start) start

front-more : {A : Type 0} (front : List A) (x : A) (o : Option (List A × Kinds)) → with_front front (o >>= λ q. Some (x ∷ q.0, q.1)) ≡ with_front (front ++ x ∷ []) o
front-more front x None = refl
front-more {A = A} front x (Some q) = ap (λ (l : List A). Some (l, q.1)) (sym (append_assoc front (x ∷ []) q.0))

more-of : {A : Type 0} (step : Step A) (items : List A) (rest start more : Kinds) (x : A) (n : ℕ) → length rest ≤ n → with_front items (many step n rest) ≡ many step (length start) start
    → step rest ≡ Some (Some (x, more)) → length more < length rest → Goes step (items ++ x ∷ []) more start
unfolding many
more-of step items rest start more x zero l f e s = absurd (omega arith)
more-of step items rest start more x (suc n) l f e s = record { turns = n; enough = omega arith; so_far = sym (front-more items x (many step n more)) ∙ rw e at f }

pub goes-more : {A : Type 0} (step : Step A) (items : List A) (rest start more : Kinds) (x : A) → Goes step items rest start → step rest ≡ Some (Some (x, more)) → length more < length rest
    → Goes step (items ++ x ∷ []) more start
goes-more step items rest start more x g e s = more-of step items rest start more x g.turns g.enough g.so_far e s

end-of : {A : Type 0} (step : Step A) (items : List A) (rest : Kinds) (n : ℕ) → step rest ≡ None → with_front items (many step n rest) ≡ Some (items, rest)
unfolding many
end-of step items rest zero e = rw append-nil refl
end-of step items rest (suc n) e = rw e (rw append-nil refl)

pub goes-end : {A : Type 0} (step : Step A) (items : List A) (rest start : Kinds) → Goes step items rest start → step rest ≡ None → many step (length start) start ≡ Some (items, rest)
goes-end step items rest start g e = sym g.so_far ∙ end-of step items rest g.turns e

fail-of : {A : Type 0} (step : Step A) (items : List A) (rest : Kinds) (n : ℕ) → length rest ≤ n → 0 < length rest → step rest ≡ Some None → with_front items (many step n rest) ≡ None
unfolding many
fail-of step items rest zero l p e = absurd (omega arith)
fail-of step items rest (suc n) l p e = rw e refl

pub goes-fails : {A : Type 0} (step : Step A) (items : List A) (rest start : Kinds) → Goes step items rest start → 0 < length rest → step rest ≡ Some None → many step (length start) start ≡ None
goes-fails step items rest start g p e = sym g.so_far ∙ fail-of step items rest g.turns g.enough p e

-- an error is passed on
pub passes : {A B : Type 0} (e : ReadFault) (o : Option (A × Kinds)) (d : Option (B × Kinds)) → Reads {A = A} (Err e) o → (o ≡ None → d ≡ None) → Reads {A = B} (Err e) d
passes (Syntax left) o d r f = f r
passes NoMemory o d r f = tt

-- the error that `?` returns is the one that it met
pub passed-on : {A : Type 0} (r : Result (A × Bor Kinds) ReadFault) (e : ReadFault) (o : Option (A × Kinds)) → IsErrAnd r (λ x. x ≡ e) → Reads {A = A} (Err e) o → Reads r o
passed-on r e o f a = let p = err_from_is_err_and r f in rw (p.1, p.2) a

-- ---- loops over `step_after`

after-step : {A : Type 0} (f : Fixed) (p : Parser A) (rest next : Kinds) (o : Option (A × Kinds)) → Some next ≡ after f rest → p next ≡ o → step_after f p rest ≡ Some o
after-step {A = A} f p rest next o a e = rw (← a) (ap (λ (o : Option (A × Kinds)). Some o) e)

pub after-fails : {A : Type 0} (f : Fixed) (p : Parser A) (items : List A) (rest next start : Kinds) (e : ReadFault) → Goes (step_after f p) items rest start → Some next ≡ after f rest
    → Reads {A = A} (Err e) (p next) → Reads {A = List A} (Err e) (list_of (step_after f p) start)
after-fails f p items rest next start e g a r = passes e (p next) (list_of (step_after f p) start) r
    (λ h. goes-fails (step_after f p) items rest start g (omega (arith, ap length (after-sound f rest next (sym a)))) (after-step f p rest next None a h))

pub after-more : {A : Type 0} {c : Bool} (f : Fixed) (p : Parser A) (sp : A → Kinds) (n low high : ℕ) → StepLaw c (step_after f p) sp n low high
    → (items : List A) (rest next start more : Kinds) (x : A) → Goes (step_after f p) items rest start → Some next ≡ after f rest → p next ≡ Some (x, more) → Goes (step_after f p) (items ++ x ∷ []) more start
after-more f p sp n low high l items rest next start more x g a e =
    let s = after-step f p rest next (Some (x, more)) a e in
    goes-more (step_after f p) items rest start more x g s (step-shorter (step_after f p) sp n low high l rest x more s)

pub after-shorter : {A : Type 0} {c : Bool} (f : Fixed) (p : Parser A) (sp : A → Kinds) (n low high : ℕ) → StepLaw c (step_after f p) sp n low high
    → (rest next more : Kinds) (x : A) → Some next ≡ after f rest → p next ≡ Some (x, more) → length more < length rest
after-shorter f p sp n low high l rest next more x a e = step-shorter (step_after f p) sp n low high l rest x more (after-step f p rest next (Some (x, more)) a e)

pub after-ends : {A : Type 0} (f : Fixed) (p : Parser A) (items : List A) (rest start : Kinds) → Goes (step_after f p) items rest start → None ≡ after f rest → list_of (step_after f p) start ≡ Some (items, rest)
after-ends f p items rest start g a = goes-end (step_after f p) items rest start g (rw (← a) refl)

-- ---- loops over `step_when`

when-step : {A : Type 0} (test : Kinds → Bool) (p : Parser A) (rest : Kinds) (o : Option (A × Kinds)) → test rest ≡ true → p rest ≡ o → step_when test p rest ≡ Some o
when-step {A = A} test p rest o t e = rw t (ap (λ (o : Option (A × Kinds)). Some o) e)

there : (test : Kinds → Bool) → test [] ≡ false → (rest : Kinds) → test rest ≡ true → 0 < length rest
there test n [] t = cc
there test n (k ∷ ks) t = omega arith

pub when-fails : {A : Type 0} (test : Kinds → Bool) (p : Parser A) (items : List A) (rest start : Kinds) (e : ReadFault) → Goes (step_when test p) items rest start → test [] ≡ false → test rest ≡ true
    → Reads {A = A} (Err e) (p rest) → Reads {A = List A} (Err e) (list_of (step_when test p) start)
when-fails test p items rest start e g n t r = passes e (p rest) (list_of (step_when test p) start) r
    (λ h. goes-fails (step_when test p) items rest start g (there test n rest t) (when-step test p rest None t h))

pub when-more : {A : Type 0} {c : Bool} (test : Kinds → Bool) (p : Parser A) (sp : A → Kinds) (n low high : ℕ) → StepLaw c (step_when test p) sp n low high
    → (items : List A) (rest start more : Kinds) (x : A) → Goes (step_when test p) items rest start → test rest ≡ true → p rest ≡ Some (x, more) → Goes (step_when test p) (items ++ x ∷ []) more start
when-more test p sp n low high l items rest start more x g t e =
    let s = when-step test p rest (Some (x, more)) t e in
    goes-more (step_when test p) items rest start more x g s (step-shorter (step_when test p) sp n low high l rest x more s)

pub when-shorter : {A : Type 0} {c : Bool} (test : Kinds → Bool) (p : Parser A) (sp : A → Kinds) (n low high : ℕ) → StepLaw c (step_when test p) sp n low high
    → (rest more : Kinds) (x : A) → test rest ≡ true → p rest ≡ Some (x, more) → length more < length rest
when-shorter test p sp n low high l rest more x t e = step-shorter (step_when test p) sp n low high l rest x more (when-step test p rest (Some (x, more)) t e)

pub when-ends : {A : Type 0} (test : Kinds → Bool) (p : Parser A) (items : List A) (rest start : Kinds) → Goes (step_when test p) items rest start → test rest ≡ false → list_of (step_when test p) start ≡ Some (items, rest)
when-ends test p items rest start g t = goes-end (step_when test p) items rest start g (rw t refl)
