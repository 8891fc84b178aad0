-- Lemmas on the records of a text.
use Rattle.std.proofs.Common.{◌≡◌, ◌<◌, ◌≤◌, ◌+◌, ◌-◌, ap, subst, ℕ, List, [], ◌∷◌, ◌++◌, length, refl, true, false, Bool, arith, add-one, zero, suc, Some, None, cond}
use Rattle.csv.specs.Machine.{Read, ends_at_end, in_field, is_end, next_record, step, start_record, start_field, fields_after, field_after}
use Rattle.csv.specs.Reading.{default_config, records_from, records_next}
use Rattle.csv.specs.declared.parser.State.{State}
use Rattle.csv.specs.declared.parser.State.TheVariants as st
use Rattle.csv.specs.declared.parser.Action.{Action}

-- where a record ends, the reader is between records
record EndsWell (p : State × Action) : Type 0 where
  pub well : is_end p.1 ≡ true → ends_at_end p.0 ≡ false

chosen : (b : Bool) (x y : State × Action) → EndsWell x → EndsWell y → EndsWell (cond b x y)
chosen true x y p q = p
chosen false x y p q = q

goes_on : (s : State) (a : Action) → is_end a ≡ false → EndsWell (s, a)
goes_on s a e = record { well = λ h. absurd (cc) }

after_end-well : (b : Bool) (a : Action) → EndsWell (cond b st.AfterCr st.StartRecord, a)
after_end-well true a = record { well = λ h. refl }
after_end-well false a = record { well = λ h. refl }

in_field-well : (c : ℕ) → EndsWell (in_field default_config c)
in_field-well c = search (chosen, goes_on, after_end-well)

start_field-well : (c : ℕ) → EndsWell (start_field default_config c)
start_field-well c = search (chosen, goes_on, in_field-well)

start_record-well : (c : ℕ) → EndsWell (start_record default_config c)
start_record-well c = search (chosen, goes_on, start_field-well)

step-well : (s : State) (c : ℕ) → EndsWell (step default_config s c)
step-well st.StartRecord c = start_record-well c
step-well st.StartField c = start_field-well c
step-well st.InField c = in_field-well c
step-well st.InQuoted c = search (chosen, goes_on)
step-well st.InEscape c = search goes_on
step-well st.AfterQuote c = search (chosen, goes_on, in_field-well)
step-well st.InComment c = search (chosen, goes_on)
step-well st.AfterCr c = search (chosen, goes_on, start_record-well)

-- what a record leaves: a state between records, and no more than the text
abbrev Shorter : Read → ℕ → Type 0
Shorter p n = (ends_at_end p.1 ≡ false) × (length p.2 ≤ n - 1)

some-eq : {X : Type 0} (x y : X) → Some x ≡ Some y → x ≡ y
some-eq x y e = cc

shorter : (s : State) (fields : List (List ℕ)) (field xs : List ℕ) (p : Read) → next_record default_config s fields field xs ≡ Some p → Shorter p (length xs)
unfolding next_record
shorter s fields field [] p e = ended (ends_at_end s) p (fields ++ (field ∷ [])) e
  where
    ended : (b : Bool) (p : Read) (fs : List (List ℕ)) → (cond b (Some (fs, st.StartRecord, [])) None) ≡ Some p → Shorter p 0
    ended true p fs e = let q : (fs, st.StartRecord, []) ≡ p = some-eq _ _ e in subst (λ (p : Read). Shorter p 0) q (refl, omega arith)
    ended false p fs e = cc e
shorter s fields field (c ∷ rest) p e =
    elim (is_end (step default_config s c).1) as (λ b. is_end (step default_config s c).1 ≡ b → Shorter p (suc (length rest))) [
      | true ↦ λ h. let q : (fields_after (step default_config s c).1 fields field, (step default_config s c).0, rest) ≡ p = some-eq _ _ (rw h at e) in
          subst (λ (p : Read). Shorter p (suc (length rest))) q ((step-well s c).well h, omega arith)
      | false ↦ λ h. let r = shorter (step default_config s c).0 (fields_after (step default_config s c).1 fields field) (field_after (step default_config s c).1 c field) rest p (rw h at e) in
          (r.0, omega arith)
    ] refl

-- a record from between two records takes a byte at least
pub takes_bytes : (s : State) (xs : List ℕ) (p : Read) → ends_at_end s ≡ false → next_record default_config s [] [] xs ≡ Some p → length p.2 < length xs
unfolding next_record
takes_bytes s [] p b e = let n : None ≡ Some p = rw b at e in cc n
takes_bytes s (c ∷ rest) p b e = omega (arith, (shorter s [] [] (c ∷ rest) p e).1)

pub stays_between : (s : State) (xs : List ℕ) (p : Read) → next_record default_config s [] [] xs ≡ Some p → ends_at_end p.1 ≡ false
stays_between s xs p e = (shorter s [] [] xs p e).0

-- the number of turns does not matter, where it is above the number of bytes
pub turns : (n m : ℕ) (s : State) (xs : List ℕ) → ends_at_end s ≡ false → length xs < n → length xs < m → records_from default_config n s xs ≡ records_from default_config m s xs
unfolding records_from
turns zero m s xs b h k = absurd (omega arith)
turns (suc n) zero s xs b h k = absurd (omega arith)
turns (suc n) (suc m) s xs b h k = elim (next_record default_config s [] [] xs) as (λ o. next_record default_config s [] [] xs ≡ o → records_next (records_from default_config n) o ≡ records_next (records_from default_config m) o) [
  | None ↦ λ e. refl
  | Some p ↦ λ e. let lt = takes_bytes s xs p b e in ap (λ (rs : List (List (List ℕ))). p.0 ∷ rs) (turns n m p.1 p.2 (stays_between s xs p e) (omega arith) (omega arith))
] refl

-- the next record, and those after it
pub records-next : (s : State) (xs : List ℕ) (p : Read) → ends_at_end s ≡ false → next_record default_config s [] [] xs ≡ Some p
    → records_from default_config (length xs + 1) s xs ≡ p.0 ∷ records_from default_config (length p.2 + 1) p.1 p.2
unfolding records_from
records-next s xs p b e =
    let lt = takes_bytes s xs p b e in
    rw (add-one) (rw e (ap (λ (rs : List (List (List ℕ))). p.0 ∷ rs) (turns (length xs) (length p.2 + 1) p.1 p.2 (stays_between s xs p e) lt (omega arith))))

pub records-none : (s : State) (xs : List ℕ) → next_record default_config s [] [] xs ≡ None → records_from default_config (length xs + 1) s xs ≡ []
unfolding records_from
records-none s xs e = rw (add-one, e) refl
