-- Lemmas on one field.
use Rattle.std.proofs.Common.{◌≡◌, ℕ, List, [], ◌∷◌, length, refl, true, false, Ok, Err, Bool, ◌==◌}
use Rattle.std.proofs.lemmas.Str.{IsUtf8-from_is_utf8, is_utf8-from_IsUtf8}
use Rattle.std.specs.Str.{IsUtf8, is_utf8}
use Rattle.rt_load.specs.Loaded.{text_cell}
use Rattle.rt_value.specs.declared.value.Value.TheVariants as value
use Rattle.rt_load.specs.declared.fault.LoadFault.{LoadFault}

pub text-read : (fault : LoadFault) (field text : List ℕ) → (length field == 0) ≡ false → IsUtf8 field → text ≡ field → text_cell fault field ≡ Ok (value.Text text)
text-read fault [] text e u t = absurd (cc)
text-read fault (b ∷ bs) text e u t = rw (t, is_utf8-from_IsUtf8 (b ∷ bs) u) refl

not-utf8 : (field : List ℕ) (b : Bool) → is_utf8 field ≡ b → (IsUtf8 field → ⊥) → b ≡ false
not-utf8 field true e n = absurd (n (IsUtf8-from_is_utf8 field e))
not-utf8 field false e n = refl

pub text-bad : (fault : LoadFault) (field : List ℕ) → (length field == 0) ≡ false → (IsUtf8 field → ⊥) → text_cell fault field ≡ Err fault
text-bad fault [] e n = absurd (cc)
text-bad fault (b ∷ bs) e n = rw (not-utf8 (b ∷ bs) (is_utf8 (b ∷ bs)) refl n) refl
