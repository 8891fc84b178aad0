-- Soundness and values as entries are added at the end.
use Rattle.std.proofs.Common.{◌≡◌, ℕ, ◌+◌, ◌<◌, ◌^◌, zero, suc, Bool, true, false, List, [], ◌∷◌, ◌++◌, length, length-append, slice_get, take, Some, refl, sym, subst, ap, arith, rules, ◌∙◌, ◌⊎◌, inl, inr}
use Rattle.std.proofs.lemmas.List.{append-nil}
use Rattle.std.proofs.Math.Seq.{take-append_seam}
use Rattle.std.specs.List.{list_any}
use Rattle.std.specs.Bool.{if◌then◌else◌}
use Rattle.rt_formula.specs.declared.entry.Entry.{Entry}
use Rattle.rt_formula.specs.contracts.entry.EntryPartialEq.TheImpl.{eq-value}
use Rattle.rt_formula.specs.Shared.{Shared, IsSound, Fits, IsGrown, truncated}

-- the derived `==` decides
pub eq_same : (x y : Entry) → eq-value.it x y ≡ true → x ≡ y
eq_same x y h = search rules

pub eq_refl : (x : Entry) → eq-value.it x x ≡ true
eq_refl x = search rules

pub slice_get_snoc_cases : {X : Type 0} (xs : List X) (e d : X) (i : ℕ) → slice_get (xs ++ e ∷ []) i ≡ Some d
    → (slice_get xs i ≡ Some d) ⊎ ((i ≡ length xs) × (d ≡ e))
slice_get_snoc_cases [] e d zero h = inr (refl, cc)
slice_get_snoc_cases [] e d (suc i) h = absurd (cc)
slice_get_snoc_cases (x ∷ xs) e d zero h = inl h
slice_get_snoc_cases (x ∷ xs) e d (suc i) h = elim (slice_get_snoc_cases xs e d i h) [ inl a ↦ inl a | inr b ↦ inr (grind arith, b.1) ]

pub slice_get_kept : {X : Type 0} (xs ys : List X) (d : X) (i : ℕ) → slice_get xs i ≡ Some d → slice_get (xs ++ ys) i ≡ Some d
slice_get_kept [] ys d zero h = absurd (cc)
slice_get_kept [] ys d (suc i) h = absurd (cc)
slice_get_kept (x ∷ xs) ys d zero h = h
slice_get_kept (x ∷ xs) ys d (suc i) h = slice_get_kept xs ys d i h

pub push_sound : (rows : ℕ) (ks : List Entry) (e : Entry) → IsSound (record { rows = rows; entries = ks }) → Fits rows (length ks) e
    → ((i : ℕ) → slice_get ks i ≡ Some e → ⊥) → length ks + 1 < 2 ^ 60 → IsSound (record { rows = rows; entries = ks ++ e ∷ [] })
push_sound rows ks e s f new room = record {
  yes = slice_get_kept ks (e ∷ []) _ 0 s.yes;
  no = slice_get_kept ks (e ∷ []) _ 1 s.no;
  fits = λ i d h. elim (slice_get_snoc_cases ks e d i h) [
    | inl a ↦ s.fits i d a
    | inr b ↦ let P : ℕ → Type 0 = λ n. Fits rows n d in subst P (sym b.0) (let Q : Entry → Type 0 = λ x. Fits rows (length ks) x in subst Q (sym b.1) f)
  ];
  few = (let l = length-append ks (e ∷ []) in omega (arith, l, room));
  distinct = λ i j d h k. elim (slice_get_snoc_cases ks e d i h) [
    | inl a ↦ elim (slice_get_snoc_cases ks e d j k) [
      | inl b ↦ s.distinct i j d a b
      | inr b ↦ absurd (new i (a ∙ ap Some b.1))
    ]
    | inr a ↦ elim (slice_get_snoc_cases ks e d j k) [
      | inl b ↦ absurd (new j (b ∙ ap Some a.1))
      | inr b ↦ a.0 ∙ sym b.0
    ]
  ];
}

-- what no test finds is not there
pub not_there : (ks : List Entry) (e : Entry) → list_any (eq-value.it e) ks ≡ false → (i : ℕ) → slice_get ks i ≡ Some e → ⊥
not_there [] e h zero k = cc
not_there [] e h (suc i) k = cc
not_there (x ∷ xs) e h zero k = let r = eq_refl e in grind (arith, r)
not_there (x ∷ xs) e h (suc i) k = not_there xs e (grind arith) i k

pub insert_sound : (rows : ℕ) (ks new : List Entry) (e : Entry) → IsSound (record { rows = rows; entries = ks }) → Fits rows (length ks) e → length ks + 1 < 2 ^ 60
    → new ≡ (if list_any (eq-value.it e) ks then ks else ks ++ e ∷ []) → IsSound (record { rows = rows; entries = new })
insert_sound rows ks new e s f room h =
    let P : List Entry → Type 0 = λ es. IsSound (record { rows = rows; entries = es }) in
    let both : (b : Bool) → list_any (eq-value.it e) ks ≡ b → P (if b then ks else ks ++ e ∷ []) =
    elim [ true ↦ λ _. s | false ↦ λ no. push_sound rows ks e s f (not_there ks e no) room ] in
    subst P (sym h) (both (list_any (eq-value.it e) ks) refl)

pub insert_grown : (rows : ℕ) (ks new : List Entry) (e : Entry) → new ≡ (if list_any (eq-value.it e) ks then ks else ks ++ e ∷ [])
    → IsGrown (record { rows = rows; entries = ks }) (record { rows = rows; entries = new })
insert_grown rows ks new e h =
    let P : List Entry → Type 0 = λ es. IsGrown (record { rows = rows; entries = ks }) (record { rows = rows; entries = es }) in
    let both : (b : Bool) → P (if b then ks else ks ++ e ∷ []) =
    elim [ true ↦ record { rows = refl; more = []; entries = sym (append-nil ks) } | false ↦ record { rows = refl; more = e ∷ []; entries = refl } ] in
    subst P (sym h) (both (list_any (eq-value.it e) ks))

-- what is grown is taken back
pub taken_back : (old new : Shared) → IsGrown old new → truncated (length old.entries) new ≡ old
taken_back old new g =
    let kept : take (length old.entries) new.entries ≡ old.entries = ap (take (length old.entries)) g.entries ∙ take-append_seam old.entries g.more in
    let rows : new.rows ≡ old.rows = g.rows in
    rw (kept, rows) refl
