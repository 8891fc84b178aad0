-- Marks of a set of literals: one is set, all are taken away.
use Rattle.std.proofs.Common.{◌≡◌, ℕ, ◌<◌, ◌≤◌, Bool, true, false, List, [], length, drop, get_or, sym, ap, ◌∙◌, inl, inr, arith}
use Rattle.std.proofs.Math.ListN.{get_or-eq_default}
use Rattle.std.proofs.lemmas.Bool.Decides.{nat_tests}
use Rattle.std.specs.BTreeMap.{is_at}
use Rattle.std.specs.List.{list_any}
use Rattle.std.specs.Ordering.{nat_cmp}
use Rattle.std.specs.Prelude.{nat_lt, ◌⊎◌}
use Rattle.rt_clause.specs.Literal.{Literal}
use Rattle.rt_clause.specs.Lists.{has}
use Rattle.rt_clause.specs.Packed.{packed}
use Rattle.rt_clause.proofs.Bools.{bool-cases}
use Rattle.rt_derive.specs.Marking.{marked_at, AreMarks}

-- a literal has a mark or a number in the ordered set
pub near : (marks : List Bool) (far : List ℕ) (l : Literal) → packed l < length marks → marked_at marks far l ≡ get_or marks (packed l) false
near marks far l h = grind (arith, nat_tests, h)

pub away : (marks : List Bool) (far : List ℕ) (l : Literal) → length marks ≤ packed l → marked_at marks far l ≡ list_any (is_at (nat_cmp (packed l))) far
away marks far l h = grind (arith, nat_tests, h)

side : (n m : ℕ) → (n < m) ⊎ (m ≤ n)
side n m = elim (bool-cases (nat_lt n m)) [ inl t ↦ inl (grind (arith, nat_tests)) | inr f ↦ inr (grind (arith, nat_tests)) ]

-- what still has a mark is among the literals from the i-th on
abbrev pub AreLeft : List Bool → List Literal → ℕ → Type 0
AreLeft marks ls i = (l : Literal) → get_or marks (packed l) false ≡ true → has (drop i ls) l ≡ true

-- marks that are put at the end are not set
pub widened : (old new : List Bool) (far : List ℕ) (ls : List Literal) → AreMarks old far ls → ls ≡ [] → length old ≤ length new → ((n : ℕ) → get_or new n false ≡ get_or old n false) → AreMarks new far ls
widened old new far ls m e longer same l = elim (side (packed l) (length old)) [
  | inl t ↦ near new far l (omega (arith, t, longer)) ∙ same (packed l) ∙ sym (near old far l t) ∙ m l
  | inr t ↦ elim (side (packed l) (length new)) [
    | inl s ↦ near new far l s ∙ same (packed l) ∙ get_or-eq_default old false t ∙ ap (λ (xs : List Literal). has xs l) (sym e)
    | inr s ↦ away new far l s ∙ sym (away old far l t) ∙ m l
  ]
]
