-- Lines that a check has used as units, and what using one comes to.
use Rattle.std.specs.Prelude.{◌≡◌, ℕ, Bool, true, List, ◌∷◌, Option, Some, None}
use Rattle.std.specs.BTreeMap.{is_at}
use Rattle.std.specs.List.{list_all, list_any}
use Rattle.std.specs.Ordering.{nat_cmp}
use Rattle.rt_clause.specs.Literal.{Literal, lit_eq}
use Rattle.rt_clause.specs.Lists.{has, left, line_at, propagates}

-- what is left of the line is one literal, which the set has: using it once more adds nothing
pub record IsUsedUp (lines : List (List Literal)) (set : List Literal) (h : ℕ) : Type 0 where
  pub unit : Literal
  pub more : List Literal
  pub parts : left set (line_at lines h) ≡ unit ∷ more
  pub same : list_all (lit_eq unit) more ≡ true
  pub held : has set unit ≡ true

abbrev pub AreUsedUp : List (List Literal) → List Literal → List ℕ → Type 0
AreUsedUp lines set used = (h : ℕ) → list_any (is_at (nat_cmp h)) used ≡ true → IsUsedUp lines set h

-- the answer that the line gives, or that the set is now another for the hints that follow
abbrev pub Takes : List (List Literal) → List Literal → List Literal → ℕ → Option Bool → Type 0
Takes lines old new h (Some answer) = (hints : List ℕ) → propagates lines old (h ∷ hints) ≡ answer
Takes lines old new h None = (hints : List ℕ) → propagates lines old (h ∷ hints) ≡ propagates lines new hints
