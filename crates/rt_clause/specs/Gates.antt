-- Gates: clauses by which one literal is true exactly where all of several are (Tseitin's
-- encoding), and lines that go on from others over more variables.
use Rattle.std.specs.Prelude.{◌≡◌, ℕ, ◌<◌, ◌≤◌, Bool, false, List, [], ◌∷◌, ◌++◌, map, length, slice_index_or}
use Rattle.rt_clause.specs.Literal.{Literal, negated}
use Rattle.rt_clause.specs.Lists.{AreBelow, Determined}
use Rattle.rt_clause.specs.Models.{IsModel}

-- out is true exactly where all of the literals are
abbrev pub gate : Literal → List Literal → List (List Literal)
gate out lits = map (λ l. negated out ∷ l ∷ []) lits ++ (out ∷ map negated lits) ∷ []

-- the two lists give each variable below n the same Bool
abbrev pub AgreeBelow : ℕ → List Bool → List Bool → Type 0
AgreeBelow n xs ys = (v : ℕ) → v < n → slice_index_or xs v false ≡ slice_index_or ys v false

-- New lines over variables below m go on from old ones over variables below n. Each model of the
-- old ones goes on to one of the new, and what determined the old variables determines the new.
pub record Extends (old : List (List Literal)) (n : ℕ) (new : List (List Literal)) (m : ℕ) : Type 0 where
  pub more : List (List Literal)
  pub lines : new ≡ old ++ more
  pub wider : n ≤ m
  pub below : AreBelow n old → AreBelow m new
  pub extends : AreBelow n old → (bools : List Bool) → length bools ≡ n → IsModel old bools → (rest : List Bool) × (length (bools ++ rest) ≡ m) × IsModel new (bools ++ rest)
  pub determined : (k : ℕ) → Determined old k n → Determined new k m
