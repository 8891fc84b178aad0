-- What is left of a line, and how the checker says it.
use Rattle.std.specs.Prelude.{◌≡◌, true, false, List, [], ◌∷◌}
use Rattle.std.specs.List.{list_all}
use Rattle.rt_clause.specs.Literal.{Literal, lit_eq}
use Rattle.rt_derive.specs.declared.checker.Rest.{Rest}
use Rattle.rt_derive.specs.declared.checker.Rest.TheVariants.{Nothing, One, Several}

-- no literal, one alone, or two different ones
abbrev pub IsRest : List Literal → Rest → Type 0
IsRest ls Nothing = ls ≡ []
IsRest ls (One l) = (more : List Literal) × (ls ≡ l ∷ more) × (list_all (lit_eq l) more ≡ true)
IsRest ls Several = (l : Literal) × (more : List Literal) × (ls ≡ l ∷ more) × (list_all (lit_eq l) more ≡ false)
