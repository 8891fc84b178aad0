-- What a clause is under a trail.
use Rattle.std.specs.Prelude.{◌≡◌, true, List}
use Rattle.rt_clause.specs.Literal.{Literal}
use Rattle.rt_clause.specs.Lists.{has, is_false}
pub use Rattle.rt_clause.specs.Lists.{IsBelow, AreBelow}

-- each literal of the clause is false
abbrev pub IsBroken : List Literal → List Literal → Type 0
IsBroken set clause = (k : Literal) → has clause k ≡ true → is_false set k ≡ true

-- some literal of the clause is true
abbrev pub HasTrue : List Literal → List Literal → Type 0
HasTrue set clause = (l : Literal) × (has clause l ≡ true) × (has set l ≡ true)
