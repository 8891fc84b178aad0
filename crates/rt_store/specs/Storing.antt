-- Where the literals of a clause stand.
use Rattle.std.specs.Prelude.{◌≡◌, ◌≤◌, List, length}
use Rattle.rt_clause.specs.Literal.{Literal}
use Rattle.rt_store.specs.declared.clause.Literals.{Literals}
use Rattle.rt_store.specs.declared.clause.Literals.TheVariants.{Three, Block}

-- the literals, wherever they stand
abbrev pub stored : Literals → List Literal
stored (Three lits) = lits
stored (Block ended lits) = lits

-- three stand in the clause itself, and in a block the last search ended within it
abbrev pub IsStored : Literals → Type 0
IsStored (Three lits) = length lits ≡ 3
IsStored (Block ended lits) = ended ≤ length lits
