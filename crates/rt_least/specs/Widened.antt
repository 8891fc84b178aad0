-- A clause with the negations of the rows that its question takes as kept.
use Rattle.std.specs.Prelude.{not, List, ◌++◌, filter}
use Rattle.rt_clause.specs.Literal.{Literal}
use Rattle.rt_clause.specs.Lists.{has}

-- those literals that the clause does not have, and then the clause
abbrev pub widened : List Literal → List Literal → List Literal
widened lits clause = filter (λ l. not (has clause l)) lits ++ clause
