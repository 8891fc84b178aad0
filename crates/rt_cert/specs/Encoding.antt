-- The clauses of the counterexamples of an input.
use Rattle.std.specs.Prelude.{◌≡◌, ℕ, Bool, true, List, Option, None, Some}
use Rattle.rt_value.specs.Keep.{size}
use Rattle.rt_schema.specs.Given.{places}
use Rattle.rt_clause.specs.Literal.{Literal}
use Rattle.rt_input.specs.Accepted.{Accepted}
use Rattle.rt_top.specs.Smallest.{is_counterexample}
use Rattle.rt_cert.specs.Encodes.{Encodes}

-- the number of rows that are to be beaten: those of a choice, or none to speak of
abbrev pub most_of : Option (List Bool) → ℕ
most_of None = 0
most_of (Some keep) = size keep

-- the lines are those of the counterexamples of an input, and what is assumed asks for fewer rows
-- than a choice keeps
abbrev pub IsEncoding : Accepted → Option (List Bool) → List (List Literal) → Option Literal → Type 0
IsEncoding input keep lines assume = Encodes (places input.given.tables) (λ s. is_counterexample input s ≡ true) (most_of keep) lines assume
