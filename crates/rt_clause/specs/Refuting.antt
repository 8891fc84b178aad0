-- Lines that refute: no model of them makes what is assumed true, or what is assumed and asked.
use Rattle.std.specs.Prelude.{◌≡◌, ℕ, ◌<◌, ◌⊎◌, Bool, true, ◌||◌, List, [], ◌∷◌, length, Option, Some, None, IsSomeAnd}
use Rattle.std.specs.List.{list_all}
use Rattle.rt_clause.specs.Literal.{Literal, negated, lit_eq}
use Rattle.rt_clause.specs.Lists.{line_at}
use Rattle.rt_clause.specs.declared.denial.Denial.{Denial}
use Rattle.rt_clause.specs.declared.denial.Denial.TheVariants.{Opposite, Line}

-- the empty clause, or the negation of what is assumed alone
abbrev pub Refutes : Option Literal → List Literal → Type 0
Refutes assume clause = (clause ≡ []) ⊎ IsSomeAnd assume (λ a. clause ≡ negated a ∷ [])

abbrev pub IsRefuted : List (List Literal) → Option Literal → Type 0
IsRefuted lines assume = (i : ℕ) × (i < length lines) × Refutes assume (line_at lines i)

-- whether a literal is the negation of the question or of what is assumed
abbrev pub is_negation : Option Literal → Literal → Literal → Bool
is_negation None question l = lit_eq l (negated question)
is_negation (Some a) question l = lit_eq l (negated question) || lit_eq l (negated a)

-- why no model makes what is assumed and the question true
abbrev pub IsDenial : List (List Literal) → Option Literal → Literal → Denial → Type 0
IsDenial lines assume question Opposite = assume ≡ Some (negated question)
IsDenial lines assume question (Line i) = (i < length lines) × (list_all (is_negation assume question) (line_at lines i) ≡ true)

abbrev pub IsDenied : List (List Literal) → Option Literal → Literal → Type 0
IsDenied lines assume question = (denial : Denial) × IsDenial lines assume question denial
