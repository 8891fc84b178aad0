-- Counterexamples, and the smallest of them (Miao, Roy and Yang, SIGMOD 2019): lawful
-- sub-instances at which the answers of two queries differ.
use Rattle.std.specs.Prelude.{◌≡◌, ◌≤◌, Bool, true, false, not, ◌&&◌, List, length}
use Rattle.rt_value.specs.Keep.{size, ComesBefore}
use Rattle.rt_schema.specs.Given.{Rows, places}
use Rattle.rt_schema.specs.Kept.{kept}
use Rattle.rt_schema.specs.Law.{lawful}
use Rattle.rt_algebra.specs.Answer.{plain, same_rows}
use Rattle.rt_algebra.specs.declared.typed.Typed.{Typed}
use Rattle.rt_input.specs.Accepted.{Accepted}

-- a choice has one Bool a place
abbrev pub IsChoice : Accepted → List Bool → Type 0
IsChoice input keep = length keep ≡ places input.given.tables

-- the kept rows meet the rules of the schema
abbrev pub lawful_at : Accepted → List Bool → Bool
lawful_at input keep = lawful input.schema (kept input.given.tables keep)

-- the answer of a query on the kept rows
abbrev pub answer_at : Accepted → Typed → List Bool → Rows
answer_at input typed keep = plain typed.query (kept input.given.tables keep)

-- the answers of the two queries on the kept rows are different sets
abbrev pub differ_at : Accepted → List Bool → Bool
differ_at input keep = not (same_rows (answer_at input input.left keep) (answer_at input input.right keep))

-- the kept rows are a counterexample
unfoldable pub is_counterexample : Accepted → List Bool → Bool
is_counterexample input keep = lawful_at input keep && differ_at input keep

-- a choice at which the kept rows are a counterexample
abbrev pub IsCounterexample : Accepted → List Bool → Type 0
IsCounterexample input keep = IsChoice input keep × (is_counterexample input keep ≡ true)

-- no counterexample keeps fewer rows
abbrev pub HasFewest : Accepted → List Bool → Type 0
HasFewest input keep = (t : List Bool) → IsCounterexample input t → size keep ≤ size t

-- no counterexample that keeps as many rows comes before it
unfoldable pub IsFirst : Accepted → List Bool → Type 0
IsFirst input keep = (t : List Bool) → IsCounterexample input t → size t ≡ size keep → ComesBefore t keep → ⊥

-- a counterexample; no other keeps fewer rows, and none that keeps as many comes before it
pub record IsSmallest (input : Accepted) (keep : List Bool) : Type 0 where
  pub counterexample : IsCounterexample input keep
  pub smallest : HasFewest input keep
  pub first : IsFirst input keep

-- there is no counterexample
abbrev pub Agrees : Accepted → Type 0
Agrees input = (t : List Bool) → IsChoice input t → is_counterexample input t ≡ false
