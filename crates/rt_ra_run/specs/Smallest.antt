-- Counterexamples of two algebra texts: lawful sub-instances on which their answers differ, and the
-- smallest of them (Miao, Roy and Yang, SIGMOD 2019).
use Rattle.std.specs.Prelude.{◌≡◌, Bool, true, false, not, ◌&&◌, List}
use Rattle.rt_schema.specs.Given.{Rows, places}
use Rattle.rt_schema.specs.Kept.{kept}
use Rattle.rt_algebra.specs.Answer.{same_rows}
use Rattle.rt_least.specs.Least.{IsLeast, IsSpentBest}
use Rattle.rt_ra_tree.specs.declared.tree.RaText.{RaText}
use Rattle.rt_ra.specs.Answer.{ra_answer}
use Rattle.rt_input.specs.declared.outcome.Spent.{Spent}
use Rattle.rt_top.specs.Smallest.{IsChoice, lawful_at}
use Rattle.rt_ra_run.specs.declared.asked.Asked.{Asked}

-- the answer of a text on the kept rows
abbrev pub answer_at : Asked → RaText → List Bool → Rows
answer_at a text keep = ra_answer text a.input.schema (kept a.input.given.tables keep)

-- the answers of the two texts on the kept rows are different sets
abbrev pub differ_at : Asked → List Bool → Bool
differ_at a keep = not (same_rows (answer_at a a.left keep) (answer_at a a.right keep))

-- the kept rows are a counterexample
unfoldable pub is_counterexample : Asked → List Bool → Bool
is_counterexample a keep = lawful_at a.input keep && differ_at a keep

-- a choice at which the kept rows are a counterexample
abbrev pub IsCounterexample : Asked → List Bool → Type 0
IsCounterexample a keep = IsChoice a.input keep × (is_counterexample a keep ≡ true)

-- a counterexample; no other keeps fewer rows, and none that keeps as many comes before it
abbrev pub IsSmallest : Asked → List Bool → Type 0
IsSmallest a keep = IsLeast (IsCounterexample a) keep

-- there is no counterexample
abbrev pub Agrees : Asked → Type 0
Agrees a = (keep : List Bool) → IsChoice a.input keep → is_counterexample a keep ≡ false

-- the search for a counterexample was given up
abbrev pub IsGivenUp : Asked → Spent → Type 0
IsGivenUp a s = IsSpentBest (places a.input.given.tables) (IsCounterexample a) s.budget s.best s.least s.nogoods
