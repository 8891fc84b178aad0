-- The texts of verdicts and of what stops a command of `ratest`.
use Rattle.std.specs.Prelude.{ℕ, Bool, List, Option, None, Some, codes}
use Rattle.rt_eval.specs.Distinct.{distinct}
use Rattle.rt_print.specs.Summary.{made_text}
use Rattle.rt_print.specs.Texts.{spent_text, witness_text}
use Rattle.rt_print.specs.declared.verdict.MadeVerdict.TheVariants as made
use Rattle.rt_value.specs.Keep.{size}
use Rattle.rt_input.specs.Accepted.{Accepted}
use Rattle.rt_input.specs.Texts.{stopped_text}
use Rattle.rt_input.specs.declared.outcome.Outcome.{Outcome}
use Rattle.rt_input.specs.declared.outcome.Spent.{Spent}
use Rattle.rt_top.specs.Smallest.{answer_at}

abbrev pub usage_text : List ℕ
usage_text = codes "usage: ratest SCHEMA DATADIR QUERY1 QUERY2 [--conflicts N] [--work N]\n       ratest made N [--conflicts N] [--work N]\n"

abbrev pub refusal_text : ℕ → Outcome → List ℕ
refusal_text most o = stopped_text usage_text most o

-- ---- verdicts; a generated input has a summary instead

abbrev pub agree_text : Option ℕ → List ℕ
agree_text None = codes "agree\n"
agree_text (Some n) = made_text n made.Agree

abbrev pub agree_of : Accepted → List ℕ
agree_of input = agree_text input.made

-- the kept rows, and the answers of the two queries on them as sets
abbrev pub rows_text : Accepted → List Bool → List ℕ
rows_text input keep = witness_text input.schema input.given.tables keep
    (distinct (answer_at input input.left keep)) (distinct (answer_at input input.right keep))

abbrev pub size_text : Option ℕ → List Bool → List ℕ → List ℕ
size_text None keep text = text
size_text (Some n) keep text = made_text n (made.Size (size keep))

abbrev pub witness_of : Accepted → List Bool → List ℕ
witness_of input keep = size_text input.made keep (rows_text input keep)

abbrev pub budget_text : Option ℕ → ℕ → List ℕ → List ℕ
budget_text None budget text = text
budget_text (Some n) budget text = made_text n (made.Undecided budget)

abbrev pub spent_of : Accepted → Spent → List ℕ
spent_of input s = budget_text input.made s.budget (spent_text input.schema input.given.tables s.budget s.best)
