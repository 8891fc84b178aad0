-- A verdict on the queries that two texts become is one on the texts.
use Rattle.std.proofs.Common.{◌≡◌, ◌∙◌, ℕ, Bool, not, ◌&&◌, List, sym, ap}
use Rattle.std.specs.Prelude.{Option, Some, None, IfSome, IsSomeAnd}
use Rattle.rt_eval.specs.Distinct.{distinct}
use Rattle.rt_print.specs.Texts.{witness_text}
use Rattle.rt_schema.specs.Given.{places}
use Rattle.rt_algebra.specs.Answer.{same_rows}
use Rattle.rt_least.specs.Least.{HasFewest}
use Rattle.rt_least.proofs.Targets.{spent-narrowed}
use Rattle.rt_input.specs.declared.outcome.Limit.{Limit}
use Rattle.rt_input.specs.declared.outcome.Outcome.{Outcome}
use Rattle.rt_input.specs.declared.outcome.Outcome.TheVariants as outcome
use Rattle.rt_input.specs.declared.outcome.Spent.{Spent}
use Rattle.rt_top.specs.Answers as answers
use Rattle.rt_top.specs.GivenUp.{IsGivenUp as TopIsGivenUp}
use Rattle.rt_top.specs.Smallest as top
use Rattle.rt_top.specs.Smallest.{lawful_at}
use Rattle.rt_top.specs.Texts as texts
use Rattle.rt_ra_run.specs.declared.asked.Asked.{Asked}
use Rattle.rt_ra_run.specs.Answers.{Judges}
use Rattle.rt_ra_run.specs.Asked.{IsAsked, IsMeant}
use Rattle.rt_ra_run.specs.Smallest.{Agrees, IsCounterexample, IsGivenUp, IsSmallest, answer_at, is_counterexample}
use Rattle.rt_ra_run.specs.Texts.{agree_text, spent_of, witness_of}

-- what the two texts mean: their queries answer their rows
pub record Same (a : Asked) : Type 0 where
  pub left : (keep : List Bool) → top.answer_at a.input a.input.left keep ≡ answer_at a a.left keep
  pub right : (keep : List Bool) → top.answer_at a.input a.input.right keep ≡ answer_at a a.right keep

pub same_of : (a : Asked) → IsAsked a → IsMeant a → Same a
same_of a is means = record {
  left = λ keep. means.left a.input.given keep is.sound.of_schema is.instance;
  right = λ keep. means.right a.input.given keep is.sound.of_schema is.instance;
}

is_counterexample-same : (a : Asked) → Same a → (keep : List Bool) → top.is_counterexample a.input keep ≡ is_counterexample a keep
unfolding top.is_counterexample is_counterexample
is_counterexample-same a s keep = (λ i. lawful_at a.input keep && not (same_rows (s.left keep i) (s.right keep i)))

to_counterexample : (a : Asked) → Same a → (keep : List Bool) → top.IsCounterexample a.input keep → IsCounterexample a keep
to_counterexample a s keep c = (c.0, sym (is_counterexample-same a s keep) ∙ c.1)

from_counterexample : (a : Asked) → Same a → (keep : List Bool) → IsCounterexample a keep → top.IsCounterexample a.input keep
from_counterexample a s keep c = (c.0, is_counterexample-same a s keep ∙ c.1)

agrees : (a : Asked) → Same a → top.Agrees a.input → Agrees a
agrees a s h keep c = sym (is_counterexample-same a s keep) ∙ h keep c

smallest : (a : Asked) → Same a → (keep : List Bool) → top.IsSmallest a.input keep → IsSmallest a keep
unfolding top.IsFirst
smallest a s keep h = record {
  is_target = to_counterexample a s keep h.counterexample;
  least = λ t c. h.smallest t (from_counterexample a s t c);
  first = λ t c. h.first t (from_counterexample a s t c);
}

best_counterexample : (a : Asked) → Same a → (best : Option (List Bool)) → IfSome best (top.IsCounterexample a.input) → IfSome best (IsCounterexample a)
best_counterexample a s None h = tt
best_counterexample a s (Some keep) h = to_counterexample a s keep h

fewest_counterexample : (a : Asked) → Same a → (best : Option (List Bool)) → IsSomeAnd best (top.HasFewest a.input) → IsSomeAnd best (HasFewest (IsCounterexample a))
fewest_counterexample a s None h = h
fewest_counterexample a s (Some keep) h = λ t c. h t (from_counterexample a s t c)

given_up : (a : Asked) → Same a → (s : Spent) → TopIsGivenUp a.input s.budget s.best s.least s.nogoods → IsGivenUp a s
given_up a same s h = record {
  small = h.small;
  best_is = best_counterexample a same s.best h.best_is;
  least_is = λ t. fewest_counterexample a same s.best (h.least_is t);
  spent = spent-narrowed (places a.input.given.tables) (top.IsCounterexample a.input) (IsCounterexample a) s.best s.least s.budget s.nogoods (from_counterexample a same) h.spent;
}

-- ---- texts over files

agree-text : (a : Asked) → a.input.made ≡ None → texts.agree_of a.input ≡ agree_text
agree-text a files = ap texts.agree_text files

rows-text : (a : Asked) → Same a → (keep : List Bool) → texts.rows_text a.input keep ≡ witness_of a keep
rows-text a s keep = (λ i. witness_text a.input.schema a.input.given.tables keep (distinct (s.left keep i)) (distinct (s.right keep i)))

witness-text : (a : Asked) → Same a → a.input.made ≡ None → (keep : List Bool) → texts.witness_of a.input keep ≡ witness_of a keep
witness-text a s files keep = ap (λ (o : Option ℕ). texts.size_text o keep (texts.rows_text a.input keep)) files ∙ rows-text a s keep

spent-text : (a : Asked) → a.input.made ≡ None → (s : Spent) → texts.spent_of a.input s ≡ spent_of a s
spent-text a files s = ap (λ (o : Option ℕ). texts.budget_text o s.budget (spent_of a s)) files

-- ---- the verdict

judges_by : (a : Asked) → Same a → a.input.made ≡ None → (o : Outcome) (said : List ℕ) → answers.Judges a.input o said → Judges a o said
judges_by a s files outcome.Agree said h = (agrees a s h.0, h.1 ∙ agree-text a files)
judges_by a s files (outcome.Witness keep) said h = (smallest a s keep h.0, h.1 ∙ witness-text a s files keep)
judges_by a s files (outcome.Spent spent) said h = (h.0, given_up a s spent h.1, h.2 ∙ spent-text a files spent)
judges_by a s files outcome.Usage said h = absurd h
judges_by a s files (outcome.Refused p f) said h = absurd h
judges_by a s files (outcome.Limit l) said h = absurd h
judges_by a s files (outcome.ReadFault p) said h = absurd h
judges_by a s files outcome.WriteFault said h = absurd h
judges_by a s files outcome.NoMemory said h = absurd h

pub judges : (a : Asked) → IsAsked a → IsMeant a → a.input.made ≡ None → (o : Outcome) (said : List ℕ) → answers.Judges a.input o said → Judges a o said
judges a is means files o said h = judges_by a (same_of a is means) files o said h
