-- From the query of a candidate, or why it has none, to its grade.
use Rattle.std.proofs.Common.{◌≡◌, ◌≤◌, ℕ, Bool, true, false, Result, Ok, Err, refl, sym, subst, arith}
use Rattle.std.specs.Prelude.{Option, None, Some, IfErr, IfOk, IsSomeAnd, nat_le, if◌then◌else◌}
use Rattle.std.proofs.lemmas.Bool.Decides.{nat_tests}
use Rattle.rt_value.specs.declared.no_memory.NoMemory.{NoMemory}
use Rattle.rt_algebra.specs.declared.typed.Typed.{Typed}
use Rattle.rt_algebra.specs.Typed.{IsTypedOf}
use Rattle.rt_least.specs.declared.best.Best.{Best}
use Rattle.rt_least.specs.declared.best.Best.TheVariants as best
use Rattle.rt_least.specs.declared.best.SpentBest.{SpentBest}
use Rattle.rt_io.specs.Ranges.{Command, IsInRange}
use Rattle.rt_input.specs.declared.first.First.{First}
use Rattle.rt_input.specs.declared.outcome.Limit.TheVariants as limit
use Rattle.rt_input.specs.declared.outcome.Outcome.{Outcome}
use Rattle.rt_input.specs.declared.outcome.Outcome.TheVariants as outcome
use Rattle.rt_input.specs.declared.part.Part.TheVariants.{Query2}
use Rattle.rt_input.specs.Accepted.{Accepted, IsAccepted}
use Rattle.rt_input.specs.First.{IsFirst}
use Rattle.rt_input.specs.Judged.{like_left, query_of, then_read, total_work, within_limit}
use Rattle.rt_top.specs.GivenUp.{IsGivenUp, IsVerdict}
use Rattle.rt_input.specs.Source.{Text}
use Rattle.rt_input.specs.Steps.{Refuses}
use Rattle.rt_grade.specs.declared.grade.Grade.{Grade}
use Rattle.rt_grade.specs.declared.grade.Grade.TheVariants.{Agree, Witness, Undecided, Refused, Work, TooLong}
use Rattle.rt_grade.specs.Grades.{Decides, IsGrade, beside, candidate_judged, right_of}

pub then_ok : {T U E : Type 0} (r : Result T E) (x : T) (f : T → Result U E) (y : Result U E) → r ≡ Ok x → f x ≡ y → then_read r f ≡ y
then_ok r x f y p q = rw p q

-- what refuses the next step
pub refuses_next : {S T : Type 0} (j : Result S Outcome) (x : S) (f : S → Result T Outcome) (o : Outcome) → j ≡ Ok x → Refuses (f x) o → Refuses (then_read j f) o
refuses_next {S = S} {T = T} j x f o e r = subst (λ (k : Result S Outcome). Refuses (then_read k f) o) (sym e) r

-- ---- the query of a candidate

module _ (first : First) (text : Text) (query : Typed) (r : Result Typed Outcome) (is : query_of Query2 first.schema text ≡ Ok query) where
  pub right_ok : IfOk r (λ typed. (typed ≡ query) × (like_left first.left query ≡ Ok typed)) → IfOk r (λ right. right_of first text ≡ Ok right)
  right_ok h = by_case r h
    where
      by_case : (r : Result Typed Outcome) → IfOk r (λ typed. (typed ≡ query) × (like_left first.left query ≡ Ok typed)) → IfOk r (λ right. right_of first text ≡ Ok right)
      by_case (Ok right) h = then_ok (query_of Query2 first.schema text) query (like_left first.left) (Ok right) is h.1
      by_case (Err o) h = tt

  pub right_err : IfErr r (Refuses (like_left first.left query)) → IfErr r (Refuses (right_of first text))
  right_err h = by_case r h
    where
      by_case : (r : Result Typed Outcome) → IfErr r (Refuses (like_left first.left query)) → IfErr r (Refuses (right_of first text))
      by_case (Ok right) h = tt
      by_case (Err o) h = refuses_next (query_of Query2 first.schema text) query (like_left first.left) o is h

-- ---- grades

-- a grade of what goes on from the candidate's query
pub graded_on : (k : Command) (first : First) (text : Text) (right : Typed) (r : Result Grade NoMemory) → right_of first text ≡ Ok right
    → IfOk r (IsGrade (within_limit (beside k first right))) → IfOk r (IsGrade (candidate_judged k first text))
graded_on k first text right r e h =
    subst (λ (j : Result Typed Outcome). IfOk r (IsGrade (then_read j (λ right. within_limit (beside k first right))))) (sym e) h

-- the verdict on an accepted input is its grade
pub decided_grade : (judged : Result Accepted Outcome) (input : Accepted) (grade : Grade) → judged ≡ Ok input → IsAccepted input → Decides input grade → IsGrade judged grade
decided_grade judged input Agree e sound d = (input, e, sound, d)
decided_grade judged input (Witness keep) e sound d = (input, e, sound, d)
decided_grade judged input (Undecided s) e sound d = (input, e, sound, d)
decided_grade judged input (Refused part fault) e sound d = absurd d
decided_grade judged input (Work work) e sound d = absurd d
decided_grade judged input TooLong e sound d = d

pub decided_result : (judged : Result Accepted Outcome) (input : Accepted) (r : Result Grade NoMemory) → judged ≡ Ok input → IsAccepted input → IfOk r (Decides input) → IfOk r (IsGrade judged)
decided_result judged input (Ok grade) e sound d = decided_grade judged input grade e sound d
decided_result judged input (Err m) e sound d = tt

-- within the limit, or above it
pub is_within : (input : Accepted) (work most : ℕ) → work ≡ total_work input → most ≡ input.work_limit → work ≤ most → within_limit input ≡ Ok input
is_within input work most w m le = by_case (nat_le (total_work input) input.work_limit) refl
  where
    by_case : (b : Bool) → nat_le (total_work input) input.work_limit ≡ b → (if b then Ok input else Err (outcome.Limit (limit.Work (total_work input)))) ≡ Ok input
    by_case true is = refl
    by_case false is = absurd (let h : total_work input ≤ input.work_limit = omega (arith, w, m, le) in grind (arith, nat_tests, h, is))

-- the verdict on the parts of the input is that on the input
module _ (k : Command) (first : First) (right : Typed) where
  pub of_parts : (conflicts : Option ℕ) (best : Best) → conflicts ≡ k.conflicts
      → ((limit : ℕ) (made : Option ℕ) → IsVerdict (record { schema = first.schema; given = first.given; left = first.left; right = right; conflicts = conflicts; work_limit = limit; made = made }) best)
      → IsVerdict (beside k first right) best
  of_parts conflicts best is h =
      subst (λ (o : Option ℕ). IsVerdict (record { schema = first.schema; given = first.given; left = first.left; right = right; conflicts = o; work_limit = k.work_limit; made = k.made }) best) is
      (h k.work_limit k.made)

  pub no_budget : (s : SpentBest) → IsVerdict (beside k first right) (best.Spent s) → k.conflicts ≡ None → ⊥
  no_budget s verdict none = subst (λ (o : Option ℕ). IsSomeAnd o (λ budget. IsGivenUp (beside k first right) budget s.best s.least s.nogoods)) none verdict

  pub of_budget : (s : SpentBest) (budget : ℕ) → IsVerdict (beside k first right) (best.Spent s) → k.conflicts ≡ Some budget
      → IsGivenUp (beside k first right) budget s.best s.least s.nogoods
  of_budget s budget verdict some = subst (λ (o : Option ℕ). IsSomeAnd o (λ budget. IsGivenUp (beside k first right) budget s.best s.least s.nogoods)) some verdict

  pub accepted : IsInRange k → IsFirst first → IsTypedOf first.schema right → right.kinds ≡ first.left.kinds → IsAccepted (beside k first right)
  accepted range sound typed kinds = record {
    of_schema = sound.of_schema;
    left = sound.left;
    right = typed;
    kinds = kinds;
    few = sound.few;
    conflicts = range.conflicts;
    work_limit = range.work_limit;
    made = range.made;
  }
