-- A grade that is known of a query is that of each candidate with this query.
use Rattle.std.proofs.Common.{◌≡◌, ◌<◌, ℕ, Bool, true, false, List, [], ◌∷◌, ◌++◌, length, slice_index_or, Result, Ok, Err, sym, subst, refl, zero, suc, arith}
use Rattle.std.specs.Prelude.{IfOk, IfSome, OnErr, OnOk, Option, None, Some, nat_le, if◌then◌else◌}
use Rattle.std.specs.List.{All as Each}
use Rattle.std.proofs.lemmas.List.Elements.{All-append}
use Rattle.rt_value.specs.declared.no_memory.NoMemory.{NoMemory}
use Rattle.rt_algebra.specs.declared.query.Query.{Query}
use Rattle.rt_algebra.specs.declared.typed.Typed.{Typed}
use Rattle.rt_algebra.specs.Typed.{IsTypedOf}
use Rattle.rt_clause.specs.Literal.{Literal}
use Rattle.rt_io.specs.Ranges.{Command}
use Rattle.rt_input.specs.declared.first.First.{First}
use Rattle.rt_input.specs.declared.outcome.Limit.TheVariants as limit
use Rattle.rt_input.specs.declared.outcome.Outcome.{Outcome}
use Rattle.rt_input.specs.declared.outcome.Outcome.TheVariants as outcome
use Rattle.rt_input.specs.Accepted.{Accepted, IsAccepted}
use Rattle.rt_input.specs.Judged.{total_work, within_limit}
use Rattle.rt_top.specs.Smallest.{Agrees, IsFirst, IsSmallest, is_counterexample}
use Rattle.rt_top.specs.GivenUp.{IsGivenUp}
use Rattle.rt_grade.specs.declared.grade.Grade.{Grade}
use Rattle.rt_grade.specs.declared.grade.Grade.TheVariants.{Agree, Witness, Undecided, Refused, Work, TooLong}
use Rattle.rt_grade.specs.declared.known.Known.{Known}
use Rattle.rt_grade.specs.Grades.{Decides, DecidesOn, IsGrade, beside}
use Rattle.rt_grade.specs.Known.{AreKnown, IsQueryGrade}

-- ---- two candidates with one query

-- what is judged of an input that is within the limit, or isn't
abbrev judged_where : Bool → Accepted → Result Accepted Outcome
judged_where within input = if within then Ok input else Err (outcome.Limit (limit.Work (total_work input)))

module _ (c : Command) (first : First) (query : Query) (before after : Typed)
    (typed : IsTypedOf first.schema (record after { query = query })) (kinds : after.kinds ≡ first.left.kinds) where
  abbrev one : Accepted
  one = beside c first (record before { query = query })

  abbrev other : Accepted
  other = beside c first (record after { query = query })

  smallest : (keep : List Bool) → IsSmallest one keep → IsSmallest other keep
  unfolding is_counterexample IsFirst
  smallest keep s = record { counterexample = s.counterexample; smallest = s.smallest; first = s.first }

  agrees : Agrees one → Agrees other
  unfolding is_counterexample
  agrees a = a

  given_up : (budget : ℕ) (best : Option (List Bool)) (least : Bool) (nogoods : List (List Literal)) → IsGivenUp one budget best least nogoods
      → IsGivenUp other budget best least nogoods
  unfolding is_counterexample
  given_up budget best least nogoods g = record { small = g.small; best_is = g.best_is; least_is = g.least_is; spent = g.spent }

  decides : (grade : Grade) → Decides one grade → Decides other grade
  decides Agree d = agrees d
  decides (Witness keep) d = smallest keep d
  decides (Undecided s) d = (d.0, given_up s.budget s.best s.least s.nogoods d.1)
  decides (Refused part fault) d = d
  decides (Work work) d = d
  decides TooLong d = d

  accepts : IsAccepted one → IsAccepted other
  accepts a = record {
    of_schema = a.of_schema;
    left = a.left;
    right = typed;
    kinds = kinds;
    few = a.few;
    conflicts = a.conflicts;
    work_limit = a.work_limit;
    made = a.made;
  }

  decides_on : (grade : Grade) → DecidesOn (within_limit one) grade → DecidesOn (within_limit other) grade
  decides_on grade d = by_case (nat_le (total_work one) c.work_limit) d
    where
      by_case : (within : Bool) → DecidesOn (judged_where within one) grade → DecidesOn (judged_where within other) grade
      by_case true d =
          let e : Ok one ≡ Ok d.0 = d.1 in
          let same : d.0 ≡ one = cc in
          (other, refl, accepts (subst IsAccepted same d.2), decides grade (subst (λ (input : Accepted). Decides input grade) same d.3))
      by_case false d = let e : Err (outcome.Limit (limit.Work (total_work one))) ≡ Ok d.0 = d.1 in cc

  refuses : (o : Outcome) → within_limit one ≡ Err o → within_limit other ≡ Err o
  refuses o e = by_case (nat_le (total_work one) c.work_limit) e
    where
      by_case : (within : Bool) → judged_where within one ≡ Err o → judged_where within other ≡ Err o
      by_case true e = cc
      by_case false e = e

  graded : (grade : Grade) → IsGrade (within_limit one) grade → IsGrade (within_limit other) grade
  graded Agree is = decides_on Agree is
  graded (Witness keep) is = decides_on (Witness keep) is
  graded (Undecided s) is = decides_on (Undecided s) is
  graded (Refused part fault) is = (is.0, refuses _ is.1)
  graded (Work work) is = refuses _ is
  graded TooLong is = is

-- the grade of a candidate is that of its query
pub query_grade : (c : Command) (first : First) (right : Typed) (grade : Grade) → IsGrade (within_limit (beside c first right)) grade → IsQueryGrade c first right.query grade
query_grade c first right grade is = record {
  each = λ other typed kinds same.
      graded c first other.query right other typed kinds grade
      (subst (λ (q : Query). IsGrade (within_limit (beside c first (record right { query = q }))) grade) (sym same) is);
}

-- ---- the known ones

-- a list of one
lone : {X : Type 0} (P : X → Type 0) (x : X) → P x → Each P (x ∷ [])
lone P x p zero d within = p
lone P x p (suc k) d within = absurd (omega (arith, within))

-- a query that is the same as a known one has a copy of its grade
pub known_query : (r : Result (Option Grade) NoMemory) (known : List Known) (at : ℕ) (before : Known) (query : Query) → at < length known → before ≡ slice_index_or known at before
    → before.query ≡ query → IfOk r (λ copy. IfSome copy (λ grade. grade ≡ before.grade))
    → IfOk r (λ copy. IfSome copy (λ grade. (c : Command) (first : First) → AreKnown c first known → IsQueryGrade c first query grade))
known_query (Err m) known at before query within is same copied = tt
known_query (Ok None) known at before query within is same copied = tt
known_query (Ok (Some grade)) known at before query within is same copied = λ c first are.
    let here : IsQueryGrade c first before.query before.grade = subst (λ (k : Known). IsQueryGrade c first k.query k.grade) (sym is) (are at before within) in
    subst (λ (g : Grade). IsQueryGrade c first query g) (sym copied) (subst (λ (q : Query). IsQueryGrade c first q before.grade) same here)

-- the grade of a known query is that of the candidate that it was asked for
pub of_known : (copy : Option Grade) (grade : Grade) (list known : List Known) (query : Query) (c : Command) (first : First) (right : Typed) → copy ≡ Some grade → list ≡ known
    → query ≡ right.query → IfSome copy (λ grade. (c : Command) (first : First) → AreKnown c first list → IsQueryGrade c first query grade) → AreKnown c first known
    → IsTypedOf first.schema right → right.kinds ≡ first.left.kinds → IsGrade (within_limit (beside c first right)) grade
of_known copy grade list known query c first right some same asked each are typed kinds =
    let found = subst (λ (o : Option Grade). IfSome o (λ grade. (c : Command) (first : First) → AreKnown c first list → IsQueryGrade c first query grade)) some each in
    let here : IsQueryGrade c first query grade = found c first (subst (λ (ks : List Known). AreKnown c first ks) (sym same) are) in
    here.each right typed kinds (sym asked)

-- a query and a copy of its grade are added to the known ones, or are not
pub one_kept : {A E : Type 0} (r : Result A E) (known more : List Known) (query : Query) (copy grade : Grade) → copy ≡ grade → OnOk r (more ≡ known ++ record { query = query; grade = copy } ∷ [])
    → OnErr r (more ≡ known) → (c : Command) (first : First) → AreKnown c first known → IsQueryGrade c first query grade → AreKnown c first more
one_kept (Err e) known more query copy grade copied is same c first are here = subst (λ (ks : List Known). AreKnown c first ks) (sym same) are
one_kept (Ok x) known more query copy grade copied is same c first are here =
    let new : Known = record { query = query; grade = copy } in
    subst (λ (ks : List Known). AreKnown c first ks) (sym is)
    (All-append (λ (k : Known). IsQueryGrade c first k.query k.grade) known (new ∷ []) are
    (lone (λ (k : Known). IsQueryGrade c first k.query k.grade) new (subst (λ (g : Grade). IsQueryGrade c first query g) (sym copied) here)))
