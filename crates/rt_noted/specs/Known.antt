-- What is known of the subqueries that name no row outside of them.
use Rattle.std.specs.Prelude.{◌≡◌, ◌<◌, Bool, List, [], ◌∷◌, Option, None, Some, length, slice_index_or}
use Rattle.std.specs.Borrow.{Bor}
use Rattle.std.specs.List.{All as Each, list_any}
use Rattle.rt_value.specs.declared.value.Value.{Value}
use Rattle.rt_value.specs.declared.value.Value.TheVariants.{Null}
use Rattle.rt_value.specs.Value.{value_eq}
use Rattle.rt_schema.specs.Given.{Rows, Tables}
use Rattle.rt_schema.specs.Kept.{kept}
use Rattle.rt_algebra.specs.Answer.{is_yes, some_truth, member_truth, answer_by}
use Rattle.rt_algebra.specs.Expression.{Env, wrapped}
use Rattle.rt_algebra.specs.declared.query.Query.{Query}
use Rattle.rt_formula.specs.Shared.{Shared, val}
use Rattle.rt_formula.specs.Groups.{group_at}
use Rattle.rt_noted.specs.Entries.{Test, is_no}
use Rattle.rt_formula.specs.declared.noted.Noted.{Noted}
use Rattle.rt_noted.specs.Annotated.{AreNodes, Gives, IsNode, IsGate}
use Rattle.rt_noted.specs.declared.known.Found.{Found}
use Rattle.rt_noted.specs.declared.subquery.Memo.{Memo}
use Rattle.rt_noted.specs.declared.subquery.Memo.TheVariants.{Tested, Listed}
use Rattle.rt_noted.specs.declared.subquery.Subquery.{Subquery}

-- where there is a row, and where a value is among the rows, as conditions
abbrev pub exists_test : (List Bool → Rows) → Test
exists_test answer = (λ s. is_yes (some_truth (answer s)), λ s. is_no (some_truth (answer s)))

abbrev pub among_test : Value → (List Bool → Rows) → Test
among_test x answer = (λ s. is_yes (member_truth x (answer s)), λ s. is_no (member_truth x (answer s)))

-- the one where no value is sought, else the other
abbrev pub sought_test : Option (Bor Value) → (List Bool → Rows) → Test
sought_test None answer = exists_test answer
sought_test (Some x) answer = among_test x.now answer

-- the first value of a row, and whether a row begins with the value; NULL is the same as NULL
abbrev pub first_of : List Value → Value
first_of r = slice_index_or r 0 Null

abbrev pub has_first : Value → Rows → Bool
has_first x rows = list_any (λ r. value_eq x (first_of r)) rows

-- the nodes are of this Dag
pub record IsOver (d : Shared) (f : Found) : Type 0 where
  pub gate : f.some.no < length d.entries
  pub null : f.null < length d.entries
  pub group : (x : Value) → AreNodes d (group_at f.groups (x ∷ []))

-- at every choice the nodes say whether there is a row, and with which values the rows begin
pub record Tells (d : Shared) (f : Found) (answer : List Bool → Rows) : Type 0 where
  pub over : IsOver d f
  pub exists : IsGate d f.some (exists_test answer)
  pub null : IsNode d f.null (λ s. has_first Null (answer s))
  pub firsts : (x : Value) (s : List Bool) → list_any (val d s) (group_at f.groups (x ∷ [])) ≡ has_first x (answer s)

-- the nodes say it of a query's rows under any rows in scope
abbrev pub TellsOf : Shared → Tables → Query → Found → Type 0
TellsOf d given q f = (env : Env) → Tells d f (λ s. answer_by wrapped q (kept given s) env)

-- the noted rows give it
abbrev pub GivesOf : Shared → Tables → Query → List Noted → Type 0
GivesOf d given q ns = (env : Env) → Gives d ns (λ s. answer_by wrapped q (kept given s) env)

-- what is kept of a query holds
abbrev pub Holds : Shared → Tables → Query → Memo → Type 0
Holds d given q (Tested f) = TellsOf d given q f
Holds d given q (Listed ns) = GivesOf d given q ns

-- what is known of queries
pub record AreKnown (d : Shared) (given : Tables) (ks : List Subquery) : Type 0 where
  pub each : Each (λ k. Holds d given k.query.now k.memo) ks
