-- What is known of queries stays known, and holds under any rows in scope.
use Rattle.std.proofs.Common.{◌≡◌, ℕ, zero, suc, ◌<◌, ◌++◌, Bool, List, [], ◌∷◌, Option, Some, IfSome, length, get_or, refl, sym, subst, arith, ◌∙◌}
use mathlib.Core.Path.{fun_ext}
use Rattle.std.proofs.lemmas.List.Elements.{All-append}
use Rattle.std.specs.List.{All as Each}
use Rattle.rt_value.specs.declared.value.Value.TheVariants.{Null}
use Rattle.rt_value.specs.Value.{value_eq}
use Rattle.rt_schema.specs.Given.{Rows, Tables}
use Rattle.rt_schema.specs.Kept.{kept}
use Rattle.rt_algebra.specs.Answer.{answer_by}
use Rattle.rt_algebra.specs.Expression.{wrapped}
use Rattle.rt_algebra.specs.declared.query.Query.{Query}
use Rattle.rt_formula.specs.Shared.{Shared, IsGrown}
use Rattle.rt_formula.specs.Groups.{group_at}
use Rattle.rt_noted.specs.declared.known.Found.{Found}
use Rattle.rt_formula.specs.declared.noted.Noted.{Noted}
use Rattle.rt_noted.specs.declared.subquery.Memo.{Memo}
use Rattle.rt_noted.specs.declared.subquery.Memo.TheVariants.{Tested, Listed}
use Rattle.rt_noted.specs.declared.subquery.Subquery.{Subquery}
use Rattle.rt_algebra.specs.Stays.{StaysQuery}
use Rattle.rt_noted.specs.Annotated.{Gives, SameRows}
use Rattle.rt_noted.specs.Known.{IsOver, Tells, TellsOf, GivesOf, Holds, AreKnown, exists_test, first_of, has_first}
use Rattle.rt_noted.proofs.Alike.{same_some_no, same_some_yes}
use Rattle.rt_noted.proofs.Growing.{longer, nodes_stay, any_stays, gate_stays, node_as, node_stays}
use Rattle.rt_noted.proofs.Layers.{gate_as, gives_as, gives_stay}
use Rattle.rt_noted.proofs.SameRows.{any_is}

pub over_stays : {old now : Shared} {f : Found} → IsGrown old now → IsOver old f → IsOver now f
over_stays {old} {now} {f} g o = record {
  gate = (let m = longer g in let h = o.gate in omega arith);
  null = (let m = longer g in let h = o.null in omega arith);
  group = λ x. nodes_stay g (group_at f.groups (x ∷ [])) (o.group x);
}

pub tells_stay : {old now : Shared} {f : Found} {answer : List Bool → Rows} → IsGrown old now → Tells old f answer → Tells now f answer
tells_stay {old} {now} {f} g t = record {
  over = over_stays g t.over;
  exists = gate_stays g t.exists;
  null = node_stays g t.null;
  firsts = λ x s. any_stays g (group_at f.groups (x ∷ [])) (t.over.group x) s ∙ t.firsts x s;
}

pub tells_as : {d : Shared} {f : Found} {answer : List Bool → Rows} (other : List Bool → Rows) → ((s : List Bool) → answer s ≡ other s) → Tells d f answer → Tells d f other
tells_as {d} {f} {answer} other h t = let e : answer ≡ other = fun_ext h in let P : (List Bool → Rows) → Type 0 = Tells d f in subst P e t

pub tells_same : {d : Shared} {f : Found} {answer : List Bool → Rows} (other : List Bool → Rows) → ((s : List Bool) → SameRows (answer s) (other s)) → Tells d f answer → Tells d f other
tells_same {d} {f} {answer} other h t = record {
  over = t.over;
  exists = gate_as (exists_test other) (λ s. same_some_yes (answer s) (other s) (h s)) (λ s. same_some_no (answer s) (other s) (h s)) t.exists;
  null = node_as (λ s. has_first Null (other s)) (λ s. any_is (λ r. value_eq Null (first_of r)) (answer s) (other s) (h s)) t.null;
  firsts = λ x s. t.firsts x s ∙ any_is (λ r. value_eq x (first_of r)) (answer s) (other s) (h s);
}

holds_stay : {old now : Shared} (given : Tables) (q : Query) (m : Memo) → IsGrown old now → Holds old given q m → Holds now given q m
holds_stay given q (Tested f) g h = λ env. tells_stay g (h env)
holds_stay given q (Listed ns) g h = λ env. gives_stay g (h env)

pub known_stay : {old now : Shared} {given : Tables} {ks : List Subquery} → IsGrown old now → AreKnown old given ks → AreKnown now given ks
known_stay {old} {now} {given} {ks} g a = record { each = λ i k l. holds_stay given (get_or ks i k).query.now (get_or ks i k).memo g (a.each i k l) }

pub none_known : (d : Shared) (given : Tables) {ks : List Subquery} → ks ≡ [] → AreKnown d given ks
none_known d given e = let P : List Subquery → Type 0 = AreKnown d given in subst P (sym e) (record { each = λ i k l. absurd (omega arith) })

-- what a query that names no row outside of it comes to with no rows in scope, it comes to under
-- any
pub tells_under : {d : Shared} (given : Tables) {f : Found} (q : Query) → StaysQuery 0 q → Tells d f (λ s. answer_by wrapped q (kept given s) []) → TellsOf d given q f
tells_under given q h t env = tells_as (λ s. answer_by wrapped q (kept given s) env) (λ s. sym (h (kept given s) [] env refl)) t

pub gives_under : {d : Shared} (given : Tables) {ns : List Noted} (q : Query) → StaysQuery 0 q → Gives d ns (λ s. answer_by wrapped q (kept given s) []) → GivesOf d given q ns
gives_under given q h i env = gives_as (λ s. answer_by wrapped q (kept given s) env) (λ s. sym (h (kept given s) [] env refl)) i

-- one more is known
one_known : (d : Shared) (given : Tables) (k : Subquery) → Holds d given k.query.now k.memo → Each (λ x. Holds d given x.query.now x.memo) (k ∷ [])
one_known d given k t zero x l = t
one_known d given k t (suc i) x l = absurd (omega arith)

pub known_more : {d : Shared} {given : Tables} {ks new : List Subquery} (k : Subquery) → AreKnown d given ks → Holds d given k.query.now k.memo → new ≡ ks ++ k ∷ [] → AreKnown d given new
known_more {d} {given} {ks} k a t e =
    let P : List Subquery → Type 0 = AreKnown d given in
    subst P (sym e) (record { each = All-append (λ (x : Subquery). Holds d given x.query.now x.memo) ks (k ∷ []) a.each (one_known d given k t) })

pub same_known : {d : Shared} {given : Tables} {ks js : List Subquery} → js ≡ ks → AreKnown d given ks → AreKnown d given js
same_known {d} {given} e a = let P : List Subquery → Type 0 = AreKnown d given in subst P (sym e) a

-- what holds of one that is known
pub known_at : {d : Shared} {given : Tables} {ks : List Subquery} (i : ℕ) (k : Subquery) → i < length ks → k ≡ get_or ks i k → AreKnown d given ks → Holds d given k.query.now k.memo
known_at {d} {given} i k l e a = let P : Subquery → Type 0 = λ x. Holds d given x.query.now x.memo in subst P (sym e) (a.each i k l)

-- what is kept of a query is kept of the same one
pub same_holds : (d : Shared) (given : Tables) {p q : Query} {m n : Memo} → p ≡ q → m ≡ n → Holds d given p m → Holds d given q n
same_holds d given {p} {q} {m} {n} e f h =
    let P : Memo → Type 0 = Holds d given p in
    let Q : Query → Type 0 = λ x. Holds d given x n in
    subst Q e (subst P f h)

-- what holds of the value of an option, of the value itself
pub some_holds : {A : Type 0} {o : Option A} {x : A} (P : A → Type 0) → o ≡ Some x → IfSome o P → P x
some_holds {A} P e h = let Q : Option A → Type 0 = λ o. IfSome o P in subst Q e h
