-- What stops one step of the reading stops the reading.
use Rattle.std.proofs.Common.{◌≡◌, ◌∙◌, ℕ, Bool, IsTrue, List, Result, Ok, Err, refl, sym, ap, subst, arith}
use Rattle.std.specs.Prelude.{Option, None, Some, IfErr, IsOk, IsOkAnd}
use Rattle.rt_io.specs.Edge.{NoneFell}
use Rattle.rt_value.specs.Gives.{Gives}
use Rattle.rt_schema.specs.Given.{Rows}
use Rattle.rt_schema.specs.declared.table.Table.{Table as TableOf}
use Rattle.rt_algebra.specs.declared.typed.Typed.{Typed}
use Rattle.rt_ddl.specs.declared.fault.SchemaFault.TheVariants as schema
use Rattle.rt_load.specs.declared.fault.LoadFault.{LoadFault}
use Rattle.rt_load.specs.declared.fault.LoadFault.TheVariants as load
use Rattle.rt_load.specs.Loaded.{is_memory}
use Rattle.rt_scope.specs.declared.fault.NameFault.TheVariants as name
use Rattle.rt_input.specs.declared.part.Part.{Part}
use Rattle.rt_input.specs.declared.part.Part.TheVariants as part
use Rattle.rt_input.specs.declared.part.Part.TheVariants.{Query1, Query2}
use Rattle.rt_io.specs.Ranges.{Command}
use Rattle.rt_input.specs.declared.outcome.Limit.{Limit}
use Rattle.rt_input.specs.declared.outcome.Limit.TheVariants as limit
use Rattle.rt_input.specs.declared.outcome.Outcome.{Outcome}
use Rattle.rt_input.specs.declared.outcome.Outcome.TheVariants as outcome
use Rattle.rt_input.specs.declared.source.Source.{Source}
use Rattle.rt_input.specs.Faults.{load_outcome}
use Rattle.rt_input.specs.declared.first.First.{First}
use Rattle.rt_input.specs.First.{data_in, first_judged, first_of}
use Rattle.rt_input.specs.Judged.{Data, Reaches, ReachesFirst, accepted, data_judged, input_judged, query_judged, right_judged, then_read, within_limit, query_of}
use Rattle.rt_input.specs.Held.{Holding, text_of}
use Rattle.rt_input.specs.Source.{IsKnown, file_of, source_of}
use Rattle.rt_input.specs.Steps.{Failed, IsLong, IsLongFor, Refuses, Seen, seen, Stops, of_contents}

pub then_ok : {T U E : Type 0} (r : Result T E) (x : T) (f : T → Result U E) (y : Result U E) → r ≡ Ok x → f x ≡ y → then_read r f ≡ y
then_ok r x f y p q = rw p q

pub then_err : {T U E : Type 0} (r : Result T E) (f : T → Result U E) (e : E) → r ≡ Err e → then_read r f ≡ Err e
then_err r f e p = rw p refl

-- ---- a step that reads no file

-- ---- steps of the reading

short : (s : Seen) (source : Source) (l : Limit) → IsTrue (of_contents l) → IsLongFor s source l
short s source (limit.TooLong p) h = cc h
short s source limit.Tables h = tt
short s source (limit.Columns table) h = tt
short s source (limit.Rules table) h = tt
short s source limit.Rows h = tt
short s source (limit.Work work) h = tt

pub stops_refused : {S T : Type 0} (s : Seen) (source : Source) (j : Result S Outcome) (k : Result T Outcome) (R : Part → Type 0) (o : Outcome)
    → (IsKnown s.tells source → (e : Outcome) → j ≡ Err e → k ≡ Err e) → Refuses j o → Stops s source k R o
stops_refused s source j k R outcome.Agree same r = r
stops_refused s source j k R (outcome.Witness keep) same r = r
stops_refused s source j k R outcome.Usage same r = r
stops_refused s source j k R (outcome.Refused p fault) same r = (r.0, λ t. same t _ r.1)
stops_refused s source j k R (outcome.Spent spent) same r = r
stops_refused s source j k R (outcome.Limit l) same r = (short s source l r.0, λ t. same t _ r.1)
stops_refused s source j k R (outcome.ReadFault p) same r = absurd r
stops_refused s source j k R outcome.WriteFault same r = r
stops_refused s source j k R outcome.NoMemory same r = tt

long_on : (tells : Bool) (held held' : Holding) (before mid after : List ℕ → ℕ) (current : Option (List ℕ)) (taken : ℕ) (o : Option (List ℕ))
    → IsLong (seen tells held' mid after current taken) o → IsLong (seen tells held before after current taken) o
long_on tells held held' before mid after current taken None long = long
long_on tells held held' before mid after current taken (Some name) long = long

limit_on : (tells : Bool) (held held' : Holding) (before mid after : List ℕ → ℕ) (current : Option (List ℕ)) (taken : ℕ) (source : Source) (l : Limit)
    → IsLongFor (seen tells held' mid after current taken) source l → IsLongFor (seen tells held before after current taken) source l
limit_on tells held held' before mid after current taken source (limit.TooLong p) long = long_on tells held held' before mid after current taken (file_of source p) long
limit_on tells held held' before mid after current taken source limit.Tables long = tt
limit_on tells held held' before mid after current taken source (limit.Columns table) long = tt
limit_on tells held held' before mid after current taken source (limit.Rules table) long = tt
limit_on tells held held' before mid after current taken source limit.Rows long = tt
limit_on tells held held' before mid after current taken source (limit.Work work) long = tt

failed_on : (tells : Bool) (held held' : Holding) (before mid after : List ℕ → ℕ) (current : Option (List ℕ)) (taken : ℕ) (o : Option (List ℕ)) → NoneFell before mid
    → Failed (seen tells held' mid after current taken) o → Failed (seen tells held before after current taken) o
failed_on tells held held' before mid after current taken None grew failed = failed
failed_on tells held held' before mid after current taken (Some name) grew failed = let less = grew name in let rose = failed in omega (arith, less, rose)

-- a later step of a reading that began with smaller counts
pub stops_on : {T U : Type 0} (tells : Bool) (held held' : Holding) (before mid after : List ℕ → ℕ) (current : Option (List ℕ)) (taken : ℕ) (source : Source)
    (j : Result T Outcome) (j' : Result U Outcome) (R R' : Part → Type 0) (o : Outcome) → NoneFell before mid
    → (IsKnown tells source → (e : Outcome) → j ≡ Err e → j' ≡ Err e) → (IsKnown tells source → (p : Part) → R p → R' p)
    → Stops (seen tells held' mid after current taken) source j R o → Stops (seen tells held before after current taken) source j' R' o
stops_on tells held held' before mid after current taken source j j' R R' outcome.Agree grew same reach stop = stop
stops_on tells held held' before mid after current taken source j j' R R' (outcome.Witness keep) grew same reach stop = stop
stops_on tells held held' before mid after current taken source j j' R R' outcome.Usage grew same reach stop = stop
stops_on tells held held' before mid after current taken source j j' R R' (outcome.Refused p fault) grew same reach stop = (stop.0, λ t. same t _ (stop.1 t))
stops_on tells held held' before mid after current taken source j j' R R' (outcome.Spent s) grew same reach stop = stop
stops_on tells held held' before mid after current taken source j j' R R' (outcome.Limit l) grew same reach stop =
    (limit_on tells held held' before mid after current taken source l stop.0, λ t. same t _ (stop.1 t))
stops_on tells held held' before mid after current taken source j j' R R' (outcome.ReadFault p) grew same reach stop =
    (failed_on tells held held' before mid after current taken (file_of source p) grew stop.0, λ t. reach t p (stop.1 t))
stops_on tells held held' before mid after current taken source j j' R R' outcome.WriteFault grew same reach stop = stop
stops_on tells held held' before mid after current taken source j j' R R' outcome.NoMemory grew same reach stop = tt

-- a table file that is refused
pub stops_loaded : (s : Seen) (source : Source) (p : Part) (loaded : Result Rows LoadFault) (j : Result Rows Outcome) (R : Part → Type 0) (fault : LoadFault)
    → Gives {T = Rows} is_memory (Err fault) loaded → (IsKnown s.tells source → (e : LoadFault) → loaded ≡ Err e → j ≡ Err (load_outcome p e))
    → Stops s source j R (load_outcome p fault)
stops_loaded s source p loaded j R load.NoMemory gives same = tt
stops_loaded s source p loaded j R load.TooManyRows gives same = (tt, λ t. same t load.TooManyRows gives)
stops_loaded s source p loaded j R load.BadHeader gives same = (refl, λ t. same t load.BadHeader gives)
stops_loaded s source p loaded j R (load.FieldCount n) gives same = (refl, λ t. same t (load.FieldCount n) gives)
stops_loaded s source p loaded j R (load.BadInteger n c) gives same = (refl, λ t. same t (load.BadInteger n c) gives)
stops_loaded s source p loaded j R (load.BadText n c) gives same = (refl, λ t. same t (load.BadText n c) gives)

-- a query's text that makes no query
pub query_stops : (s : Seen) (source : Source) (p q r : Part) (schema : List TableOf) (text other : List ℕ) (result : Result Typed Outcome)
    → q ≡ p → r ≡ p → other ≡ text → (IsKnown s.tells source → text_of source s.held q ≡ Ok text) → IfErr result (Refuses (query_of r schema other))
    → IfErr result (Stops s source (query_judged source s.held p schema) (λ x. x ≡ p))
query_stops s source p q r schema text other (Ok typed) first second same known refuses = tt
query_stops s source p q r schema text other (Err o) first second same known refuses =
    stops_refused s source (query_of r schema other) (query_judged source s.held p schema) (λ x. x ≡ p) o
    (λ k e is. then_ok (text_of source s.held p) text (query_of p schema) (Err e) (ap (text_of source s.held) (sym first) ∙ known k)
    (ap (λ (x : Part). query_of x schema text) (sym second) ∙ ap (query_of r schema) (sym same) ∙ is)) refuses

-- a reading that comes to its second query goes on with what was read first
first_then : {T : Type 0} (r : Result Data Outcome) (q : Data → Result Typed Outcome) (f : Data → Typed → Result T Outcome) (first : First)
    → then_read r (λ d. then_read (q d) (λ left. Ok (first_of d left))) ≡ Ok first → then_read r (λ d. then_read (q d) (f d)) ≡ f (data_in first) first.left
first_then (Err e) q f first is = absurd cc
first_then {T = T} (Ok d) q f first is = go (q d) is
  where
    go : (x : Result Typed Outcome) → then_read x (λ left. Ok (first_of d left)) ≡ Ok first → then_read x (f d) ≡ f (data_in first) first.left
    go (Ok left) same = let is : first_of d left ≡ first = cc in subst (λ (x : First). f d left ≡ f (data_in x) x.left) is refl
    go (Err e) same = absurd cc

pub first_reaches : (r : Result Data Outcome) (q : Data → Result Typed Outcome) (first : First)
    → then_read r (λ d. then_read (q d) (λ left. Ok (first_of d left))) ≡ Ok first → IsOkAnd r (λ d. IsOk (q d))
first_reaches (Err e) q first is = absurd cc
first_reaches (Ok d) q first is = go (q d) is
  where
    go : (x : Result Typed Outcome) → then_read x (λ left. Ok (first_of d left)) ≡ Ok first → IsOk x
    go (Ok left) same = refl
    go (Err e) same = absurd cc

first_err : {T : Type 0} (r : Result Data Outcome) (q : Data → Result Typed Outcome) (f : Data → Typed → Result T Outcome) (e : Outcome)
    → then_read r (λ d. then_read (q d) (λ left. Ok (first_of d left))) ≡ Err e → then_read r (λ d. then_read (q d) (f d)) ≡ Err e
first_err (Err o) q f e is = let same : o ≡ e = cc in ap Err same
first_err {T = T} (Ok d) q f e is = go (q d) is
  where
    go : (x : Result Typed Outcome) → then_read x (λ left. Ok (first_of d left)) ≡ Err e → then_read x (f d) ≡ Err e
    go (Ok left) same = absurd cc
    go (Err o) same = let is : o ≡ e = cc in ap Err is

reaches_first : (source : Source) (held : Holding) (p : Part) → ReachesFirst source held p → Reaches source held p
reaches_first source held part.Schema reached = tt
reaches_first source held (part.Table at name) reached = reached
reaches_first source held part.Query1 reached = reached
reaches_first source held part.Query2 reached = absurd reached
reaches_first source held part.Queries reached = absurd reached

-- what stops the reading before its second query
pub first_stops : (tells : Bool) (held : Holding) (before after : List ℕ → ℕ) (current : Option (List ℕ)) (taken : ℕ) (source : Source) (k : Command) (o : Outcome) → source ≡ source_of k
    → Stops (seen tells held before after current taken) source (first_judged source held) (ReachesFirst source held) o
    → Stops (seen tells held before after current taken) source (input_judged held k) (Reaches source held) o
first_stops tells held before after current taken source k o is stop =
    let judged : (e : Outcome) → first_judged source held ≡ Err e → input_judged held k ≡ Err e = λ e.
    subst (λ (s : Source). first_judged s held ≡ Err e → input_judged held k ≡ Err e) (sym is)
    (first_err (data_judged (source_of k) held) (λ d. query_judged (source_of k) held Query1 d.schema)
    (λ d left. then_read (right_judged (source_of k) held d.schema left) (λ right. within_limit (accepted k d left right))) e) in
    stops_on tells held held before before after current taken source (first_judged source held) (input_judged held k) (ReachesFirst source held) (Reaches source held) o
    (λ name. omega arith) (λ t. judged) (λ t. reaches_first source held) stop

pub input_after : (held : Holding) (source : Source) (k : Command) (first : First) → source ≡ source_of k → first_judged source held ≡ Ok first
    → input_judged held k ≡ then_read (right_judged source held first.schema first.left) (λ right. within_limit (accepted k (data_in first) first.left right))
input_after held source k first is told =
    subst (λ (s : Source). first_judged s held ≡ Ok first
    → input_judged held k ≡ then_read (right_judged s held first.schema first.left) (λ right. within_limit (accepted k (data_in first) first.left right))) (sym is)
    (λ t. first_then (data_judged (source_of k) held) (λ d. query_judged (source_of k) held Query1 d.schema)
    (λ d left. then_read (right_judged (source_of k) held d.schema left) (λ right. within_limit (accepted k d left right))) first t) told

-- the second query stops the reading of a command
pub right_stops : (tells : Bool) (held0 held1 : Holding) (before mid after : List ℕ → ℕ) (current : Option (List ℕ)) (taken : ℕ) (source : Source) (k : Command) (first : First) (o : Outcome)
    → source ≡ source_of k → held1 ≡ held0 → NoneFell before mid → (IsKnown tells source → first_judged source held0 ≡ Ok first)
    → Stops (seen tells held1 mid after current taken) source (right_judged source held1 first.schema first.left) (λ p. p ≡ Query2) o
    → Stops (seen tells held0 before after current taken) source (input_judged held0 k) (Reaches source held0) o
right_stops tells held0 held1 before mid after current taken source k first o is same grew told stop =
    stops_on tells held0 held1 before mid after current taken source (right_judged source held1 first.schema first.left) (input_judged held0 k) (λ p. p ≡ Query2) (Reaches source held0) o grew
    (λ t e err. input_after held0 source k first is (told t) ∙ then_err _ _ e (ap (λ (h : Holding). right_judged source h first.schema first.left) (sym same) ∙ err))
    (λ t p named. subst (Reaches source held0) (sym named) (first_reaches (data_judged source held0) (λ d. query_judged source held0 Query1 d.schema) first (told t))) stop

-- the first query stops the reading of a source, whatever comes after it
pub left_stops : {T : Type 0} (tells : Bool) (held0 held1 : Holding) (before mid after : List ℕ → ℕ) (current : Option (List ℕ)) (taken : ℕ) (source : Source) (f : Data → Typed → Result T Outcome) (d : Data) (o : Outcome)
    → held1 ≡ held0 → NoneFell before mid → (IsKnown tells source → data_judged source held0 ≡ Ok d)
    → Stops (seen tells held1 mid after current taken) source (query_judged source held1 Query1 d.schema) (λ p. p ≡ Query1) o
    → Stops (seen tells held0 before after current taken) source (then_read (data_judged source held0) (λ d. then_read (query_judged source held0 Query1 d.schema) (f d))) (ReachesFirst source held0) o
left_stops {T = T} tells held0 held1 before mid after current taken source f d o same grew told stop =
    let all : Result T Outcome = then_read (data_judged source held0) (λ d. then_read (query_judged source held0 Query1 d.schema) (f d)) in
    let judged : IsKnown tells source → (e : Outcome) → query_judged source held1 Query1 d.schema ≡ Err e → all ≡ Err e = λ t e err.
    then_ok (data_judged source held0) d _ _ (told t) (then_err _ _ e (ap (λ (h : Holding). query_judged source h Query1 d.schema) (sym same) ∙ err)) in
    let reached : IsKnown tells source → (p : Part) → p ≡ Query1 → ReachesFirst source held0 p = λ t p named.
    subst (ReachesFirst source held0) (sym named) (subst (λ (r : Result Data Outcome). IsOk r) (sym (told t)) refl) in
    stops_on tells held0 held1 before mid after current taken source (query_judged source held1 Query1 d.schema) all (λ p. p ≡ Query1) (ReachesFirst source held0) o grew judged reached stop

-- a command whose texts are all read is judged by its work
pub judged_all : (held0 held1 : Holding) (source : Source) (k : Command) (first : First) (right : Typed) → source ≡ source_of k → held1 ≡ held0
    → first_judged source held0 ≡ Ok first → right_judged source held1 first.schema first.left ≡ Ok right
    → input_judged held0 k ≡ within_limit (accepted k (data_in first) first.left right)
judged_all held0 held1 source k first right is same told second =
    input_after held0 source k first is told
    ∙ then_ok _ right _ _ (ap (λ (h : Holding). right_judged source h first.schema first.left) (sym same) ∙ second) refl

pub if_err : {X : Type 0} (P Q : Outcome → Type 0) (r : Result X Outcome) → ((o : Outcome) → P o → Q o) → IfErr r P → IfErr r Q
if_err P Q (Ok x) f p = tt
if_err P Q (Err o) f p = f o p
