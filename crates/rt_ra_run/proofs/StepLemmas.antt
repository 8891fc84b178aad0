-- What stops one step of the reading stops the reading.
use Rattle.std.proofs.Common.{◌≡◌, ◌∙◌, ℕ, Bool, IsTrue, List, Result, Ok, Err, refl, sym, ap, subst, arith}
use Rattle.std.specs.Prelude.{Option, None, Some, IfErr, IfOk, IsOk}
use Rattle.rt_io.specs.Edge.{NoneFell}
use Rattle.rt_schema.specs.Given.{Rows, Tables}
use Rattle.rt_schema.specs.declared.table.Table.{Table}
use Rattle.rt_algebra.specs.declared.typed.Typed.{Typed}
use Rattle.rt_input.specs.declared.outcome.Limit.{Limit}
use Rattle.rt_input.specs.declared.outcome.Limit.TheVariants as limit
use Rattle.rt_input.specs.declared.outcome.Outcome.{Outcome}
use Rattle.rt_input.specs.declared.outcome.Outcome.TheVariants as outcome
use Rattle.rt_input.specs.declared.part.Part.{Part}
use Rattle.rt_input.specs.declared.part.Part.TheVariants as parts
use Rattle.rt_input.specs.Accepted.{Accepted}
use Rattle.rt_input.specs.Judged as top
use Rattle.rt_input.specs.Judged.{Data, like_left, then_read, within_limit}
use Rattle.rt_input.specs.Held.{Holding, text_read}
use Rattle.rt_input.specs.declared.part.QueryPart.{QueryPart}
use Rattle.rt_input.specs.declared.part.QueryPart.TheVariants.{First, Second}
use Rattle.rt_input.specs.Source.{file_of, query_part, tables_in}
use Rattle.rt_input.specs.Steps as steps
use Rattle.rt_input.specs.Steps.{Failed, IsLong as IsLongName, IsLongFor, Seen, seen, of_contents}
use Rattle.rt_ra_run.specs.declared.asked.Asked.{Asked}
use Rattle.rt_ra_run.specs.declared.command.RaCommand.{RaCommand}
use Rattle.rt_ra_run.specs.declared.outcome.RaOutcome.{RaOutcome}
use Rattle.rt_ra_run.specs.declared.outcome.RaOutcome.TheVariants.{Verdict, Refused}
use Rattle.rt_ra_run.specs.declared.query.Lowered.{Lowered}
use Rattle.rt_ra_run.specs.Faults.{or_outcome}
use Rattle.rt_ra_run.specs.Judged.{QueryReached, Reaches, asked_judged, asked_of, beside, data_judged, file_at, queries_judged, query_judged, query_of, right_judged, text_judged, texts_of, within_judged}
use Rattle.rt_ra_run.specs.Placed.{IsPlaceless, Placed, PlacedIn, Stands}
use Rattle.rt_ra_run.specs.Steps.{IsLong, Refuses, Stops}
use Rattle.rt_ra_run.specs.Words.{query_path}
use Rattle.rt_ra_run.proofs.QueryLemmas.{then_err}

-- ---- steps that read no file

-- what rt_top refuses, as an outcome of the call
pub refuses_verdict : {S T : Type 0} (j : Result S Outcome) (k : Result T RaOutcome) (o : Outcome) → ((e : Outcome) → j ≡ Err e → k ≡ Err (Verdict e)) → steps.Refuses j o → Refuses k (Verdict o)
refuses_verdict j k outcome.Agree same r = r
refuses_verdict j k (outcome.Witness keep) same r = r
refuses_verdict j k outcome.Usage same r = r
refuses_verdict j k (outcome.Refused p f) same r = (r.0, same _ r.1)
refuses_verdict j k (outcome.Spent s) same r = r
refuses_verdict j k (outcome.Limit l) same r = (r.0, same _ r.1)
refuses_verdict j k (outcome.ReadFault p) same r = r
refuses_verdict j k outcome.WriteFault same r = r
refuses_verdict j k outcome.NoMemory same r = tt

pub or_err : {T : Type 0} (j : Result T Outcome) (e : Outcome) → j ≡ Err e → or_outcome Verdict j ≡ Err (Verdict e)
or_err j e p = ap (or_outcome Verdict) p

short : (s : Seen) (k : RaCommand) (l : Limit) → IsTrue (of_contents l) → IsLong s k l
short s k (limit.TooLong p) h = cc h
short s k limit.Tables h = tt
short s k (limit.Columns table) h = tt
short s k (limit.Rules table) h = tt
short s k limit.Rows h = tt
short s k (limit.Work work) h = tt

pub stops_refused : {S T : Type 0} (s : Seen) (k : RaCommand) (j : Result S RaOutcome) (j' : Result T RaOutcome) (R : Part → Type 0) (o : RaOutcome)
    → (IsTrue s.tells → (e : RaOutcome) → j ≡ Err e → j' ≡ Err e) → Refuses j o → Stops s k j' R o
stops_refused s k j j' R (Verdict outcome.Agree) same r = r
stops_refused s k j j' R (Verdict (outcome.Witness keep)) same r = r
stops_refused s k j j' R (Verdict outcome.Usage) same r = r
stops_refused s k j j' R (Verdict (outcome.Refused p f)) same r = (r.0, λ t. same t _ r.1)
stops_refused s k j j' R (Verdict (outcome.Spent spent)) same r = r
stops_refused s k j j' R (Verdict (outcome.Limit l)) same r = (short s k l r.0, λ t. same t _ r.1)
stops_refused s k j j' R (Verdict (outcome.ReadFault p)) same r = absurd r
stops_refused s k j j' R (Verdict outcome.WriteFault) same r = r
stops_refused s k j j' R (Verdict outcome.NoMemory) same r = tt
stops_refused s k j j' R (Refused p f) same r = (r.0, λ t. same t _ r.1)

-- ---- steps that read

failed_data : (s : Seen) (k : RaCommand) (p : Part) → Failed s (file_of (tables_in k.schema k.dir) p) → Failed s (file_at k p)
failed_data s k parts.Schema h = h
failed_data s k (parts.Table at name) h = h
failed_data s k parts.Query1 h = absurd h
failed_data s k parts.Query2 h = absurd h
failed_data s k parts.Queries h = absurd h

long_data : (s : Seen) (k : RaCommand) (p : Part) → IsLongName s (file_of (tables_in k.schema k.dir) p) → IsLongName s (file_at k p)
long_data s k parts.Schema h = h
long_data s k (parts.Table at name) h = h
long_data s k parts.Query1 h = absurd h
long_data s k parts.Query2 h = absurd h
long_data s k parts.Queries h = absurd h

limit_data : (s : Seen) (k : RaCommand) (l : Limit) → IsLongFor s (tables_in k.schema k.dir) l → IsLong s k l
limit_data s k (limit.TooLong p) h = long_data s k p h
limit_data s k limit.Tables h = tt
limit_data s k (limit.Columns table) h = tt
limit_data s k (limit.Rules table) h = tt
limit_data s k limit.Rows h = tt
limit_data s k (limit.Work work) h = tt

reached_data : (s : Seen) (k : RaCommand) (p : Part) → Failed s (file_of (tables_in k.schema k.dir) p) → top.ReachesFirst (tables_in k.schema k.dir) s.held p → Reaches k s.held p
reached_data s k parts.Schema h r = tt
reached_data s k (parts.Table at name) h r = r
reached_data s k parts.Query1 h r = absurd h
reached_data s k parts.Query2 h r = absurd h
reached_data s k parts.Queries h r = absurd h

-- the schema or a table
pub stops_data : (s : Seen) (k : RaCommand) (o : Outcome) → steps.Stops s (tables_in k.schema k.dir) (top.data_judged (tables_in k.schema k.dir) s.held) (top.ReachesFirst (tables_in k.schema k.dir) s.held) o
    → Stops s k (data_judged k s.held) (Reaches k s.held) (Verdict o)
stops_data s k outcome.Agree stop = stop
stops_data s k (outcome.Witness keep) stop = stop
stops_data s k outcome.Usage stop = stop
stops_data s k (outcome.Refused p f) stop = (stop.0, λ t. or_err _ _ (stop.1 t))
stops_data s k (outcome.Spent spent) stop = stop
stops_data s k (outcome.Limit l) stop = (limit_data s k l stop.0, λ t. or_err _ _ (stop.1 t))
stops_data s k (outcome.ReadFault p) stop = (failed_data s k p stop.0, λ t. reached_data s k p stop.0 (stop.1 t))
stops_data s k outcome.WriteFault stop = stop
stops_data s k outcome.NoMemory stop = tt

-- one file
pub stops_text : (s : Seen) (k : RaCommand) (p : Part) (name : List ℕ) (o : Outcome) → file_at k p ≡ Some name → texts_of k s.held p ≡ text_read p (s.held name)
    → steps.TextStops s name p o → Stops s k (or_outcome Verdict (texts_of k s.held p)) (λ q. q ≡ p) (Verdict o)
stops_text s k p name outcome.Agree is same stop = stop
stops_text s k p name (outcome.Witness keep) is same stop = stop
stops_text s k p name outcome.Usage is same stop = stop
stops_text s k p name (outcome.Refused q f) is same stop = absurd stop
stops_text s k p name (outcome.Spent spent) is same stop = stop
stops_text s k p name (outcome.Limit l) is same stop = (
  subst (λ (x : Limit). IsLong s k x) (sym stop.0) (subst (IsLongName s) (sym is) stop.1),
  λ t. or_err _ _ (same ∙ stop.2 t ∙ ap (λ (x : Limit). Err (outcome.Limit x)) (sym stop.0)),
)
stops_text s k p name (outcome.ReadFault q) is same stop =
    (subst (λ (x : Part). Failed s (file_at k x)) (sym stop.0) (subst (Failed s) (sym is) stop.1), λ t. stop.0)
stops_text s k p name outcome.WriteFault is same stop = stop
stops_text s k p name outcome.NoMemory is same stop = tt

-- the text of a query
path-text : (k : RaCommand) (held : Holding) (q : QueryPart) → texts_of k held (query_part q) ≡ text_read (query_part q) (held (query_path k q))
path-text k held First = refl
path-text k held Second = refl

path-file : (k : RaCommand) (q : QueryPart) → file_at k (query_part q) ≡ Some (query_path k q)
path-file k First = refl
path-file k Second = refl

pub text_given : (k : RaCommand) (held : Holding) (q : QueryPart) (p : Part) (name text : List ℕ) → p ≡ query_part q → name ≡ query_path k q
    → text_read p (held name) ≡ Ok text → text_judged k held (query_part q) ≡ Ok text
text_given k held q p name text part path is =
    ap (or_outcome Verdict) (path-text k held q ∙ ap (λ (n : List ℕ). text_read (query_part q) (held n)) (sym path) ∙ ap (λ (x : Part). text_read x (held name)) (sym part) ∙ is)

pub stops_query_text : (s : Seen) (k : RaCommand) (q : QueryPart) (p : Part) (name : List ℕ) (o : Outcome) → p ≡ query_part q → name ≡ query_path k q
    → steps.TextStops s name p o → Stops s k (text_judged k s.held (query_part q)) (λ x. x ≡ query_part q) (Verdict o)
stops_query_text s k q p name o part path stop =
    stops_text s k (query_part q) (query_path k q) o (path-file k q) (path-text k s.held q)
    (subst (λ (x : Part). steps.TextStops s (query_path k q) x o) part (subst (λ (n : List ℕ). steps.TextStops s n p o) path stop))

pub placeless_text : (s : Seen) (name : List ℕ) (p : Part) (o : Outcome) → steps.TextStops s name p o → IsPlaceless (Verdict o)
placeless_text s name p outcome.Agree stop k held = tt
placeless_text s name p (outcome.Witness keep) stop k held = tt
placeless_text s name p outcome.Usage stop k held = tt
placeless_text s name p (outcome.Refused q f) stop k held = absurd stop
placeless_text s name p (outcome.Spent spent) stop k held = tt
placeless_text s name p (outcome.Limit l) stop k held = tt
placeless_text s name p (outcome.ReadFault q) stop k held = tt
placeless_text s name p outcome.WriteFault stop k held = tt
placeless_text s name p outcome.NoMemory stop k held = tt

-- a syntax error whose place is in the text of a part
known-text : {T : Type 0} (r : Result T Outcome) (x : T) → or_outcome Verdict r ≡ Ok x → r ≡ Ok x
known-text (Ok y) x is = let same : y ≡ x = cc in ap Ok same
known-text (Err e) x is = cc

pub placed_at : (k : RaCommand) (held : Holding) (p : Part) (text : List ℕ) (o : RaOutcome) → text_judged k held p ≡ Ok text → PlacedIn p text o → Placed k held o
placed_at k held p text (Refused q f) is h =
    subst (λ (x : Part). IfOk (texts_of k held x) (λ t. Stands t f)) (sym h.0) (subst (λ (r : Result (List ℕ) Outcome). IfOk r (λ t. Stands t f)) (sym (known-text (texts_of k held p) text is)) h.1)
placed_at k held p text (Verdict outcome.Agree) is h = absurd h
placed_at k held p text (Verdict (outcome.Witness keep)) is h = absurd h
placed_at k held p text (Verdict outcome.Usage) is h = absurd h
placed_at k held p text (Verdict (outcome.Refused q f)) is h = absurd h
placed_at k held p text (Verdict (outcome.Limit l)) is h = absurd h
placed_at k held p text (Verdict (outcome.Spent s)) is h = absurd h
placed_at k held p text (Verdict (outcome.ReadFault q)) is h = absurd h
placed_at k held p text (Verdict outcome.WriteFault) is h = absurd h
placed_at k held p text (Verdict outcome.NoMemory) is h = tt

-- the same files, later
pub placed_later : (k : RaCommand) (held later : Holding) (o : RaOutcome) → later ≡ held → Placed k later o → Placed k held o
placed_later k held later o same h = subst (λ (x : Holding). Placed k x o) same h

-- ---- one step after another

-- the first step of two
pub stops_first : {S T : Type 0} (s : Seen) (k : RaCommand) (j : Result S RaOutcome) (f : S → Result T RaOutcome) (R R' : Part → Type 0) (o : RaOutcome)
    → ((p : Part) → R p → R' p) → Stops s k j R o → Stops s k (then_read j f) R' o
stops_first s k j f R R' (Verdict outcome.Agree) reach stop = stop
stops_first s k j f R R' (Verdict (outcome.Witness keep)) reach stop = stop
stops_first s k j f R R' (Verdict outcome.Usage) reach stop = stop
stops_first s k j f R R' (Verdict (outcome.Refused p fault)) reach stop = (stop.0, λ t. then_err j f _ (stop.1 t))
stops_first s k j f R R' (Verdict (outcome.Spent spent)) reach stop = stop
stops_first s k j f R R' (Verdict (outcome.Limit l)) reach stop = (stop.0, λ t. then_err j f _ (stop.1 t))
stops_first s k j f R R' (Verdict (outcome.ReadFault p)) reach stop = (stop.0, λ t. reach p (stop.1 t))
stops_first s k j f R R' (Verdict outcome.WriteFault) reach stop = stop
stops_first s k j f R R' (Verdict outcome.NoMemory) reach stop = tt
stops_first s k j f R R' (Refused p fault) reach stop = (stop.0, λ t. then_err j f _ (stop.1 t))

long_on : (tells : Bool) (held held' : Holding) (before mid after : List ℕ → ℕ) (current : Option (List ℕ)) (taken : ℕ) (o : Option (List ℕ))
    → IsLongName (seen tells held' mid after current taken) o → IsLongName (seen tells held before after current taken) o
long_on tells held held' before mid after current taken None long = long
long_on tells held held' before mid after current taken (Some name) long = long

limit_on : (tells : Bool) (held held' : Holding) (before mid after : List ℕ → ℕ) (current : Option (List ℕ)) (taken : ℕ) (k : RaCommand) (l : Limit)
    → IsLong (seen tells held' mid after current taken) k l → IsLong (seen tells held before after current taken) k l
limit_on tells held held' before mid after current taken k (limit.TooLong p) long = long_on tells held held' before mid after current taken (file_at k p) long
limit_on tells held held' before mid after current taken k limit.Tables long = tt
limit_on tells held held' before mid after current taken k (limit.Columns table) long = tt
limit_on tells held held' before mid after current taken k (limit.Rules table) long = tt
limit_on tells held held' before mid after current taken k limit.Rows long = tt
limit_on tells held held' before mid after current taken k (limit.Work work) long = tt

failed_on : (tells : Bool) (held held' : Holding) (before mid after : List ℕ → ℕ) (current : Option (List ℕ)) (taken : ℕ) (o : Option (List ℕ)) → NoneFell before mid
    → Failed (seen tells held' mid after current taken) o → Failed (seen tells held before after current taken) o
failed_on tells held held' before mid after current taken None grew failed = failed
failed_on tells held held' before mid after current taken (Some name) grew failed = let less = grew name in let rose = failed in omega (arith, less, rose)

-- a later step of a reading that began with smaller counts
pub stops_on : {T U : Type 0} (tells : Bool) (held held' : Holding) (before mid after : List ℕ → ℕ) (current : Option (List ℕ)) (taken : ℕ) (k : RaCommand)
    (j : Result T RaOutcome) (j' : Result U RaOutcome) (R R' : Part → Type 0) (o : RaOutcome) → NoneFell before mid
    → (IsTrue tells → (e : RaOutcome) → j ≡ Err e → j' ≡ Err e) → (IsTrue tells → (p : Part) → R p → R' p)
    → Stops (seen tells held' mid after current taken) k j R o → Stops (seen tells held before after current taken) k j' R' o
stops_on tells held held' before mid after current taken k j j' R R' (Verdict outcome.Agree) grew same reach stop = stop
stops_on tells held held' before mid after current taken k j j' R R' (Verdict (outcome.Witness keep)) grew same reach stop = stop
stops_on tells held held' before mid after current taken k j j' R R' (Verdict outcome.Usage) grew same reach stop = stop
stops_on tells held held' before mid after current taken k j j' R R' (Verdict (outcome.Refused p fault)) grew same reach stop = (stop.0, λ t. same t _ (stop.1 t))
stops_on tells held held' before mid after current taken k j j' R R' (Verdict (outcome.Spent s)) grew same reach stop = stop
stops_on tells held held' before mid after current taken k j j' R R' (Verdict (outcome.Limit l)) grew same reach stop =
    (limit_on tells held held' before mid after current taken k l stop.0, λ t. same t _ (stop.1 t))
stops_on tells held held' before mid after current taken k j j' R R' (Verdict (outcome.ReadFault p)) grew same reach stop =
    (failed_on tells held held' before mid after current taken (file_at k p) grew stop.0, λ t. reach t p (stop.1 t))
stops_on tells held held' before mid after current taken k j j' R R' (Verdict outcome.WriteFault) grew same reach stop = stop
stops_on tells held held' before mid after current taken k j j' R R' (Verdict outcome.NoMemory) grew same reach stop = tt
stops_on tells held held' before mid after current taken k j j' R R' (Refused p fault) grew same reach stop = (stop.0, λ t. same t _ (stop.1 t))

-- ---- a last step that reads no file

then_ok : {S T : Type 0} (j : Result S RaOutcome) (x : S) (f : S → Result T RaOutcome) (y : Result T RaOutcome) → j ≡ Ok x → f x ≡ y → then_read j f ≡ y
then_ok j x f y p q = rw p q

pub tail_stops : {S T : Type 0} (s : Seen) (k : RaCommand) (j : Result S RaOutcome) (f : S → Result T RaOutcome) (x : S) (R : Part → Type 0) (result : Result T RaOutcome)
    → (IsTrue s.tells → j ≡ Ok x) → IfErr result (Refuses (f x)) → IfErr result (Stops s k (then_read j f) R)
tail_stops s k j f x R (Ok y) told refuses = tt
tail_stops s k j f x R (Err o) told refuses = stops_refused s k (f x) (then_read j f) R o (λ t e is. then_ok j x f (Err e) (told t) is) refuses

pub tail_ok : {S T : Type 0} (tells : Bool) (j : Result S RaOutcome) (f : S → Result T RaOutcome) (x : S) (result : Result T RaOutcome)
    → (IsTrue tells → j ≡ Ok x) → IfOk result (λ y. f x ≡ Ok y) → IfOk result (λ y. IsTrue tells → then_read j f ≡ Ok y)
tail_ok tells j f x (Ok y) told is = λ t. then_ok j x f (Ok y) (told t) is
tail_ok tells j f x (Err o) told is = tt

-- ---- a query

query-same : (q r : Part) (schema : List Table) (text other : List ℕ) → r ≡ q → other ≡ text → query_of r schema other ≡ query_of q schema text
query-same q r schema text other part same = ap (λ (x : Part). query_of x schema other) part ∙ ap (query_of q schema) same

pub query_stops : (s : Seen) (k : RaCommand) (q r : Part) (schema : List Table) (text other : List ℕ) (result : Result Lowered RaOutcome)
    → r ≡ q → other ≡ text → (IsTrue s.tells → text_judged k s.held q ≡ Ok text) → IfErr result (Refuses (query_of r schema other))
    → IfErr result (Stops s k (query_judged k s.held q schema) (λ x. x ≡ q))
query_stops s k q r schema text other result part same told refuses =
    tail_stops s k (text_judged k s.held q) (query_of q schema) text (λ x. x ≡ q) result told
    (subst (λ (j : Result Lowered RaOutcome). IfErr result (Refuses j)) (query-same q r schema text other part same) refuses)

pub query_ok : (tells : Bool) (k : RaCommand) (held : Holding) (q r : Part) (schema : List Table) (text other : List ℕ) (result : Result Lowered RaOutcome)
    → r ≡ q → other ≡ text → (IsTrue tells → text_judged k held q ≡ Ok text) → IfOk result (λ y. query_of r schema other ≡ Ok y)
    → IfOk result (λ y. IsTrue tells → query_judged k held q schema ≡ Ok y)
query_ok tells k held q r schema text other result part same told is =
    tail_ok tells (text_judged k held q) (query_of q schema) text result told
    (subst (λ (j : Result Lowered RaOutcome). IfOk result (λ y. j ≡ Ok y)) (query-same q r schema text other part same) is)

pub query_placed : (tells : Bool) (k : RaCommand) (held : Holding) (q r : Part) (text other : List ℕ) (result : Result Lowered RaOutcome)
    → r ≡ q → other ≡ text → (IsTrue tells → text_judged k held q ≡ Ok text) → IfErr result (PlacedIn r other) → IfErr result (λ o. IsTrue tells → Placed k held o)
query_placed tells k held q r text other (Ok y) part same told placed = tt
query_placed tells k held q r text other (Err o) part same told placed =
    λ t. placed_at k held q text o (told t) (subst (λ (x : Part). PlacedIn x text o) part (subst (λ (n : List ℕ). PlacedIn r n o) same placed))

-- ---- the second query with the first, and the work

pub beside_ok : (left right : Lowered) (typed : Typed) → typed ≡ right.typed → like_left left.typed right.typed ≡ Ok typed
    → (q : Lowered) → q ≡ record { text = right.text; typed = typed } → (q ≡ right) × (beside left right ≡ Ok q)
beside_ok left right typed same is q made =
    let whole : q ≡ right = made ∙ ap (λ (t : Typed). record { text = right.text; typed = t }) same in
    (whole, then_ok (or_outcome Verdict (like_left left.typed right.typed)) typed (λ t. Ok right) (Ok q) (ap (or_outcome Verdict) is) (ap Ok (sym whole)))

pub beside_refuses : (left right : Lowered) (o : Outcome) → steps.Refuses (like_left left.typed right.typed) o → Refuses (beside left right) (Verdict o)
beside_refuses left right o r = refuses_verdict (like_left left.typed right.typed) (beside left right) o (λ e is. then_err (or_outcome Verdict (like_left left.typed right.typed)) (λ t. Ok right) (Verdict e) (or_err (like_left left.typed right.typed) e is)) r

pub within_ok : (a : Asked) (input : Accepted) → input ≡ a.input → within_limit a.input ≡ Ok input
    → (b : Asked) → b ≡ record { input = input; left = a.left; right = a.right } → (b ≡ a) × (within_judged a ≡ Ok b)
within_ok a input same is b made =
    let whole : b ≡ a = made ∙ ap (λ (i : Accepted). record { input = i; left = a.left; right = a.right }) same in
    (whole, then_ok (or_outcome Verdict (within_limit a.input)) input (λ i. Ok a) (Ok b) (ap (or_outcome Verdict) is) (ap Ok (sym whole)))

pub within_refuses : (a : Asked) (o : Outcome) → steps.Refuses (within_limit a.input) o → Refuses (within_judged a) (Verdict o)
within_refuses a o r = refuses_verdict (within_limit a.input) (within_judged a) o (λ e is. then_err (or_outcome Verdict (within_limit a.input)) (λ i. Ok a) (Verdict e) (or_err (within_limit a.input) e is)) r

-- ---- both queries

is_ok : {T : Type 0} (r : Result T RaOutcome) (x : T) → r ≡ Ok x → IsOk r
is_ok r x e = rw e refl

right-same : (k : RaCommand) (held later : Holding) (d : Data) (left : Lowered) → later ≡ held → right_judged k held d.schema left ≡ right_judged k later d.schema left
right-same k held later d left same = ap (λ (h : Holding). right_judged k h d.schema left) (sym same)

pub right_stops : (tells : Bool) (held later : Holding) (before mid after : List ℕ → ℕ) (current : Option (List ℕ)) (taken : ℕ) (k : RaCommand) (d : Data) (left : Lowered) (o : RaOutcome)
    → later ≡ held → NoneFell before mid → (IsTrue tells → query_judged k held parts.Query1 d.schema ≡ Ok left)
    → Stops (seen tells later mid after current taken) k (right_judged k later d.schema left) (λ p. p ≡ parts.Query2) o
    → Stops (seen tells held before after current taken) k (queries_judged k held d) (QueryReached k held d) o
right_stops tells held later before mid after current taken k d left o same grew told stop =
    stops_on tells held later before mid after current taken k (right_judged k later d.schema left) (queries_judged k held d) (λ p. p ≡ parts.Query2) (QueryReached k held d) o grew
    (λ t e err. then_ok (query_judged k held parts.Query1 d.schema) left _ (Err e) (told t) (then_err (right_judged k held d.schema left) _ e (right-same k held later d left same ∙ err)))
    (λ t p named. subst (QueryReached k held d) (sym named) (is_ok (query_judged k held parts.Query1 d.schema) left (told t)))
    stop

queries-known : (tells : Bool) (held later : Holding) (k : RaCommand) (d : Data) (left right : Lowered) (r : Result Asked RaOutcome)
    → later ≡ held → (IsTrue tells → query_judged k held parts.Query1 d.schema ≡ Ok left) → (IsTrue tells → right_judged k later d.schema left ≡ Ok right)
    → within_judged (asked_of k d left right) ≡ r → IsTrue tells → queries_judged k held d ≡ r
queries-known tells held later k d left right r same first second is t =
    then_ok (query_judged k held parts.Query1 d.schema) left _ r (first t) (then_ok (right_judged k held d.schema left) right _ r (right-same k held later d left same ∙ second t) is)

pub within_stops : (tells : Bool) (held later : Holding) (before after : List ℕ → ℕ) (current : Option (List ℕ)) (taken : ℕ) (k : RaCommand) (d : Data) (left right : Lowered) (a : Asked) (result : Result Asked RaOutcome)
    → later ≡ held → (IsTrue tells → query_judged k held parts.Query1 d.schema ≡ Ok left) → (IsTrue tells → right_judged k later d.schema left ≡ Ok right)
    → a ≡ asked_of k d left right → IfErr result (Refuses (within_judged a))
    → IfErr result (Stops (seen tells held before after current taken) k (queries_judged k held d) (QueryReached k held d))
within_stops tells held later before after current taken k d left right a (Ok b) same first second made refuses = tt
within_stops tells held later before after current taken k d left right a (Err o) same first second made refuses =
    stops_refused (seen tells held before after current taken) k (within_judged a) (queries_judged k held d) (QueryReached k held d) o
    (λ t e err. queries-known tells held later k d left right (Err e) same first second (ap within_judged (sym made) ∙ err) t) refuses

pub within_told : (tells : Bool) (held later : Holding) (k : RaCommand) (d : Data) (left right : Lowered) (a : Asked) (result : Result Asked RaOutcome)
    → later ≡ held → (IsTrue tells → query_judged k held parts.Query1 d.schema ≡ Ok left) → (IsTrue tells → right_judged k later d.schema left ≡ Ok right)
    → a ≡ asked_of k d left right → IfOk result (λ b. (b ≡ a) × (within_judged a ≡ Ok b)) → IfOk result (λ b. IsTrue tells → queries_judged k held d ≡ Ok b)
within_told tells held later k d left right a (Ok b) same first second made is = λ t. queries-known tells held later k d left right (Ok b) same first second (ap within_judged (sym made) ∙ is.1) t
within_told tells held later k d left right a (Err o) same first second made is = tt

pub left_stops : (s : Seen) (k : RaCommand) (d : Data) (o : RaOutcome) → Stops s k (query_judged k s.held parts.Query1 d.schema) (λ p. p ≡ parts.Query1) o
    → Stops s k (queries_judged k s.held d) (QueryReached k s.held d) o
left_stops s k d o stop =
    stops_first s k (query_judged k s.held parts.Query1 d.schema) (λ left. then_read (right_judged k s.held d.schema left) (λ right. within_judged (asked_of k d left right)))
    (λ p. p ≡ parts.Query1) (QueryReached k s.held d) o (λ p named. subst (QueryReached k s.held d) (sym named) tt) stop

-- ---- all of it

reached_query : (k : RaCommand) (held : Holding) (d : Data) → data_judged k held ≡ Ok d → (p : Part) → QueryReached k held d p → Reaches k held p
reached_query k held d is parts.Schema r = absurd r
reached_query k held d is (parts.Table at name) r = absurd r
reached_query k held d is parts.Query1 r = is_ok (data_judged k held) d is
reached_query k held d is parts.Query2 r = rw is r
reached_query k held d is parts.Queries r = absurd r

pub asked_stops : (tells : Bool) (held later : Holding) (before mid after : List ℕ → ℕ) (current : Option (List ℕ)) (taken : ℕ) (k : RaCommand) (d : Data) (result : Result Asked RaOutcome)
    → later ≡ held → NoneFell before mid → (IsTrue tells → data_judged k held ≡ Ok d)
    → IfErr result (Stops (seen tells later mid after current taken) k (queries_judged k later d) (QueryReached k later d))
    → IfErr result (Stops (seen tells held before after current taken) k (asked_judged k held) (Reaches k held))
asked_stops tells held later before mid after current taken k d (Ok a) same grew told stop = tt
asked_stops tells held later before mid after current taken k d (Err o) same grew told stop =
    stops_on tells held later before mid after current taken k (queries_judged k later d) (asked_judged k held) (QueryReached k later d) (Reaches k held) o grew
    (λ t e err. then_ok (data_judged k held) d (queries_judged k held) (Err e) (told t) (ap (λ (h : Holding). queries_judged k h d) (sym same) ∙ err))
    (λ t p r. reached_query k held d (told t) p (subst (λ (h : Holding). QueryReached k h d p) same r))
    stop

pub asked_told : (tells : Bool) (held later : Holding) (k : RaCommand) (d : Data) (result : Result Asked RaOutcome)
    → later ≡ held → (IsTrue tells → data_judged k held ≡ Ok d) → IfOk result (λ a. IsTrue tells → queries_judged k later d ≡ Ok a)
    → IfOk result (λ a. IsTrue tells → asked_judged k held ≡ Ok a)
asked_told tells held later k d (Ok a) same told is = λ t. then_ok (data_judged k held) d (queries_judged k held) (Ok a) (told t) (ap (λ (h : Holding). queries_judged k h d) (sym same) ∙ is t)
asked_told tells held later k d (Err o) same told is = tt

-- the same files, later
pub if_placed_later : {T : Type 0} (tells : Bool) (k : RaCommand) (held later : Holding) (result : Result T RaOutcome) → later ≡ held
    → IfErr result (λ o. IsTrue tells → Placed k later o) → IfErr result (λ o. IsTrue tells → Placed k held o)
if_placed_later tells k held later (Ok x) same placed = tt
if_placed_later tells k held later (Err o) same placed = λ t. placed_later k held later o same (placed t)

pub if_placeless : {T : Type 0} (tells : Bool) (k : RaCommand) (held : Holding) (result : Result T RaOutcome) → IfErr result IsPlaceless → IfErr result (λ o. IsTrue tells → Placed k held o)
if_placeless tells k held (Ok x) placeless = tt
if_placeless tells k held (Err o) placeless = λ t. placeless k held

-- ---- a value that comes out as it was

pub same_holds : {T : Type 0} (P Q : T → Type 0) (x : T) (result : Result T RaOutcome) → P x → IfOk result (λ y. (y ≡ x) × Q y) → IfOk result P
same_holds P Q x (Ok y) p is = subst P (sym is.0) p
same_holds P Q x (Err o) p is = tt

pub same_told : {T : Type 0} (Q : T → Type 0) (x : T) (result : Result T RaOutcome) → IfOk result (λ y. (y ≡ x) × Q y) → IfOk result Q
same_told Q x (Ok y) is = is.1
same_told Q x (Err o) is = tt
