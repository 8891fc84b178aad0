-- Where an outcome has to come.
use Rattle.std.proofs.Common.{◌≡◌, ◌∙◌, ◌≤◌, ◌<◌, ◌^◌, ℕ, Bool, List, Result, Ok, Err, length, refl, sym, ap, subst, arith, IsTrue}
use Rattle.std.specs.Prelude.{Option, None, Some, IsOkAnd, IsSome, IsSomeAnd}
use Rattle.std.specs.Option.{ForSome}
use Rattle.rt_io.specs.Logs.{Log, NoSinkRose, at_place}
use Rattle.rt_schema.specs.Given.{places}
use Rattle.rt_schema.specs.declared.table.Table.{Table}
use Rattle.rt_io.specs.Command.{command}
use Rattle.rt_io.specs.Ranges.{Command}
use Rattle.rt_recorder.specs.declared.cert.Cert.{Cert}
use Rattle.rt_recorder.specs.declared.fault.CertFault.TheVariants as reading
use Rattle.rt_recorder.proofs.BadLemmas.{of-bad, of-cert}
use Rattle.rt_input.specs.declared.outcome.Outcome.{Outcome}
use Rattle.rt_input.specs.declared.outcome.Outcome.TheVariants as outcome
use Rattle.rt_input.specs.declared.outcome.Spent.{Spent}
use Rattle.rt_input.specs.declared.part.Part.{Part}
use Rattle.rt_input.specs.declared.part.Part.TheVariants as parts
use Rattle.rt_input.specs.Accepted.{Accepted}
use Rattle.rt_input.specs.Reading.{Call, IsRead, IsTold, ReadFaultAt, ReadFaultRow, Stop, limit_of}
use Rattle.rt_top.specs.Answers.{HasRoom, NoFileRose}
use Rattle.rt_input.specs.Judged.{HasTable, IsNamed, Reaches, TableReached, command_judged, judged, schema_judged}
use Rattle.rt_input.specs.Held.{Holding, without_mark}
use Rattle.rt_input.specs.Source.{IsKnown, Text, source_from, source_of}
use Rattle.rt_cert.specs.Certified.{IsJudged, claim_fault}
use Rattle.rt_cert.specs.declared.judgement.Judgement.TheVariants as judgement
use Rattle.rt_cert.specs.declared.judgement.Why.{Why}
use Rattle.rt_cert.specs.declared.judgement.Why.TheVariants as why
use Rattle.rt_cert.specs.declared.outcome.CertOutcome.{CertOutcome}
use Rattle.rt_cert.specs.declared.outcome.CertOutcome.TheVariants.{Proved, Valid, Malformed, Wrong, CertLong, CertRead, Verdict}
use Rattle.rt_cert.specs.Answers.{Ends, EndsVerdict, InCheck, InProve, IsFault, IsJudgedIn, IsMalformed, IsOrFault, IsProvedOrMemory, IsSpentIn, IsUsageOrFault, OverCalm, OverFile, YieldsTo, in_certificates, with_words}
use Rattle.rt_cert.specs.CertFile.{IsBadFile, IsFileOf, IsLongFile, most_bytes}
use Rattle.rt_writing.specs.Writing.{WritesTo}
use Rattle.rt_writing.proofs.WriteLemmas.{no_sink_fault, spoken}
use Rattle.rt_cert.specs.Texts.{place, verdict_text}
use Rattle.rt_cert.specs.Words.{Asked, IfCheck, IfEither, IfProve, IsCheckAnd, IsEitherAnd, IsProveAnd, IsUsage, asked_by, check, neither, prove}

-- ---- accepted and refused

not_accepted : {T E : Type 0} (r : Result T E) (e : E) (x : T) → r ≡ Err e → r ≡ Ok x → ⊥
not_accepted r e x is ok = cc

refused_as : {T : Type 0} (r : Result T Outcome) (refusal o : Outcome) → r ≡ Err refusal → r ≡ Err o → refusal ≡ o
refused_as r refusal o p q = cc

known : (tells : Bool) (k : Command) → IsTrue tells → IsKnown tells (source_of k)
known tells k t = by_case k.made
  where
    by_case : (made : Option ℕ) → IsKnown tells (source_from made k.paths)
    by_case None = t
    by_case (Some n) = tt

-- files whose contents are known
told : (c : Call) → IsTrue c.files.tells → IsTold c
told c t = λ k is. known c.files.tells k t

some_same : {X : Type 0} {x y : X} → Some x ≡ Some y → x ≡ y
some_same e = cc

none_some : {X : Type 0} {x : X} → None ≡ Some x → ⊥
none_some e = cc

-- arguments that are no command are refused as that
no_command : (c : Call) → command c.words ≡ None → judged c.words c.files.held ≡ Err outcome.Usage
no_command c none = ap (command_judged c.files.held) none

-- nothing is read of them
no_options : (P : Command → Type 0) (o : Option Command) → o ≡ None → IsSomeAnd o P → ⊥
no_options P o none some = subst (λ (o : Option Command). IsSomeAnd o P) none some

no_some : (o : Option Command) → o ≡ None → IsSome o → ⊥
no_some None none some = cc
no_some (Some k) none some = cc

-- ---- files and searches that don't fail

-- a part that is reached is one that the command names
named_from_reached : (k : Command) (held : Holding) (part : Part) → Reaches (source_of k) held part → IsNamed (source_of k) held part
named_from_reached k held parts.Schema reached = tt
named_from_reached k held (parts.Table at name) reached = weaker (schema_judged (source_of k) held) reached
  where
    weaker : (r : Result (List Table) Outcome) → IsOkAnd r (TableReached (source_of k) held at name) → IsOkAnd r (HasTable at name)
    weaker (Ok schema) h = h.0
    weaker (Err e) h = h
named_from_reached k held parts.Query1 reached = tt
named_from_reached k held parts.Query2 reached = tt
named_from_reached k held parts.Queries reached = reached

-- so its file didn't fail
no_read_fault : (c : Call) (part : Part) → ReadFaultRow c part → IsTold c → NoFileRose c → ⊥
no_read_fault c part row knows calm = by_command (command c.words) refl row
  where
    by_command : (o : Option Command) → command c.words ≡ o → IsSomeAnd o (ReadFaultAt c.files part) → ⊥
    by_command None is h = h
    by_command (Some k) is h = calm k is part (named_from_reached k c.files.held part (h.reached (knows k is))) h.failed

-- a budget that no search can spend isn't spent
no_room : (conflicts : Option ℕ) (budget most : ℕ) → conflicts ≡ Some budget → budget < most → ForSome conflicts (λ b. most ≤ b) → ⊥
no_room None budget most is small room = cc
no_room (Some b) budget most is small room = let same : b ≡ budget = cc in omega (arith, same, small, room)

-- ---- arguments that are no command

none_prove : (c : Call) (a : Asked) → IsUsage a → (P : Accepted → Type 0) → IsProveAnd a (λ args. (input : Accepted) × IsRead (with_words c args) input × P input) → ⊥
none_prove c (prove args) usage P h = no_options _ (command args) usage h.1.options
none_prove c (check name args) usage P h = h
none_prove c neither usage P h = h

none_check : (c : Call) (a : Asked) → IsUsage a → (P : Text → Accepted → Type 0) → IsCheckAnd a (λ name args. (input : Accepted) × IsRead (with_words c args) input × P name input) → ⊥
none_check c (prove args) usage P h = h
none_check c (check name args) usage P h = no_options _ (command args) usage h.1.options
none_check c neither usage P h = h

-- a fact of the command's arguments
none_either : (a : Asked) → IsUsage a → (P : List Text → Type 0) → ((args : List Text) → command args ≡ None → P args → ⊥) → IsEitherAnd a P → ⊥
none_either (prove args) usage P none h = none args usage h
none_either (check name args) usage P none h = none args usage h
none_either neither usage P none h = h

usage_verdict : (c : Call) → IsUsage (asked_by c.words) → (o : Outcome) (said : Text) → EndsVerdict c o said → IsUsageOrFault (Verdict o)
usage_verdict c usage outcome.Agree said ends = absurd ends
usage_verdict c usage (outcome.Witness keep) said ends = absurd ends
usage_verdict c usage outcome.Usage said ends = refl
usage_verdict c usage (outcome.Refused part fault) said ends = absurd (none_either (asked_by c.words) usage _ (λ args none h. no_some (command args) none h.0.0) ends)
usage_verdict c usage (outcome.Spent s) said ends = absurd (none_prove c (asked_by c.words) usage (IsSpentIn s said) ends)
usage_verdict c usage (outcome.Limit l) said ends = absurd (none_either (asked_by c.words) usage _ (λ args none h. no_options _ (command args) none h.0.0) ends)
usage_verdict c usage (outcome.ReadFault part) said ends = absurd (none_either (asked_by c.words) usage _ (λ args none h. no_options _ (command args) none h.0) ends)
usage_verdict c usage outcome.WriteFault said ends = absurd ends
usage_verdict c usage outcome.NoMemory said ends = absurd ends

usage_row : (c : Call) → IsUsage (asked_by c.words) → (o : CertOutcome) (said : Text) → Ends c o said → IsUsageOrFault o
usage_row c usage (Proved cert e) said ends = none_prove c (asked_by c.words) usage _ ends.0
usage_row c usage (Valid keep) said ends = none_check c (asked_by c.words) usage _ ends.0
usage_row c usage (Malformed fault) said ends = none_check c (asked_by c.words) usage _ ends.0
usage_row c usage (Wrong w) said ends = none_check c (asked_by c.words) usage _ ends.0
usage_row c usage CertLong said ends = none_check c (asked_by c.words) usage _ ends.0
usage_row c usage CertRead said ends = none_check c (asked_by c.words) usage _ ends.0
usage_row c usage (Verdict o) said ends = usage_verdict c usage o said ends

-- ---- the arguments of a command that is asked for

module _ (c : Call) (args : List Text) (prove_read : (P : Accepted → Type 0) → InProve c P → (input : Accepted) × IsRead (with_words c args) input)
    (check_read : (P : Text → Accepted → Type 0) → InCheck c P → (input : Accepted) × IsRead (with_words c args) input)
    (either : (P : List Text → Type 0) → IsEitherAnd (asked_by c.words) P → P args) (usage : IsUsage (asked_by c.words) → command args ≡ None) where
  halted : (o : Outcome) (said : Text) → IsEitherAnd (asked_by c.words) (λ args. Stop (with_words c args) o × (said ≡ verdict_text (limit_of (command args)) o)) → Stop (with_words c args) o
  halted o said h = (either (λ args. Stop (with_words c args) o × (said ≡ verdict_text (limit_of (command args)) o)) h).0

  module _ (refusal : Outcome) (knows : IsTold (with_words c args)) (err : judged args c.files.held ≡ Err refusal) where
    not_read : (h : (input : Accepted) × IsRead (with_words c args) input) → ⊥
    not_read h = not_accepted (judged args c.files.held) refusal h.0 err (h.1.told knows)

    verdict_yields : (o : Outcome) (said : Text) → EndsVerdict c o said → YieldsTo refusal (Verdict o)
    verdict_yields outcome.Agree said ends = absurd ends
    verdict_yields (outcome.Witness keep) said ends = absurd ends
    verdict_yields outcome.Usage said ends = refused_as (judged args c.files.held) refusal outcome.Usage err (no_command (with_words c args) (usage ends.0))
    verdict_yields (outcome.Refused part fault) said ends = refused_as (judged args c.files.held) refusal _ err ((halted (outcome.Refused part fault) said ends).2 knows)
    verdict_yields (outcome.Spent s) said ends = absurd (not_read (prove_read (IsSpentIn s said) ends))
    verdict_yields (outcome.Limit l) said ends = refused_as (judged args c.files.held) refusal _ err ((halted (outcome.Limit l) said ends).1 knows)
    verdict_yields (outcome.ReadFault part) said ends = tt
    verdict_yields outcome.WriteFault said ends = tt
    verdict_yields outcome.NoMemory said ends = tt

    row_yields : (o : CertOutcome) (said : Text) → Ends c o said → YieldsTo refusal o
    row_yields (Proved cert e) said ends = not_read (prove_read _ ends.0)
    row_yields (Valid keep) said ends = not_read (check_read _ ends.0)
    row_yields (Malformed fault) said ends = not_read (check_read _ ends.0)
    row_yields (Wrong w) said ends = not_read (check_read _ ends.0)
    row_yields CertLong said ends = not_read (check_read _ ends.0)
    row_yields CertRead said ends = not_read (check_read _ ends.0)
    row_yields (Verdict o) said ends = verdict_yields o said ends

  module _ (input : Accepted) (knows : IsTold (with_words c args)) (ok : judged args c.files.held ≡ Ok input) where
    -- over an accepted input only a spent budget or an error is an outcome of `ratest`
    accepted_verdict : (P : Outcome → Type 0) (o : Outcome) (said : Text) → ((s : Spent) → InProve c (IsSpentIn s said) → P (outcome.Spent s))
        → ((part : Part) → ReadFaultRow (with_words c args) part → P (outcome.ReadFault part)) → EndsVerdict c o said → P o
    accepted_verdict P outcome.Agree said spent unread ends = absurd ends
    accepted_verdict P (outcome.Witness keep) said spent unread ends = absurd ends
    accepted_verdict P outcome.Usage said spent unread ends = absurd (not_accepted (judged args c.files.held) outcome.Usage input (no_command (with_words c args) (usage ends.0)) ok)
    accepted_verdict P (outcome.Refused part f) said spent unread ends = absurd (not_accepted (judged args c.files.held) _ input ((halted (outcome.Refused part f) said ends).2 knows) ok)
    accepted_verdict P (outcome.Spent s) said spent unread ends = spent s ends
    accepted_verdict P (outcome.Limit l) said spent unread ends = absurd (not_accepted (judged args c.files.held) _ input ((halted (outcome.Limit l) said ends).1 knows) ok)
    accepted_verdict P (outcome.ReadFault part) said spent unread ends = unread part (halted (outcome.ReadFault part) said ends)
    accepted_verdict P outcome.WriteFault said spent unread ends = absurd ends
    accepted_verdict P outcome.NoMemory said spent unread ends = absurd ends

    same_input : (other : Accepted) → IsRead (with_words c args) other → other ≡ input
    same_input other read = let e : Ok other ≡ Ok input = sym (read.told knows) ∙ ok in cc

-- ---- a certificate is asked for

module _ (c : Call) (args : List Text) (is : asked_by c.words ≡ prove args) where
  in_prove : (P : Accepted → Type 0) → InProve c P → (input : Accepted) × IsRead (with_words c args) input × P input
  in_prove P h = subst (λ (a : Asked). IsProveAnd a (λ args. (input : Accepted) × IsRead (with_words c args) input × P input)) is h

  prove_read : (P : Accepted → Type 0) → InProve c P → (input : Accepted) × IsRead (with_words c args) input
  prove_read P h = let r = in_prove P h in (r.0, r.1)

  prove_check : (P : Text → Accepted → Type 0) → InCheck c P → ⊥
  prove_check P h = subst (λ (a : Asked). IsCheckAnd a (λ name args. (input : Accepted) × IsRead (with_words c args) input × P name input)) is h

  prove_either : (P : List Text → Type 0) → IsEitherAnd (asked_by c.words) P → P args
  prove_either P h = subst (λ (a : Asked). IsEitherAnd a P) is h

  prove_usage : IsUsage (asked_by c.words) → command args ≡ None
  prove_usage h = subst IsUsage is h

  prove_yields : (refusal : Outcome) → IsTold (with_words c args) → judged args c.files.held ≡ Err refusal → (o : CertOutcome) (said : Text) → Ends c o said → YieldsTo refusal o
  prove_yields refusal known err o said ends = row_yields c args prove_read (λ P h. absurd (prove_check P h)) prove_either prove_usage refusal known err o said ends

  module _ (knows : IsTold (with_words c args)) (calm : NoFileRose (with_words c args)) (input : Accepted) (ok : judged args c.files.held ≡ Ok input) (room : HasRoom input) where
    not_given_up : (s : Spent) (said : Text) → InProve c (IsSpentIn s said) → ⊥
    not_given_up s said h =
        let spent = in_prove (IsSpentIn s said) h in
        let other = spent.0 in
        let one : other ≡ input = same_input c args prove_read (λ P h. absurd (prove_check P h)) prove_either prove_usage input knows ok other spent.1 in
        let bound : ForSome other.conflicts (λ b. 2 ^ places other.given.tables ≤ b) = subst HasRoom (sym one) room in
        no_room other.conflicts s.budget (2 ^ places other.given.tables) spent.2.0 spent.2.1.small bound

    proved_row : (o : CertOutcome) (said : Text) → Ends c o said → IsProvedOrMemory o
    proved_row (Proved cert e) said ends = tt
    proved_row (Valid keep) said ends = prove_check _ ends.0
    proved_row (Malformed fault) said ends = prove_check _ ends.0
    proved_row (Wrong w) said ends = prove_check _ ends.0
    proved_row CertLong said ends = prove_check _ ends.0
    proved_row CertRead said ends = prove_check _ ends.0
    proved_row (Verdict o) said ends = accepted_verdict c args prove_read (λ P h. absurd (prove_check P h)) prove_either prove_usage input knows ok
        (λ o. IsProvedOrMemory (Verdict o)) o said (λ s h. absurd (not_given_up s said h)) (λ part row. absurd (no_read_fault (with_words c args) part row knows calm)) ends

-- ---- the check of one is

module _ (c : Call) (name : Text) (args : List Text) (is : asked_by c.words ≡ check name args) where
  in_check : (P : Text → Accepted → Type 0) → InCheck c P → (input : Accepted) × IsRead (with_words c args) input × P name input
  in_check P h = subst (λ (a : Asked). IsCheckAnd a (λ name args. (input : Accepted) × IsRead (with_words c args) input × P name input)) is h

  check_read : (P : Text → Accepted → Type 0) → InCheck c P → (input : Accepted) × IsRead (with_words c args) input
  check_read P h = let r = in_check P h in (r.0, r.1)

  check_prove : (P : Accepted → Type 0) → InProve c P → ⊥
  check_prove P h = subst (λ (a : Asked). IsProveAnd a (λ args. (input : Accepted) × IsRead (with_words c args) input × P input)) is h

  check_either : (P : List Text → Type 0) → IsEitherAnd (asked_by c.words) P → P args
  check_either P h = subst (λ (a : Asked). IsEitherAnd a P) is h

  check_usage : IsUsage (asked_by c.words) → command args ≡ None
  check_usage h = subst IsUsage is h

  check_yields : (refusal : Outcome) → IsTold (with_words c args) → judged args c.files.held ≡ Err refusal → (o : CertOutcome) (said : Text) → Ends c o said → YieldsTo refusal o
  check_yields refusal known err o said ends = row_yields c args (λ P h. absurd (check_prove P h)) check_read check_either check_usage refusal known err o said ends

  module _ (tells : IsTrue c.files.tells) (input : Accepted) (ok : judged args c.files.held ≡ Ok input) where
    fault_row : (o : Outcome) (said : Text) → EndsVerdict c o said → IsFault o
    fault_row o said ends = accepted_verdict c args (λ P h. absurd (check_prove P h)) check_read check_either check_usage input (told (with_words c args) tells) ok
        IsFault o said (λ s h. absurd (check_prove (IsSpentIn s said) h)) (λ part h. tt) ends

    same : (other : Accepted) → IsRead (with_words c args) other → other ≡ input
    same other read = same_input c args (λ P h. absurd (check_prove P h)) check_read check_either check_usage input (told (with_words c args) tells) ok other read

    long_row : (o : CertOutcome) (said : Text) → most_bytes < length (c.files.held name) → Ends c o said → IsOrFault CertLong o
    long_row (Proved cert e) said long ends = absurd (check_prove _ ends.0)
    long_row (Valid keep) said long ends = let h = in_check (IsJudgedIn c.files (judgement.Valid keep)) ends.0 in let short = (h.2.1 tells).short in absurd (omega (arith, long, short))
    long_row (Malformed (reading.BadLine line)) said long ends =
        let h = in_check (λ name input. IsMalformed c.files (reading.BadLine line) name) ends.0 in let short = (h.2 tells).short in absurd (omega (arith, long, short))
    long_row (Malformed reading.NoMemory) said long ends = absurd (in_check (λ name input. IsMalformed c.files reading.NoMemory name) ends.0).2
    long_row (Wrong w) said long ends = let h = in_check (IsJudgedIn c.files (judgement.Wrong w)) ends.0 in let short = (h.2.1 tells).short in absurd (omega (arith, long, short))
    long_row CertLong said long ends = refl
    long_row CertRead said long ends = tt
    long_row (Verdict o) said long ends = fault_row o said ends

    bad_row : (line : ℕ) → IsBadFile (c.files.held name) line → (o : CertOutcome) (said : Text) → Ends c o said → IsOrFault (Malformed (reading.BadLine line)) o
    bad_row line bad (Proved cert e) said ends = absurd (check_prove _ ends.0)
    bad_row line bad (Valid keep) said ends =
        let h = in_check (IsJudgedIn c.files (judgement.Valid keep)) ends.0 in let file = h.2.1 tells in absurd (bad.bad.other h.2.0 file.fits file.spelled)
    bad_row line bad (Malformed (reading.BadLine m)) said ends =
        let h = in_check (λ name input. IsMalformed c.files (reading.BadLine m) name) ends.0 in
        ap (λ (n : ℕ). Malformed (reading.BadLine n)) (of-bad (without_mark (c.files.held name)) (Err (reading.BadLine m)) (h.2 tells).bad line bad.bad)
    bad_row line bad (Malformed reading.NoMemory) said ends = absurd (in_check (λ name input. IsMalformed c.files reading.NoMemory name) ends.0).2
    bad_row line bad (Wrong w) said ends =
        let h = in_check (IsJudgedIn c.files (judgement.Wrong w)) ends.0 in let file = h.2.1 tells in absurd (bad.bad.other h.2.0 file.fits file.spelled)
    bad_row line bad CertLong said ends = let h = in_check (λ name input. IsLongFile c.files name) ends.0 in let long = h.2.long tells in let short = bad.short in absurd (omega (arith, long, short))
    bad_row line bad CertRead said ends = tt
    bad_row line bad (Verdict o) said ends = fault_row o said ends

    module _ (cert : Cert) (file : IsFileOf (c.files.held name) cert) (cause : Why) (fault : claim_fault input cert.keep ≡ Some cause) where
      -- the certificate of the file and the input are these
      fault_of : (other : Accepted) (d : Cert) → IsRead (with_words c args) other → IsFileOf (c.files.held name) d → claim_fault other d.keep ≡ Some cause
      fault_of other d read is =
          let one : d ≡ cert = of-cert (without_mark (c.files.held name)) (Ok d) (is.fits, is.spelled) cert file.fits file.spelled in
          ap (λ (x : Accepted). claim_fault x d.keep) (same other read) ∙ ap (λ (x : Cert). claim_fault input x.keep) one ∙ fault

      wrong_is : (w : Why) (other : Accepted) (d : Cert) → claim_fault other d.keep ≡ Some cause → IsJudged other d (judgement.Wrong w) → w ≡ cause
      wrong_is (why.Place place) other d is judged = some_same (sym judged ∙ is)
      wrong_is why.NotLawful other d is judged = some_same (sym judged ∙ is)
      wrong_is why.SameAnswers other d is judged = some_same (sym judged ∙ is)
      wrong_is (why.Added e) other d is judged = absurd (none_some (sym judged.0.claim ∙ is))
      wrong_is (why.Line k e) other d is judged = absurd (none_some (sym judged.0.claim ∙ is))
      wrong_is (why.NoRefutation e) other d is judged = absurd (none_some (sym judged.0.claim ∙ is))

      claim_row : (o : CertOutcome) (said : Text) → Ends c o said → IsOrFault (Wrong cause) o
      claim_row (Proved cert e) said ends = absurd (check_prove _ ends.0)
      claim_row (Valid keep) said ends =
          let h = in_check (IsJudgedIn c.files (judgement.Valid keep)) ends.0 in absurd (none_some (sym h.2.2.claim ∙ fault_of h.0 h.2.0 h.1 (h.2.1 tells)))
      claim_row (Malformed (reading.BadLine m)) said ends =
          let h = in_check (λ name input. IsMalformed c.files (reading.BadLine m) name) ends.0 in absurd ((h.2 tells).bad.other cert file.fits file.spelled)
      claim_row (Malformed reading.NoMemory) said ends = absurd (in_check (λ name input. IsMalformed c.files reading.NoMemory name) ends.0).2
      claim_row (Wrong w) said ends =
          let h = in_check (IsJudgedIn c.files (judgement.Wrong w)) ends.0 in ap (λ (w : Why). Wrong w) (wrong_is w h.0 h.2.0 (fault_of h.0 h.2.0 h.1 (h.2.1 tells)) h.2.2)
      claim_row CertLong said ends = let h = in_check (λ name input. IsLongFile c.files name) ends.0 in let long = h.2.long tells in let short = file.short in absurd (omega (arith, long, short))
      claim_row CertRead said ends = tt
      claim_row (Verdict o) said ends = fault_row o said ends

-- ---- the clauses of the call

pub either_all : (a : Asked) (P : List Text → Type 0) → ((args : List Text) → P args) → IfEither a P
either_all (prove args) P p = p args
either_all (check name args) P p = p args
either_all neither P p = tt

pub prove_all : (a : Asked) (P : List Text → Type 0) → ((args : List Text) → P args) → IfProve a P
prove_all (prove args) P p = p args
prove_all (check name args) P p = tt
prove_all neither P p = tt

pub check_all : (a : Asked) (P : Text → List Text → Type 0) → ((name : Text) (args : List Text) → P name args) → IfCheck a P
check_all (prove args) P p = tt
check_all (check name args) P p = p name args
check_all neither P p = tt

module _ (c : Call) (out err : Log) (o : CertOutcome) (said : Text) (result : CertOutcome) (ends : Ends c o said) (wrote : WritesTo in_certificates (at_place (place o) out err) o said result) where
  pub usage_told : IsUsage (asked_by c.words) → IsUsageOrFault result
  usage_told usage = spoken in_certificates IsUsageOrFault (at_place (place o) out err) o said result (λ b. tt) tt (usage_row c usage o said ends) wrote

  pub refusal_told : IfEither (asked_by c.words) (λ args. IsTold (with_words c args) → (refusal : Outcome) → judged args c.files.held ≡ Err refusal → YieldsTo refusal result)
  refusal_told = by_case (asked_by c.words) refl
    where
      by_case : (a : Asked) → asked_by c.words ≡ a → IfEither a (λ args. IsTold (with_words c args) → (refusal : Outcome) → judged args c.files.held ≡ Err refusal → YieldsTo refusal result)
      by_case (prove args) is = λ knows refusal e. spoken in_certificates (YieldsTo refusal) (at_place (place o) out err) o said result (λ b. tt) tt (prove_yields c args is refusal knows e o said ends) wrote
      by_case (check name args) is = λ knows refusal e. spoken in_certificates (YieldsTo refusal) (at_place (place o) out err) o said result (λ b. tt) tt (check_yields c name args is refusal knows e o said ends) wrote
      by_case neither is = tt

  pub long_told : OverFile c (λ input bytes. most_bytes < length bytes → IsOrFault CertLong result)
  long_told tells = by_case (asked_by c.words) refl
    where
      by_case : (a : Asked) → asked_by c.words ≡ a → IfCheck a (λ name args. (input : Accepted) → judged args c.files.held ≡ Ok input → most_bytes < length (c.files.held name) → IsOrFault CertLong result)
      by_case (prove args) is = tt
      by_case (check name args) is = λ input ok long. spoken in_certificates (IsOrFault CertLong) (at_place (place o) out err) o said result (λ b. tt) tt (long_row c name args is tells input ok o said long ends) wrote
      by_case neither is = tt

  pub bad_told : OverFile c (λ input bytes. (line : ℕ) → IsBadFile bytes line → IsOrFault (Malformed (reading.BadLine line)) result)
  bad_told tells = by_case (asked_by c.words) refl
    where
      by_case : (a : Asked) → asked_by c.words ≡ a → IfCheck a (λ name args. (input : Accepted) → judged args c.files.held ≡ Ok input → (line : ℕ) → IsBadFile (c.files.held name) line → IsOrFault (Malformed (reading.BadLine line)) result)
      by_case (prove args) is = tt
      by_case (check name args) is = λ input ok line bad.
          spoken in_certificates (IsOrFault (Malformed (reading.BadLine line))) (at_place (place o) out err) o said result (λ b. tt) tt (bad_row c name args is tells input ok line bad o said ends) wrote
      by_case neither is = tt

  pub claim_told : OverFile c (λ input bytes. (cert : Cert) → IsFileOf bytes cert → (cause : Why) → claim_fault input cert.keep ≡ Some cause → IsOrFault (Wrong cause) result)
  claim_told tells = by_case (asked_by c.words) refl
    where
      by_case : (a : Asked) → asked_by c.words ≡ a → IfCheck a (λ name args. (input : Accepted) → judged args c.files.held ≡ Ok input
          → (cert : Cert) → IsFileOf (c.files.held name) cert → (cause : Why) → claim_fault input cert.keep ≡ Some cause → IsOrFault (Wrong cause) result)
      by_case (prove args) is = tt
      by_case (check name args) is = λ input ok cert file cause fault.
          spoken in_certificates (IsOrFault (Wrong cause)) (at_place (place o) out err) o said result (λ b. tt) tt (claim_row c name args is tells input ok cert file cause fault o said ends) wrote
      by_case neither is = tt

  pub proved_told : OverCalm c (NoSinkRose out err → IsProvedOrMemory result)
  proved_told = by_case (asked_by c.words) refl
    where
      by_case : (a : Asked) → asked_by c.words ≡ a → IfProve a (λ args. IsTold (with_words c args) → NoFileRose (with_words c args)
          → (input : Accepted) → judged args c.files.held ≡ Ok input → HasRoom input → NoSinkRose out err → IsProvedOrMemory result)
      by_case (prove args) is = λ knows calm input ok room sinks.
          spoken in_certificates IsProvedOrMemory (at_place (place o) out err) o said result (λ b. no_sink_fault out err (place o) sinks b) tt (proved_row c args is knows calm input ok room o said ends) wrote
      by_case (check name args) is = tt
      by_case neither is = tt
