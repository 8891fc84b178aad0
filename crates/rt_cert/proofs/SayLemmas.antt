-- From what is said of a certificate to the outcome of the call.
use Rattle.std.proofs.Common.{◌≡◌, ◌∙◌, ◌≤◌, ◌-◌, ℕ, Bool, true, List, [], ◌∷◌, None, Result, Ok, Err, length, take, drop, get_or, refl, sym, ap, subst, inl, inr, arith, IsTrue}
use Rattle.std.proofs.lemmas.List.{take_all}
use Rattle.std.proofs.lemmas.Slice.Eq.{bytes_eq-Decides}
use Rattle.std.specs.Prelude.{Option, Some, IfOk, codes}
use Rattle.std.specs.Str.{bytes_eq}
use Rattle.rt_io.specs.Edge.{NoneFell, Rose}
use Rattle.rt_io.specs.Gave.{Adds, Reading}
use Rattle.rt_io.proofs.GaveLemmas.{fits_first}
use Rattle.rt_value.specs.declared.no_memory.NoMemory.{NoMemory}
use Rattle.rt_io.specs.Command.{command}
use Rattle.rt_recorder.specs.declared.cert.Cert.{Cert}
use Rattle.rt_recorder.specs.declared.fault.CertFault.TheVariants as reading
use Rattle.rt_input.specs.declared.outcome.Outcome.{Outcome}
use Rattle.rt_input.specs.declared.outcome.Outcome.TheVariants as outcome
use Rattle.rt_input.specs.Accepted.{Accepted}
use Rattle.rt_input.specs.Reading.{Call, IsRead, Stop, limit_of}
use Rattle.rt_input.specs.Held.{Holding}
use Rattle.rt_input.specs.Source.{Text}
use Rattle.rt_input.specs.Steps.{Seen, seen}
use Rattle.rt_cert.specs.Certified.{IsJudged, IsProof}
use Rattle.rt_cert.specs.declared.judgement.Judgement.{Judgement}
use Rattle.rt_cert.specs.declared.judgement.Judgement.TheVariants as judgement
use Rattle.rt_cert.specs.declared.file.FileFault.{FileFault}
use Rattle.rt_cert.specs.declared.file.FileFault.TheVariants as file
use Rattle.rt_cert.specs.declared.outcome.CertOutcome.{CertOutcome}
use Rattle.rt_cert.specs.declared.outcome.CertOutcome.TheVariants.{Proved, Valid, Malformed, Wrong, CertLong, CertRead, Verdict}
use Rattle.rt_cert.specs.declared.told.Told.{Told}
use Rattle.rt_cert.specs.Answers.{Ends, EndsVerdict, InCheck, InProve, IsJudgedIn, IsMalformed, IsSpentIn, with_words}
use Rattle.rt_cert.specs.CertFile.{FileStops, IsFileOf, IsLongFile}
use Rattle.rt_cert.specs.Steps.{ChecksIn, ProvesIn, SaysCheck, SaysOver, SaysProve, SpendsIn}
use Rattle.rt_cert.specs.Texts.{fault_text, judgement_text, of_fault, of_judgement, verdict_text}
use Rattle.rt_cert.specs.Words.{Asked, IsCheckAnd, IsEitherAnd, IsProveAnd, IsUsage, asked_by, check, prove}
use Rattle.rt_cert.proofs.FileLemmas.{checks-later, later}

-- ---- the arguments

pub prove_words : (first : Text) (args : List Text) → bytes_eq first (codes "prove") ≡ true → asked_by (first ∷ args) ≡ prove args
prove_words first args is = rw is refl

pub check_words : (first name : Text) (args : List Text) → bytes_eq first (codes "check") ≡ true → asked_by (first ∷ name ∷ args) ≡ check name args
check_words first name args is =
    let same : first ≡ codes "check" = (bytes_eq-Decides first (codes "check")).0 is in
    ap (λ (word : Text). asked_by (word ∷ name ∷ args)) same

-- ---- no input

-- one of the two is asked for, with these arguments of a command
module _ (c : Call) (args : List Text) (either : (P : List Text → Type 0) → P args → IsEitherAnd (asked_by c.words) P) (usage : command args ≡ None → IsUsage (asked_by c.words)) where
  stopped : (o : Outcome) (said : Text) → Stop (with_words c args) o → (o ≡ outcome.NoMemory → ⊥) → said ≡ verdict_text (limit_of (command args)) o → Ends c (Verdict o) said
  stopped outcome.Agree said stop other says = absurd stop
  stopped (outcome.Witness keep) said stop other says = absurd stop
  stopped outcome.Usage said stop other says = (usage stop, says)
  stopped (outcome.Refused part fault) said stop other says =
      either (λ args. Stop (with_words c args) (outcome.Refused part fault) × (said ≡ verdict_text (limit_of (command args)) (outcome.Refused part fault))) (stop, says)
  stopped (outcome.Spent s) said stop other says = absurd stop
  stopped (outcome.Limit l) said stop other says =
      either (λ args. Stop (with_words c args) (outcome.Limit l) × (said ≡ verdict_text (limit_of (command args)) (outcome.Limit l))) (stop, says)
  stopped (outcome.ReadFault part) said stop other says =
      either (λ args. Stop (with_words c args) (outcome.ReadFault part) × (said ≡ verdict_text (limit_of (command args)) (outcome.ReadFault part))) (stop, says)
  stopped outcome.WriteFault said stop other says = absurd stop
  stopped outcome.NoMemory said stop other says = absurd (other refl)

  over_ends : (P : Accepted → Type 0) (o : CertOutcome) (said : Text) → ((input : Accepted) → IsRead (with_words c args) input → P input → Ends c o said)
      → SaysOver (with_words c args) P o said → Ends c o said
  over_ends P o said found says = elim says [
    | inl h ↦ found h.0 h.1 h.2
    | inr h ↦ subst (λ (o : CertOutcome). Ends c o said) (sym h.2.0) (stopped h.0 said h.1 h.2.1 h.2.2)
  ]

-- ---- a certificate that is written

module _ (c : Call) (args : List Text) (is : asked_by c.words ≡ prove args) where
  in_prove : (P : Accepted → Type 0) (input : Accepted) → IsRead (with_words c args) input → P input → InProve c P
  in_prove P input read p = subst (λ (a : Asked). IsProveAnd a (λ args. (input : Accepted) × IsRead (with_words c args) input × P input)) (sym is) (input, read, p)

  spends : (input : Accepted) → IsRead (with_words c args) input → (o : Outcome) (said : Text) → SpendsIn input o said → EndsVerdict c o said
  spends input read outcome.Agree said spent = absurd spent
  spends input read (outcome.Witness keep) said spent = absurd spent
  spends input read outcome.Usage said spent = absurd spent
  spends input read (outcome.Refused part fault) said spent = absurd spent
  spends input read (outcome.Spent s) said spent = in_prove (IsSpentIn s said) input read spent
  spends input read (outcome.Limit l) said spent = absurd spent
  spends input read (outcome.ReadFault part) said spent = absurd spent
  spends input read outcome.WriteFault said spent = absurd spent
  spends input read outcome.NoMemory said spent = absurd spent

  proves : (o : CertOutcome) (said : Text) (input : Accepted) → IsRead (with_words c args) input → ProvesIn input o said → Ends c o said
  proves (Proved cert e) said input read h = (in_prove (λ input. IsProof input cert e) input read h.0, h.1)
  proves (Valid keep) said input read h = absurd h
  proves (Malformed fault) said input read h = absurd h
  proves (Wrong w) said input read h = absurd h
  proves CertLong said input read h = absurd h
  proves CertRead said input read h = absurd h
  proves (Verdict o) said input read h = spends input read o said h

  pub prove_ends : (o : CertOutcome) (said : Text) → SaysProve (with_words c args) o said → Ends c o said
  prove_ends o said says = over_ends c args (λ P p. subst (λ (a : Asked). IsEitherAnd a P) (sym is) p) (λ u. subst IsUsage (sym is) u)
      (λ input. ProvesIn input o said) o said (proves o said) says

-- ---- the check of one

module _ (c : Call) (name : Text) (args : List Text) (is : asked_by c.words ≡ check name args) where
  in_check : (P : Text → Accepted → Type 0) (input : Accepted) → IsRead (with_words c args) input → P name input → InCheck c P
  in_check P input read p = subst (λ (a : Asked). IsCheckAnd a (λ name args. (input : Accepted) × IsRead (with_words c args) input × P name input)) (sym is) (input, read, p)

  judges : (input : Accepted) → IsRead (with_words c args) input → (cert : Cert) → (IsTrue c.files.tells → IsFileOf (c.files.held name) cert) → (j : Judgement) (said : Text)
      → IsJudged input cert j → said ≡ judgement_text j → Ends c (of_judgement j) said
  judges input read cert file (judgement.Valid keep) said judged says = (in_check (IsJudgedIn c.files (judgement.Valid keep)) input read (cert, file, judged), says)
  judges input read cert file (judgement.Wrong w) said judged says = (in_check (IsJudgedIn c.files (judgement.Wrong w)) input read (cert, file, judged), says)

  faults : (input : Accepted) → IsRead (with_words c args) input → (fault : FileFault) (said : Text) → FileStops c.files name fault → (fault ≡ file.NoMemory → ⊥)
      → said ≡ fault_text fault → Ends c (of_fault fault) said
  faults input read (file.BadLine line) said stop other says = (in_check (λ name input. IsMalformed c.files (reading.BadLine line) name) input read stop, says)
  faults input read file.Long said stop other says = (in_check (λ name input. IsLongFile c.files name) input read stop, says)
  faults input read file.Unread said stop other says = (in_check (λ name input. Rose (c.files.before name) (c.files.after name)) input read stop, says)
  faults input read file.NoMemory said stop other says = absurd (other refl)

  checks : (o : CertOutcome) (said : Text) (input : Accepted) → IsRead (with_words c args) input → ChecksIn c.files name input o said → Ends c o said
  checks o said input read says = elim says [
    | inl h ↦ subst (λ (o : CertOutcome). Ends c o said) (sym h.2.2) (judges input read h.0 h.1 h.2.0 said h.2.1 h.2.3)
    | inr h ↦ subst (λ (o : CertOutcome). Ends c o said) (sym h.2.1) (faults input read h.0 said h.1 h.2.0 h.2.2)
  ]

  pub check_ends : (o : CertOutcome) (said : Text) → SaysCheck (with_words c args) name o said → Ends c o said
  check_ends o said says = over_ends c args (λ P p. subst (λ (a : Asked). IsEitherAnd a P) (sym is) p) (λ u. subst IsUsage (sym is) u)
      (λ input. ChecksIn c.files name input o said) o said (checks o said) says

-- ---- from the arguments after the name of the command

pub prove_prepared : (words : List Text) (c : Call) (name word : Text) (b : Bool) (r : Result Told NoMemory) → 1 ≤ length words → name ≡ get_or words 0 name
    → b ≡ true → b ≡ bytes_eq word (codes "prove") → word ≡ name
    → IfOk r (λ t. SaysProve (with_words c (take (length words - 1) (drop 1 words))) t.outcome t.text) → IfOk r (λ t. Ends (with_words c words) t.outcome t.text)
prove_prepared [] c name word b r long first equal eq same says = absurd (omega (arith, long))
prove_prepared (x ∷ rest) c name word b r long first equal eq same says =
    let whole : take (length (x ∷ rest) - 1) rest ≡ rest = take_all (length (x ∷ rest) - 1) rest (omega arith) in
    let named : bytes_eq x (codes "prove") ≡ true = ap (λ (t : Text). bytes_eq t (codes "prove")) (sym (same ∙ first)) ∙ sym eq ∙ equal in
    let said : IfOk r (λ t. SaysProve (with_words c rest) t.outcome t.text) =
    subst (λ (ws : List Text). IfOk r (λ t. SaysProve (with_words c ws) t.outcome t.text)) whole says in
    by_case r said (prove_words x rest named)
  where
    by_case : (r : Result Told NoMemory) → IfOk r (λ t. SaysProve (with_words c rest) t.outcome t.text)
        → asked_by (x ∷ rest) ≡ prove rest → IfOk r (λ t. Ends (with_words c (x ∷ rest)) t.outcome t.text)
    by_case (Ok t) says is = prove_ends (with_words c (x ∷ rest)) rest is t.outcome t.text says
    by_case (Err e) says is = tt

pub check_prepared : (words : List Text) (c : Call) (name cert word : Text) (b : Bool) (r : Result Told NoMemory) → 2 ≤ length words → name ≡ get_or words 0 name → cert ≡ get_or words 1 cert
    → b ≡ true → b ≡ bytes_eq word (codes "check") → word ≡ name
    → IfOk r (λ t. SaysCheck (with_words c (take (length words - 2) (drop 2 words))) cert t.outcome t.text) → IfOk r (λ t. Ends (with_words c words) t.outcome t.text)
check_prepared [] c name cert word b r long first second equal eq same says = absurd (omega (arith, long))
check_prepared (x ∷ []) c name cert word b r long first second equal eq same says = absurd (omega (arith, long))
check_prepared (x ∷ y ∷ rest) c name cert word b r long first second equal eq same says =
    let whole : take (length (x ∷ y ∷ rest) - 2) rest ≡ rest = take_all (length (x ∷ y ∷ rest) - 2) rest (omega arith) in
    let named : bytes_eq x (codes "check") ≡ true = ap (λ (t : Text). bytes_eq t (codes "check")) (sym (same ∙ first)) ∙ sym eq ∙ equal in
    let said : IfOk r (λ t. SaysCheck (with_words c rest) y t.outcome t.text) =
    subst (λ (ws : List Text). IfOk r (λ t. SaysCheck (with_words c ws) y t.outcome t.text)) whole
    (subst (λ (q : Text). IfOk r (λ t. SaysCheck (with_words c (take (length (x ∷ y ∷ rest) - 2) rest)) q t.outcome t.text)) second says) in
    by_case r said (check_words x y rest named)
  where
    by_case : (r : Result Told NoMemory) → IfOk r (λ t. SaysCheck (with_words c rest) y t.outcome t.text)
        → asked_by (x ∷ y ∷ rest) ≡ check y rest → IfOk r (λ t. Ends (with_words c (x ∷ y ∷ rest)) t.outcome t.text)
    by_case (Ok t) says is = check_ends (with_words c (x ∷ y ∷ rest)) y rest is t.outcome t.text says
    by_case (Err e) says is = tt

-- ---- over an input that was read

pub prove_says : (c : Call) (input : Accepted) (r : Result Told NoMemory) → IsRead c input → IfOk r (λ t. ProvesIn input t.outcome t.text) → IfOk r (λ t. SaysProve c t.outcome t.text)
prove_says c input (Ok t) read says = inl (input, read, says)
prove_says c input (Err e) read says = tt

-- what was read does not hang on what the call does later
read-later : (words : List Text) (s : Seen) (after : Text → ℕ) (current : Option Text) (taken : ℕ) (old mid new : List Reading) → Adds mid new → (input : Accepted)
    → IsRead (record { words = words; files = seen s.tells s.held s.before after current taken; readings = Some (record { before = old; after = mid }) }) input
    → IsRead (record { words = words; files = s; readings = Some (record { before = old; after = new }) }) input
read-later words s after current taken old mid new more input read = record {
  sound = read.sound;
  options = read.options;
  told = read.told;
  given = λ held fits. read.given held (fits_first held old mid new more fits);
}

module _ (words : List Text) (s : Seen) (held : Holding) (mid : Text → ℕ) (same : held ≡ s.held) (grew : NoneFell s.before mid) (current : Option Text) (taken : ℕ)
    (first between last : List Reading) (more : Adds between last) (name : Text) (input : Accepted)
    (read : IsRead (record { words = words; files = seen s.tells s.held s.before mid current taken; readings = Some (record { before = first; after = between }) }) input) where
  pub check_says : (r : Result Told NoMemory) → IfOk r (λ t. ChecksIn (later s held mid) name input t.outcome t.text)
      → IfOk r (λ t. SaysCheck (record { words = words; files = s; readings = Some (record { before = first; after = last }) }) name t.outcome t.text)
  check_says (Ok t) says = inl (input, read-later words s mid current taken first between last more input read, checks-later s held mid same grew name input t.outcome t.text says)
  check_says (Err e) says = tt
