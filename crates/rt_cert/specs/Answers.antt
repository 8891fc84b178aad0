-- When each outcome of a call comes, and what the call writes.
use Rattle.std.specs.Prelude.{◌≡◌, IsTrue, List, Some, Ok, ⊤}
use Rattle.rt_io.specs.Edge.{Rose}
use Rattle.rt_io.specs.Command.{command}
use Rattle.rt_writing.specs.Writing.{Ways}
use Rattle.rt_recorder.specs.Certificate.{cert_text}
use Rattle.rt_recorder.specs.declared.cert.Cert.{Cert}
use Rattle.rt_recorder.specs.declared.fault.CertFault.{CertFault}
use Rattle.rt_recorder.specs.declared.fault.CertFault.TheVariants as faults
use Rattle.rt_input.specs.declared.outcome.Outcome.{Outcome}
use Rattle.rt_input.specs.declared.outcome.Outcome.TheVariants as outcome
use Rattle.rt_input.specs.declared.outcome.Spent.{Spent}
use Rattle.rt_input.specs.Accepted.{Accepted}
use Rattle.rt_input.specs.Reading.{Call, IsRead, IsTold, Stop, limit_of}
use Rattle.rt_top.specs.Answers as top
use Rattle.rt_input.specs.Judged.{judged}
use Rattle.rt_top.specs.GivenUp.{IsGivenUp}
use Rattle.rt_input.specs.Source.{Text}
use Rattle.rt_input.specs.Steps.{Seen}
use Rattle.rt_top.specs.Texts.{spent_of}
use Rattle.rt_cert.specs.Certified.{IsJudged, IsProof}
use Rattle.rt_cert.specs.declared.judgement.Judgement.{Judgement}
use Rattle.rt_cert.specs.declared.judgement.Judgement.TheVariants as judgement
use Rattle.rt_cert.specs.declared.outcome.CertOutcome.{CertOutcome}
use Rattle.rt_cert.specs.declared.outcome.CertOutcome.TheVariants.{Proved, Valid, Malformed, Wrong, CertLong, CertRead, Verdict}
use Rattle.rt_cert.specs.CertFile.{IsBadFile, IsFileOf, IsLongFile}
use Rattle.rt_cert.specs.Texts.{long_text, malformed_text, place, unread_text, usage_text, valid_text, verdict_text, wrong_text}
use Rattle.rt_cert.specs.Words.{IfCheck, IfProve, IsCheckAnd, IsEitherAnd, IsProveAnd, IsUsage, asked_by}

-- the call of the command of `ratest` with these arguments, over the same files
abbrev pub with_words : Call → List Text → Call
with_words c words = record { words = words; files = c.files; readings = c.readings }

-- ---- when an outcome comes

-- a certificate is asked for, of an input that was read in the call
abbrev pub InProve : Call → (Accepted → Type 0) → Type 0
InProve c P = IsProveAnd (asked_by c.words) (λ args. (input : Accepted) × IsRead (with_words c args) input × P input)

-- the check of the certificate in the file of this name is, over an input that was read in the
-- call
abbrev pub InCheck : Call → (Text → Accepted → Type 0) → Type 0
InCheck c P = IsCheckAnd (asked_by c.words) (λ name args. (input : Accepted) × IsRead (with_words c args) input × P name input)

-- if the contents of files are known, the check of a certificate that the file of this name
-- spells says this
abbrev pub IsJudgedIn : Seen → Judgement → Text → Accepted → Type 0
IsJudgedIn s said name input = (cert : Cert) × (IsTrue s.tells → IsFileOf (s.held name) cert) × IsJudged input cert said

-- if the contents of files are known, this is the first line of the file that no certificate has
-- there
abbrev pub IsMalformed : Seen → CertFault → Text → Type 0
IsMalformed s (faults.BadLine line) name = IsTrue s.tells → IsBadFile (s.held name) line
IsMalformed s faults.NoMemory name = ⊥

-- the budget of conflicts of the command is spent
abbrev pub IsSpentIn : Spent → Text → Accepted → Type 0
IsSpentIn s said input = (input.conflicts ≡ Some s.budget) × IsGivenUp input s.budget s.best s.least s.nogoods × (said ≡ spent_of input s)

-- what `ratest` too ends with where it has no verdict
abbrev pub Stopped : Call → Outcome → Text → Type 0
Stopped c o said = IsEitherAnd (asked_by c.words) (λ args. Stop (with_words c args) o × (said ≡ verdict_text (limit_of (command args)) o))

abbrev pub EndsVerdict : Call → Outcome → Text → Type 0
EndsVerdict c outcome.Agree said = ⊥
EndsVerdict c (outcome.Witness keep) said = ⊥
EndsVerdict c outcome.Usage said = IsUsage (asked_by c.words) × (said ≡ usage_text)
EndsVerdict c (outcome.Refused part fault) said = Stopped c (outcome.Refused part fault) said
EndsVerdict c (outcome.Spent s) said = InProve c (IsSpentIn s said)
EndsVerdict c (outcome.Limit limit) said = Stopped c (outcome.Limit limit) said
EndsVerdict c (outcome.ReadFault part) said = Stopped c (outcome.ReadFault part) said
EndsVerdict c outcome.WriteFault said = ⊥
EndsVerdict c outcome.NoMemory said = ⊥

-- the outcome may come, and this is its text
abbrev pub Ends : Call → CertOutcome → Text → Type 0
Ends c (Proved cert e) said = InProve c (λ input. IsProof input cert e) × (said ≡ cert_text cert)
Ends c (Valid keep) said = InCheck c (IsJudgedIn c.files (judgement.Valid keep)) × (said ≡ valid_text keep)
Ends c (Malformed fault) said = InCheck c (λ name input. IsMalformed c.files fault name) × (said ≡ malformed_text fault)
Ends c (Wrong why) said = InCheck c (IsJudgedIn c.files (judgement.Wrong why)) × (said ≡ wrong_text why)
Ends c CertLong said = InCheck c (λ name input. IsLongFile c.files name) × (said ≡ long_text)
Ends c CertRead said = InCheck c (λ name input. Rose (c.files.before name) (c.files.after name)) × (said ≡ unread_text)
Ends c (Verdict o) said = EndsVerdict c o said

-- ---- what is written

-- the sink of each outcome's text, and the two outcomes of a text that isn't written whole
abbrev pub in_certificates : Ways CertOutcome
in_certificates = record { place = place; write_fault = Verdict outcome.WriteFault; no_memory = Verdict outcome.NoMemory }

-- ---- where an outcome has to come

-- usage, or an error where no file is read
abbrev pub IsUsageOrFault : CertOutcome → Type 0
IsUsageOrFault (Verdict o) = top.YieldsToWrite outcome.Usage o
IsUsageOrFault _ = ⊥

-- what an answer may be for an input that is refused: that refusal, or an error
abbrev pub YieldsTo : Outcome → CertOutcome → Type 0
YieldsTo refusal (Verdict o) = top.YieldsTo refusal o
YieldsTo refusal _ = ⊥

-- a file that can't be read, a sink that fails, or out of memory
abbrev pub IsFault : Outcome → Type 0
IsFault (outcome.ReadFault part) = ⊤
IsFault outcome.WriteFault = ⊤
IsFault outcome.NoMemory = ⊤
IsFault _ = ⊥

-- this answer on a certificate, or an error
abbrev pub IsOrFault : CertOutcome → CertOutcome → Type 0
IsOrFault answer CertRead = ⊤
IsOrFault answer (Verdict o) = IsFault o
IsOrFault answer o = o ≡ answer

-- The check of a certificate is asked for over files whose contents are known, and this input is
-- accepted. The bytes are those of the certificate's file.
abbrev pub OverFile : Call → (Accepted → Text → Type 0) → Type 0
OverFile c P = IsTrue c.files.tells → IfCheck (asked_by c.words) (λ name args. (input : Accepted) → judged args c.files.held ≡ Ok input → P input (c.files.held name))

-- a certificate, or out of memory
abbrev pub IsProvedOrMemory : CertOutcome → Type 0
IsProvedOrMemory (Proved cert e) = ⊤
IsProvedOrMemory (Verdict outcome.NoMemory) = ⊤
IsProvedOrMemory _ = ⊥

-- A certificate is asked for of this accepted input, and no count of a file that the command
-- names rose. There is no budget, or one that no search can spend.
abbrev pub OverCalm : Call → Type 0 → Type 0
OverCalm c P = IfProve (asked_by c.words) (λ args. IsTold (with_words c args) → top.NoFileRose (with_words c args)
    → (input : Accepted) → judged args c.files.held ≡ Ok input → top.HasRoom input → P)
