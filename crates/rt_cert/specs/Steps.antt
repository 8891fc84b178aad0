-- What the steps of a call say.
use Rattle.std.specs.Prelude.{◌≡◌, ◌≢◌, ◌⊎◌, IsTrue, List}
use Rattle.rt_io.specs.Command.{command}
use Rattle.rt_recorder.specs.Certificate.{cert_text}
use Rattle.rt_recorder.specs.declared.cert.Cert.{Cert}
use Rattle.rt_input.specs.declared.outcome.Outcome.{Outcome}
use Rattle.rt_input.specs.declared.outcome.Outcome.TheVariants as outcome
use Rattle.rt_input.specs.Accepted.{Accepted}
use Rattle.rt_input.specs.Reading.{Call, IsRead, Stop, limit_of}
use Rattle.rt_input.specs.Source.{Text}
use Rattle.rt_input.specs.Steps.{Seen}
use Rattle.rt_cert.specs.Certified.{IsJudged, IsProof}
use Rattle.rt_cert.specs.declared.judgement.Judgement.{Judgement}
use Rattle.rt_cert.specs.declared.file.FileFault.{FileFault}
use Rattle.rt_cert.specs.declared.file.FileFault.TheVariants as file
use Rattle.rt_cert.specs.declared.outcome.CertOutcome.{CertOutcome}
use Rattle.rt_cert.specs.declared.outcome.CertOutcome.TheVariants.{Proved, Verdict}
use Rattle.rt_cert.specs.Answers.{IsSpentIn}
use Rattle.rt_cert.specs.CertFile.{FileStops, IsFileOf}
use Rattle.rt_cert.specs.Texts.{fault_text, judgement_text, of_fault, of_judgement, verdict_text}

-- an outcome of `ratest` other than out of memory, and its text
abbrev pub SaysVerdict : List Text → Outcome → CertOutcome → Text → Type 0
SaysVerdict words o result said = (result ≡ Verdict o) × (o ≢ outcome.NoMemory) × (said ≡ verdict_text (limit_of (command words)) o)

-- what is said over an input that was read, or that there is none
abbrev pub SaysOver : Call → (Accepted → Type 0) → CertOutcome → Text → Type 0
SaysOver c P result said = ((input : Accepted) × IsRead c input × P input) ⊎ ((o : Outcome) × Stop c o × SaysVerdict c.words o result said)

-- ---- a certificate that is written

abbrev pub SpendsIn : Accepted → Outcome → Text → Type 0
SpendsIn input (outcome.Spent s) said = IsSpentIn s said input
SpendsIn input _ said = ⊥

abbrev pub ProvesIn : Accepted → CertOutcome → Text → Type 0
ProvesIn input (Proved cert e) said = IsProof input cert e × (said ≡ cert_text cert)
ProvesIn input (Verdict o) said = SpendsIn input o said
ProvesIn input _ said = ⊥

abbrev pub SaysProve : Call → CertOutcome → Text → Type 0
SaysProve c result said = SaysOver c (λ input. ProvesIn input result said) result said

-- ---- the check of one

-- a certificate's judgement, and its text
abbrev pub JudgesIn : Accepted → Cert → CertOutcome → Text → Type 0
JudgesIn input cert result said = (judgement : Judgement) × IsJudged input cert judgement × (result ≡ of_judgement judgement) × (said ≡ judgement_text judgement)

-- what stops the reading of its file, and the text of that
abbrev pub IsFaultTold : FileFault → CertOutcome → Text → Type 0
IsFaultTold fault result said = (fault ≢ file.NoMemory) × (result ≡ of_fault fault) × (said ≡ fault_text fault)

abbrev pub ChecksIn : Seen → Text → Accepted → CertOutcome → Text → Type 0
ChecksIn s name input result said =
    ((cert : Cert) × (IsTrue s.tells → IsFileOf (s.held name) cert) × JudgesIn input cert result said)
    ⊎ ((fault : FileFault) × FileStops s name fault × IsFaultTold fault result said)

abbrev pub SaysCheck : Call → Text → CertOutcome → Text → Type 0
SaysCheck c name result said = SaysOver c (λ input. ChecksIn c.files name input result said) result said
