-- The text of each outcome, the sink that it belongs to, and the status of the program.
use Rattle.std.specs.Prelude.{ℕ, Bool, List, [], ◌++◌, length, Option, None, Some, codes, decimal}
use Rattle.rt_value.specs.Keep.{size}
use Rattle.rt_io.specs.declared.place.Place.{Place}
use Rattle.rt_io.specs.declared.place.Place.TheVariants as at
use Rattle.rt_recorder.specs.declared.fault.CertFault.{CertFault}
use Rattle.rt_recorder.specs.declared.fault.CertFault.TheVariants as faults
use Rattle.rt_input.specs.declared.outcome.Outcome.{Outcome}
use Rattle.rt_input.specs.declared.outcome.Outcome.TheVariants as outcome
use Rattle.rt_input.specs.Source.{Text}
use Rattle.rt_input.specs.Texts.{place as place_of_outcome, status_of as status_of_outcome, stopped_text}
use Rattle.rt_cert.specs.declared.judgement.Judgement.{Judgement}
use Rattle.rt_cert.specs.declared.judgement.Judgement.TheVariants as judgement
use Rattle.rt_cert.specs.declared.judgement.Why.{Why}
use Rattle.rt_cert.specs.declared.judgement.Why.TheVariants as why
use Rattle.rt_cert.specs.declared.file.FileFault.{FileFault}
use Rattle.rt_cert.specs.declared.file.FileFault.TheVariants as file
use Rattle.rt_cert.specs.declared.outcome.CertOutcome.{CertOutcome}
use Rattle.rt_cert.specs.declared.outcome.CertOutcome.TheVariants.{Proved, Valid, Malformed, Wrong, CertLong, CertRead, Verdict}

abbrev pub of_judgement : Judgement → CertOutcome
of_judgement (judgement.Valid keep) = Valid keep
of_judgement (judgement.Wrong w) = Wrong w

abbrev pub of_fault : FileFault → CertOutcome
of_fault (file.BadLine line) = Malformed (faults.BadLine line)
of_fault file.Long = CertLong
of_fault file.Unread = CertRead
of_fault file.NoMemory = Verdict outcome.NoMemory

-- ---- texts

abbrev pub valid_text : Option (List Bool) → Text
valid_text None = codes "valid: agree\n"
valid_text (Some keep) = codes "valid: witness " ++ (decimal (size keep) ++ codes "\n")

abbrev pub why_text : Why → Text
why_text (why.Place place) = codes "place " ++ decimal place
why_text why.NotLawful = codes "not lawful"
why_text why.SameAnswers = codes "answers are the same"
why_text (why.Added e) = codes "added " ++ decimal (length e.lines)
why_text (why.Line line e) = codes "line " ++ decimal line
why_text (why.NoRefutation e) = codes "no refutation"

abbrev pub wrong_text : Why → Text
wrong_text w = codes "ratest: certificate: rejected: " ++ (why_text w ++ codes "\n")

abbrev pub malformed_text : CertFault → Text
malformed_text (faults.BadLine line) = codes "ratest: certificate: malformed at line " ++ (decimal line ++ codes "\n")
malformed_text faults.NoMemory = []

abbrev pub long_text : Text
long_text = codes "ratest: limit: certificate is longer than 67108864 bytes\n"

abbrev pub unread_text : Text
unread_text = codes "ratest: cannot read certificate\n"

abbrev pub usage_text : Text
usage_text = codes "usage: ratest_plus prove ARGS\n       ratest_plus check CERT ARGS\n"

-- the text of an outcome of `ratest` that is no verdict; `most` is the work limit in force
abbrev pub verdict_text : ℕ → Outcome → Text
verdict_text most o = stopped_text usage_text most o

abbrev pub judgement_text : Judgement → Text
judgement_text (judgement.Valid keep) = valid_text keep
judgement_text (judgement.Wrong w) = wrong_text w

abbrev pub fault_text : FileFault → Text
fault_text (file.BadLine line) = malformed_text (faults.BadLine line)
fault_text file.Long = long_text
fault_text file.Unread = unread_text
fault_text file.NoMemory = []

-- ---- places and statuses

-- A certificate and what is valid belong to the first sink, and what speaks against it to the
-- second. An outcome of `ratest` belongs to its own.
abbrev pub place : CertOutcome → Place
place (Proved cert e) = at.Out
place (Valid keep) = at.Out
place (Malformed fault) = at.Err
place (Wrong w) = at.Err
place CertLong = at.Err
place CertRead = at.Err
place (Verdict o) = place_of_outcome o

abbrev pub status_of : CertOutcome → ℕ
status_of (Proved cert e) = 0
status_of (Valid keep) = 0
status_of (Malformed fault) = 3
status_of (Wrong w) = 8
status_of CertLong = 5
status_of CertRead = 6
status_of (Verdict o) = status_of_outcome o
