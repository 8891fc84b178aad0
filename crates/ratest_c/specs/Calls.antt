-- What the calls that answer commands promise: their clauses, but for those on which files are begun.
use Rattle.std.specs.Prelude.{◌≡◌, ◌<◌, ◌⊎◌, ℕ, IsTrue, length, None, Some, Ok, Err, IfOk}
use Rattle.rt_io.specs.Command.{command}
use Rattle.rt_io.specs.Logs.{Log, NoSinkRose, WritesNothing}
use Rattle.rt_writing.specs.Writing.{Writes}
use Rattle.rt_input.specs.Accepted.{Accepted}
use Rattle.rt_input.specs.Judged.{judged}
use Rattle.rt_input.specs.Reading.{Call, IsTold, LimitRow, ReadFaultRow, RefusedRow, UsageRow}
use Rattle.rt_input.specs.declared.outcome.Outcome.{Outcome}
use Rattle.rt_input.specs.declared.outcome.Outcome.TheVariants as outcome
use Rattle.rt_top.specs.Answers as top
use Rattle.rt_ra_run.specs.Answers as ra
use Rattle.rt_ra_run.specs.Judged.{ra_judged}
use Rattle.rt_ra_run.specs.Words.{ra_command}
use Rattle.rt_ra_run.specs.declared.outcome.RaOutcome.{RaOutcome}
use Rattle.rt_tools.specs.Answers as tools
use Rattle.rt_tools.specs.Judged.{HasRoomFor, IsAsJudged, IsNoFault, IsToldTool, IsUsageOrFault, NoNamedRose, refusal_of}
use Rattle.rt_tools.specs.Words as tool_words
use Rattle.rt_tools.specs.declared.outcome.ToolOutcome.{ToolOutcome}
use Rattle.rt_recorder.specs.declared.cert.Cert.{Cert}
use Rattle.rt_recorder.specs.declared.fault.CertFault.TheVariants.{BadLine}
use Rattle.rt_cert.specs.Answers as cert
use Rattle.rt_cert.specs.CertFile.{IsBadFile, IsFileOf, most_bytes}
use Rattle.rt_cert.specs.Certified.{claim_fault}
use Rattle.rt_cert.specs.Words as cert_words
use Rattle.rt_cert.specs.declared.judgement.Why.{Why}
use Rattle.rt_cert.specs.declared.outcome.CertOutcome.{CertOutcome}
use Rattle.rt_cert.specs.declared.outcome.CertOutcome.TheVariants as certified

-- `rt_top::ratest`
pub record RatestEnds (c : Call) (out err : Log) (o : Outcome) : Type 0 where
  pub agree : top.IfAgree o (top.AgreeRow c)
  pub witness : top.IfWitness o (top.WitnessRow c)
  pub usage : top.IfUsage o (UsageRow c)
  pub usage_exact : command c.words ≡ None → top.YieldsToWrite outcome.Usage o
  pub refused : top.IfRefused o (RefusedRow c)
  pub spent : top.IfSpent o (top.SpentRow c)
  pub limit : top.IfLimit o (LimitRow c)
  pub exact : IsTold c → (refusal : Outcome) → judged c.words c.files.held ≡ Err refusal → top.YieldsTo refusal o
  pub read_fault : top.IfReadFault o (ReadFaultRow c)
  pub write_fault : top.IfWriteFault o ((allowed : Outcome) × top.WritesUntilFault c out err allowed)
  pub no_memory : top.IfNoMemory o (WritesNothing out err ⊎ ((allowed : Outcome) × top.WritesPart c out err allowed))
  pub said : top.IfText o (top.WritesAll c o out err)
  pub complete : IsTold c → top.NoFileRose c → NoSinkRose out err → (input : Accepted) → judged c.words c.files.held ≡ Ok input
      → top.HasRoom input → top.IsVerdictOrMemory o

-- `rt_ra_run::ra_run`
pub record AlgebraEnds (c : Call) (out err : Log) (o : RaOutcome) : Type 0 where
  pub agree : ra.IfVerdict o (λ v. top.IfAgree v (ra.AgreeRow c))
  pub witness : ra.IfVerdict o (λ v. top.IfWitness v (ra.WitnessRow c))
  pub usage : ra.IfVerdict o (λ v. top.IfUsage v (ra.UsageRow c))
  pub usage_exact : ra_command c.words ≡ None → ra.IsUsageOrFault o
  pub refused : ra.IfRefusedText o (ra.RefusedRow c)
  pub refused_elsewhere : ra.IfVerdict o (λ v. top.IfRefused v (ra.RefusedElsewhereRow c))
  pub spent : ra.IfVerdict o (λ v. top.IfSpent v (ra.SpentRow c))
  pub limit : ra.IfVerdict o (λ v. top.IfLimit v (ra.LimitRow c))
  pub exact : IsTrue c.files.tells → (refusal : RaOutcome) → ra_judged c.words c.files.held ≡ Err refusal → ra.YieldsTo refusal o
  pub read_fault : ra.IfVerdict o (λ v. top.IfReadFault v (ra.ReadFaultRow c))
  pub write_fault : ra.IfVerdict o (λ v. top.IfWriteFault v ((allowed : RaOutcome) × ra.WritesUntilFault c out err allowed))
  pub no_memory : ra.IfVerdict o (λ v. top.IfNoMemory v (WritesNothing out err ⊎ ((allowed : RaOutcome) × ra.WritesPart c out err allowed)))
  pub said : ra.IfSaid o (ra.WritesAll c o out err)
  pub complete : IsTrue c.files.tells → ra.NoFileRose c → NoSinkRose out err
      → IfOk (ra_judged c.words c.files.held) (λ asked. top.HasRoom asked.input → ra.IsVerdictOrMemory o)

-- `rt_tools::tool_run`
pub record ToolEnds (c : Call) (out err : Log) (o : ToolOutcome) : Type 0 where
  pub writes : Writes tools.in_tools (tools.Ends c) out err o
  pub exact : IsToldTool c (tool_words.tool_of c.words) → IsAsJudged (refusal_of (tool_words.tool_of c.words) c.files.held) o
  pub usage_exact : tool_words.IsUsage (tool_words.tool_of c.words) → IsUsageOrFault o
  pub complete : NoNamedRose c (tool_words.tool_of c.words) → NoSinkRose out err → HasRoomFor c (tool_words.tool_of c.words) → IsNoFault o

-- `rt_cert::cert_run`
pub record CertificateEnds (c : Call) (out err : Log) (o : CertOutcome) : Type 0 where
  pub writes : Writes cert.in_certificates (cert.Ends c) out err o
  pub usage : cert_words.IsUsage (cert_words.asked_by c.words) → cert.IsUsageOrFault o
  pub refused : cert_words.IfEither (cert_words.asked_by c.words) (λ args. IsTold (cert.with_words c args)
      → (refusal : Outcome) → judged args c.files.held ≡ Err refusal → cert.YieldsTo refusal o)
  pub long : cert.OverFile c (λ input bytes. most_bytes < length bytes → cert.IsOrFault certified.CertLong o)
  pub malformed : cert.OverFile c (λ input bytes. (line : ℕ) → IsBadFile bytes line → cert.IsOrFault (certified.Malformed (BadLine line)) o)
  pub claim : cert.OverFile c (λ input bytes. (made : Cert) → IsFileOf bytes made → (why : Why) → claim_fault input made.keep ≡ Some why → cert.IsOrFault (certified.Wrong why) o)
  pub complete : cert.OverCalm c (NoSinkRose out err → cert.IsProvedOrMemory o)
