-- What a call over the files of a request answers.
use Rattle.std.proofs.Common.{◌≡◌, ◌∙◌, ℕ, Bool, List, [], true, Result, Ok, Err, IfOk, ap, refl, subst}
use Rattle.rt_io.specs.Logs.{Log}
use Rattle.rt_input.specs.Reading.{Call}
use Rattle.rt_input.specs.declared.outcome.Outcome.{Outcome}
use Rattle.rt_ra_run.specs.declared.outcome.RaOutcome.{RaOutcome}
use Rattle.rt_tools.specs.declared.outcome.ToolOutcome.{ToolOutcome}
use Rattle.rt_cert.specs.declared.outcome.CertOutcome.{CertOutcome}
use Rattle.ratest_c.specs.Answers.{Ends, IsAnswer, IsCallOn, filled}
use Rattle.ratest_c.specs.Calls.{RatestEnds, AlgebraEnds, ToolEnds, CertificateEnds}
use Rattle.ratest_c.specs.Files.{count_if, counts_in, has_in, held_in}
use Rattle.ratest_c.specs.Runs.{EndsIn}
use Rattle.ratest_c.specs.Services.{service_of}
use Rattle.ratest_c.specs.declared.file.File.{File}
use Rattle.ratest_c.specs.declared.request.Request.{Request}
use Rattle.ratest_c.specs.declared.service.Service.{Service}
use Rattle.ratest_c.specs.declared.ended.Ended.{Ended}

abbrev counts_of : (List ℕ → Bool) → List ℕ → ℕ
counts_of has name = count_if (has name)

-- the counts after the call are those before it, since they rest on the names of the files alone
pub counts_stay : (old new : List File) → has_in new ≡ has_in old → counts_in new ≡ counts_in old
counts_stay old new same = ap counts_of same

pub answered_by : (r : Request) (s : Service) (c : Call) (t : Ended) (old new : List File) → EndsIn s c t
    → s ≡ service_of c.words → c.words ≡ r.words → c.files.tells ≡ true → c.files.held ≡ held_in old
    → c.files.before ≡ counts_in old → c.files.after ≡ counts_in new → old ≡ r.files → has_in new ≡ has_in old
    → IsAnswer r t.status t.out.held.items t.err.held.items
answered_by r s c t old new ends is words tells held before after files same = record {
  call = c;
  over = record {
    words = words;
    tells = tells;
    held = held ∙ ap held_in files;
    before = before ∙ ap counts_in files;
    after = after ∙ (counts_stay old new same ∙ ap counts_in files);
  };
  ends = subst (λ by. Ends by c t.status t.out.held.items t.err.held.items) (is ∙ ap service_of words) ends;
}

-- ---- sinks that were made for the call

-- a sink that never fails, over a call that found these bytes in it and left those
abbrev pub sink_over : List ℕ → List ℕ → Log
sink_over old new = record { tells = true; old = old; new = new; before = 0; after = 0 }

-- what holds of two sinks that were empty before
pub of_empty : (P : Log → Log → Type 0) (old_out out old_err err : List ℕ) → old_out ≡ [] → old_err ≡ []
    → P (sink_over old_out out) (sink_over old_err err) → P (filled out) (filled err)
of_empty P old_out out old_err err no_out no_err holds =
    subst (λ xs. P (filled out) (sink_over xs err)) no_err (subst (λ xs. P (sink_over xs out) (sink_over old_err err)) no_out holds)

pub ratest_ended : (c : Call) (o : Outcome) (old_out out old_err err : List ℕ) → old_out ≡ [] → old_err ≡ []
    → RatestEnds c (sink_over old_out out) (sink_over old_err err) o → RatestEnds c (filled out) (filled err) o
ratest_ended c o = of_empty (λ out err. RatestEnds c out err o)

pub algebra_ended : (c : Call) (o : RaOutcome) (old_out out old_err err : List ℕ) → old_out ≡ [] → old_err ≡ []
    → AlgebraEnds c (sink_over old_out out) (sink_over old_err err) o → AlgebraEnds c (filled out) (filled err) o
algebra_ended c o = of_empty (λ out err. AlgebraEnds c out err o)

pub tool_ended : (c : Call) (o : ToolOutcome) (old_out out old_err err : List ℕ) → old_out ≡ [] → old_err ≡ []
    → ToolEnds c (sink_over old_out out) (sink_over old_err err) o → ToolEnds c (filled out) (filled err) o
tool_ended c o = of_empty (λ out err. ToolEnds c out err o)

pub certificate_ended : (c : Call) (o : CertOutcome) (old_out out old_err err : List ℕ) → old_out ≡ [] → old_err ≡ []
    → CertificateEnds c (sink_over old_out out) (sink_over old_err err) o → CertificateEnds c (filled out) (filled err) o
certificate_ended c o = of_empty (λ out err. CertificateEnds c out err o)

-- what holds of each value that a result may have holds where it is one
pub if_ok : {T E : Type 0} (r : Result T E) (P : T → Type 0) → ((x : T) → r ≡ Ok x → P x) → IfOk r P
if_ok (Ok x) P holds = holds x refl
if_ok (Err e) P holds = tt
