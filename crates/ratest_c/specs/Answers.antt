-- What the reply to a request is.
use Rattle.std.specs.Prelude.{◌≡◌, ℕ, ◌+◌, ◌<◌, ◌≤◌, ℤ, pos, negsuc, zero, suc, List, [], length, take, drop, IsTrue, true, None, Some}
use Rattle.rt_io.specs.Logs.{Log}
use Rattle.rt_input.specs.Reading.{Call}
use Rattle.rt_input.specs.Texts.{status_of}
use Rattle.rt_input.specs.declared.outcome.Outcome.{Outcome}
use Rattle.rt_ra_run.specs.Texts as ra
use Rattle.rt_ra_run.specs.declared.outcome.RaOutcome.{RaOutcome}
use Rattle.rt_tools.specs.Texts as tools
use Rattle.rt_tools.specs.declared.outcome.ToolOutcome.{ToolOutcome}
use Rattle.rt_cert.specs.Texts as cert
use Rattle.rt_cert.specs.declared.outcome.CertOutcome.{CertOutcome}
use Rattle.ratest_c.specs.Calls.{RatestEnds, AlgebraEnds, ToolEnds, CertificateEnds}
use Rattle.ratest_c.specs.Files.{counts_in, held_in}
use Rattle.ratest_c.specs.Frames.{request_of}
use Rattle.ratest_c.specs.Replies.{FitsFrame, IsLong, framed}
use Rattle.ratest_c.specs.Services.{service_of}
use Rattle.ratest_c.specs.declared.request.Request.{Request}
use Rattle.ratest_c.specs.declared.service.Service.{Service}
use Rattle.ratest_c.specs.declared.service.Service.TheVariants.{Ratest, Algebra, Tools, Certificates}

-- a call on the arguments of the request, over files that tell their contents: those of the request. A
-- file of the request never failed, an empty one neither.
pub record IsCallOn (r : Request) (c : Call) : Type 0 where
  pub words : c.words ≡ r.words
  pub tells : c.files.tells ≡ true
  pub held : c.files.held ≡ held_in r.files
  pub before : c.files.before ≡ counts_in r.files
  pub after : c.files.after ≡ counts_in r.files

-- a sink that held nothing before the call, and now these bytes; it never failed
abbrev pub filled : List ℕ → Log
filled bytes = record { tells = true; old = []; new = bytes; before = 0; after = 0 }

-- the call ended in the outcome, with its status and with these texts
abbrev pub Ends : Service → Call → ℕ → List ℕ → List ℕ → Type 0
Ends Ratest c status out err = (o : Outcome) × (status ≡ status_of o) × RatestEnds c (filled out) (filled err) o
Ends Algebra c status out err = (o : RaOutcome) × (status ≡ ra.status_of o) × AlgebraEnds c (filled out) (filled err) o
Ends Tools c status out err = (o : ToolOutcome) × (status ≡ tools.status_of o) × ToolEnds c (filled out) (filled err) o
Ends Certificates c status out err = (o : CertOutcome) × (status ≡ cert.status_of o) × CertificateEnds c (filled out) (filled err) o

-- what the command of a request ended with
pub record IsAnswer (r : Request) (status : ℕ) (out err : List ℕ) : Type 0 where
  pub call : Call
  pub over : IsCallOn r call
  pub ends : Ends (service_of r.words) call status out err

-- the bytes of the reply to the bytes of a request
pub record IsReply (asked reply : List ℕ) : Type 0 where
  pub request : Request
  pub read : request_of asked ≡ Some request
  pub status : ℕ
  pub out : List ℕ
  pub err : List ℕ
  pub answer : IsAnswer request status out err
  pub fits : FitsFrame status out err
  pub frame : reply ≡ framed status out err

-- what the command of the request ended with has a text that is too long for a reply
pub record IsTooLong (asked : List ℕ) : Type 0 where
  pub request : Request
  pub read : request_of asked ≡ Some request
  pub status : ℕ
  pub out : List ℕ
  pub err : List ℕ
  pub answer : IsAnswer request status out err
  pub long : IsLong out err

-- what the result of the call says: n where the reply is in front of its room, -1 where the request is no
-- frame, -2 where a text is too long or memory failed, and minus the length of a reply that has no room.
-- Nothing else of the room changes. Want of memory is free, so -2 tells no cause; `answered` names a text that
-- is too long only where there is one.
abbrev pub Says : List ℕ → List ℕ → List ℕ → ℤ → Type 0
Says asked old new (pos n) = (n ≤ length old) × IsReply asked (take n new) × (drop n new ≡ drop n old)
Says asked old new (negsuc zero) = (request_of asked ≡ None) × (new ≡ old)
Says asked old new (negsuc (suc zero)) = new ≡ old
Says asked old new (negsuc (suc (suc n))) = (reply : List ℕ) × IsReply asked reply × (length reply ≡ n + 3) × (length old < n + 3) × (new ≡ old)
