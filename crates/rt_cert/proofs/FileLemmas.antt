-- What is read of a certificate's file, behind the reading of an input.
use Rattle.std.proofs.Common.{◌≡◌, ◌<◌, ℕ, length, subst, inl, inr, IsTrue, arith}
use Rattle.rt_io.specs.Edge.{NoneFell}
use Rattle.rt_input.specs.Accepted.{Accepted}
use Rattle.rt_input.specs.Held.{Holding}
use Rattle.rt_input.specs.Source.{Text}
use Rattle.rt_input.specs.Steps.{Seen, seen}
use Rattle.rt_cert.specs.declared.file.FileFault.{FileFault}
use Rattle.rt_cert.specs.declared.file.FileFault.TheVariants.{BadLine, Long, Unread, NoMemory}
use Rattle.rt_cert.specs.declared.outcome.CertOutcome.{CertOutcome}
use Rattle.rt_cert.specs.CertFile.{FileStops, IsBadFile, IsFileOf, most_bytes}
use Rattle.rt_cert.specs.Steps.{ChecksIn}

-- the same seen from a later point on
abbrev pub later : Seen → Holding → (Text → ℕ) → Seen
later s held mid = seen s.tells held mid s.after s.current s.taken

module _ (s : Seen) (held : Holding) (mid : Text → ℕ) (same : held ≡ s.held) (grew : NoneFell s.before mid) (name : Text) where
  stops-later : (fault : FileFault) → FileStops (later s held mid) name fault → FileStops s name fault
  stops-later (BadLine line) stop = λ t. subst (λ (h : Holding). IsBadFile (h name) line) same (stop t)
  stops-later Long stop = record { current = stop.current; taken = stop.taken; long = subst (λ (h : Holding). IsTrue s.tells → most_bytes < length (h name)) same stop.long }
  stops-later Unread stop = let less = grew name in omega (arith, less, stop)
  stops-later NoMemory stop = tt

  pub checks-later : (input : Accepted) (result : CertOutcome) (said : Text) → ChecksIn (later s held mid) name input result said → ChecksIn s name input result said
  checks-later input result said (inl h) = inl (h.0, subst (λ (x : Holding). IsTrue s.tells → IsFileOf (x name) h.0) same h.1, h.2)
  checks-later input result said (inr h) = inr (h.0, stops-later h.0 h.1, h.2)
