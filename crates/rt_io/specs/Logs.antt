-- Sinks over a call: what is known of each, and what was written.
use Rattle.std.specs.Prelude.{◌≡◌, ℕ, Bool, IsTrue, List, ◌++◌}
use Rattle.rt_io.specs.Edge.{Rose, AddsPrefix}
use Rattle.rt_io.specs.declared.sink.Sink.{Ghosts as Sinks}
use Rattle.rt_io.specs.declared.place.Place.{Place}
use Rattle.rt_io.specs.declared.place.Place.TheVariants as at

-- one sink over a call: whether its bytes are known, these, and its count, before and after
pub record Log : Type 0 where
  pub tells : Bool
  pub old : List ℕ
  pub new : List ℕ
  pub before : ℕ
  pub after : ℕ

-- the sink that a call found as `old` and left as `new`
abbrev pub log : {S : Type 0} → Sinks S → S → S → Log
log sink old new = record { tells = sink.tells; old = sink.contents old; new = sink.contents new; before = sink.faults old; after = sink.faults new }

-- nothing was written to it
abbrev pub IsKept : Log → Type 0
IsKept sink = IsTrue sink.tells → sink.new ≡ sink.old

-- it grew by all of the text
abbrev pub Grew : Log → List ℕ → Type 0
Grew sink said = IsTrue sink.tells → sink.new ≡ sink.old ++ said

-- it grew by a prefix of the text
abbrev pub GrewPartly : Log → List ℕ → Type 0
GrewPartly sink said = IsTrue sink.tells → AddsPrefix sink.old sink.new said

-- its count rose
abbrev pub Broke : Log → Type 0
Broke sink = Rose sink.before sink.after

-- of the sink for answers and the one for refusals, that of a place, and the other one
abbrev pub at_place : Place → Log → Log → Log
at_place at.Out out err = out
at_place at.Err out err = err

abbrev pub other_place : Place → Log → Log → Log
other_place at.Out out err = err
other_place at.Err out err = out

-- nothing was written to either
pub record WritesNothing (out err : Log) : Type 0 where
  pub out_kept : IsKept out
  pub err_kept : IsKept err

-- neither failed
pub record NoSinkRose (out err : Log) : Type 0 where
  pub out_rose : Broke out → ⊥
  pub err_rose : Broke err → ⊥
