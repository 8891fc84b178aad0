-- How much a sink in memory takes.
use Rattle.std.specs.Prelude.{◌≡◌, ℕ, ◌-◌, min, List, length, Option, None, Some}
use Rattle.rt_io.specs.declared.mem_sink.MemSink.{MemSink}

abbrev pub held_of : MemSink → List ℕ
held_of s = s.held.items

abbrev pub faults_of : MemSink → ℕ
faults_of s = s.faults

-- once so many bytes are held, no more are taken
abbrev pub room_of : MemSink → Option ℕ
room_of s = s.room

-- a write takes at most so many bytes
abbrev pub piece_of : MemSink → ℕ
piece_of s = s.piece

-- how many of this many bytes go into a room of which so many are taken up
abbrev pub fitting : Option ℕ → ℕ → ℕ → ℕ
fitting None held n = n
fitting (Some room) held n = min n (room - held)

-- how many bytes a write of so many takes
abbrev pub takes : MemSink → ℕ → ℕ
takes s n = min (fitting s.room (length s.held.items) n) s.piece

-- nothing changed of what the sink holds and of its count
pub record SameSink (old new : MemSink) : Type 0 where
  pub held : held_of new ≡ held_of old
  pub faults : faults_of new ≡ faults_of old
