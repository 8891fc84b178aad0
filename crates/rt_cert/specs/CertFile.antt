-- The certificate in a file.
use Rattle.std.specs.Prelude.{◌≡◌, ℕ, ◌+◌, ◌≤◌, ◌<◌, IsTrue, Some, length, ⊤}
use Rattle.rt_io.specs.Edge.{Rose}
use Rattle.rt_recorder.specs.Certificate.{IsCert, cert_text}
use Rattle.rt_recorder.specs.Lines.{IsFirstBad}
use Rattle.rt_recorder.specs.declared.cert.Cert.{Cert}
use Rattle.rt_input.specs.Held.{without_mark}
use Rattle.rt_input.specs.Source.{Text}
use Rattle.rt_input.specs.Steps.{Seen}
use Rattle.rt_cert.specs.declared.file.FileFault.{FileFault}
use Rattle.rt_cert.specs.declared.file.FileFault.TheVariants.{BadLine, Long, Unread, NoMemory}

abbrev pub most_bytes : ℕ
most_bytes = 67108864

-- the bytes of a file that isn't too long are those of a text; a byte order mark at their start
-- is none of it
pub record IsTextOf (bytes : Text) (text : Text) : Type 0 where
  pub short : length bytes ≤ most_bytes
  pub same : text ≡ without_mark bytes

-- the text of the file is that of this certificate
pub record IsFileOf (bytes : Text) (cert : Cert) : Type 0 where
  pub short : length bytes ≤ most_bytes
  pub fits : IsCert cert
  pub spelled : without_mark bytes ≡ cert_text cert

-- it is no certificate's, and this line is the first that no certificate has there
pub record IsBadFile (bytes : Text) (line : ℕ) : Type 0 where
  pub short : length bytes ≤ most_bytes
  pub bad : IsFirstBad (without_mark bytes) line

-- the file is too long: one byte more than it may have was taken
pub record IsLongFile (s : Seen) (name : Text) : Type 0 where
  pub current : s.current ≡ Some name
  pub taken : s.taken ≡ most_bytes + 1
  pub long : IsTrue s.tells → most_bytes < length (s.held name)

-- what stops the reading of a certificate in the file of this name: a line of it, its length,
-- that its count rose, or out of memory
abbrev pub FileStops : Seen → Text → FileFault → Type 0
FileStops s name (BadLine line) = IsTrue s.tells → IsBadFile (s.held name) line
FileStops s name Long = IsLongFile s name
FileStops s name Unread = Rose (s.before name) (s.after name)
FileStops s name NoMemory = ⊤

-- the same of its text
abbrev pub TextStops : Text → FileFault → Type 0
TextStops text (BadLine line) = IsFirstBad text line
TextStops text Long = ⊥
TextStops text Unread = ⊥
TextStops text NoMemory = ⊤
