-- Files in memory: what they hold, how far the current one is read, and what can be set of them:
-- how many bytes a read gives, and which calls fail.
use Rattle.std.specs.Prelude.{◌≡◌, ℕ, List, [], Bool, Option, drop}
use Rattle.std.specs.Option.{option_map, option_map_or}
use Rattle.rt_io.specs.Counts.{count_in, name_at, names_in}
use Rattle.rt_io.specs.Gave.{Reading}
use Rattle.rt_io.specs.Held.{held_in, has_in}
use Rattle.rt_io.specs.declared.mem_files.FailingRead.{FailingRead}
use Rattle.rt_io.specs.declared.mem_files.MemFiles.{MemFiles}

abbrev pub has_of : MemFiles → List ℕ → Bool
has_of f = has_in f.files.items

abbrev pub held_of : MemFiles → List ℕ → List ℕ
held_of f = held_in f.files.items

abbrev pub current_of : MemFiles → Option (List ℕ)
current_of f = option_map (λ c. name_at f.entries.items c.entry) f.current

abbrev pub left_of : MemFiles → List ℕ
left_of f = option_map_or (λ c. drop c.at c.bytes) f.current []

abbrev pub taken_of : MemFiles → ℕ
taken_of f = option_map_or (λ c. c.at) f.current 0

abbrev pub faults_of : MemFiles → List ℕ → ℕ
faults_of f = count_in f.entries.items

-- the names that were begun, in order
abbrev pub begun_of : MemFiles → List (List ℕ)
begun_of f = names_in f.entries.items

-- what the reads gave
abbrev pub gave_of : MemFiles → List Reading
gave_of f = f.gave.readings

-- a read gives at most so many bytes
abbrev pub piece_of : MemFiles → ℕ
piece_of f = f.piece

-- the names whose begins fail
abbrev pub failing_begins : MemFiles → List (List ℕ)
failing_begins f = f.failing_begins.items

-- the reads that fail
abbrev pub failing_reads : MemFiles → List FailingRead
failing_reads f = f.failing_reads.items

-- how many reads followed the last begin, up to the last value of a `u64`
abbrev pub reads_of : MemFiles → ℕ
reads_of f = option_map_or (λ c. c.reads) f.current 0

-- nothing was set
pub record SameSettings (old new : MemFiles) : Type 0 where
  pub piece : piece_of new ≡ piece_of old
  pub begins : failing_begins new ≡ failing_begins old
  pub reads : failing_reads new ≡ failing_reads old

-- nothing changed of what the files hold, of the current one, of the counts, and of the names begun
pub record SameFiles (old new : MemFiles) : Type 0 where
  pub has : has_of new ≡ has_of old
  pub held : held_of new ≡ held_of old
  pub current : current_of new ≡ current_of old
  pub left : left_of new ≡ left_of old
  pub taken : taken_of new ≡ taken_of old
  pub faults : faults_of new ≡ faults_of old
  pub begun : begun_of new ≡ begun_of old
