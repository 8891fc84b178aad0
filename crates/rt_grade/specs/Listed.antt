-- The list of paths that a text is: its lines, without the empty ones.
use Rattle.std.specs.Prelude.{ℕ, ◌==◌, nat_le, Bool, true, false, List, length, filter, map, Result, Ok, Err, if◌then◌else◌}
use Rattle.std.specs.List.{slice_split}
use Rattle.std.specs.Str.{is_utf8}
use Rattle.std.specs.Str.Lines.{strip_carriage_return}
use Rattle.std.specs.Str.Lossy.{utf8_valid_len}
use Rattle.rt_value.specs.Bytes.{line_feed}
use Rattle.rt_grade.specs.declared.paths_fault.PathsFault.{PathsFault}
use Rattle.rt_grade.specs.declared.paths_fault.PathsFault.TheVariants.{NotUtf8, TooMany, NoMemory}

abbrev pub Text : Type 0
Text = List ℕ

-- the lines of a text; the last one needs no line feed
abbrev pub lines : Text → List Text
lines text = slice_split (λ b. b == line_feed) text

abbrev pub is_path : Text → Bool
is_path line = nat_le 1 (length line)

-- the paths of these lines: each line without one carriage return (13) at its end, and no empty
-- one
abbrev pub paths_in : List Text → List Text
paths_in lines = filter is_path (map strip_carriage_return lines)

abbrev pub listed : Text → List Text
listed text = paths_in (lines text)

abbrev pub most_paths : ℕ
most_paths = 256

abbrev pub few : List Text → Result (List Text) PathsFault
few paths = if nat_le (length paths) most_paths then Ok paths else Err TooMany

-- the paths of a text; else why it is no list of them
abbrev pub paths_read : Text → Result (List Text) PathsFault
paths_read text = if is_utf8 text then few (listed text) else Err (NotUtf8 (utf8_valid_len text))

abbrev pub is_memory : PathsFault → Bool
is_memory NoMemory = true
is_memory (NotUtf8 at) = false
is_memory TooMany = false
