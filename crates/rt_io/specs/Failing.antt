-- The calls of files in memory that are to fail.
use Rattle.std.specs.Prelude.{ℕ, ◌==◌, ◌&&◌, Bool, List}
use Rattle.std.specs.List.{list_any}
use Rattle.std.specs.Str.{bytes_eq}
use Rattle.rt_io.specs.declared.mem_files.FailingRead.{FailingRead}

-- whether a name is among these
abbrev pub is_named : List (List ℕ) → List ℕ → Bool
is_named names name = list_any (λ n. bytes_eq n name) names

-- whether the read of this name with this number after a begin is among these
abbrev pub is_failing : List FailingRead → List ℕ → ℕ → Bool
is_failing fails name read = list_any (λ f. bytes_eq f.name name && (f.read == read)) fails
