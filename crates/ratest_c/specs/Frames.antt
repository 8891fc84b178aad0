-- How the bytes of a request are read.
use Rattle.std.specs.Prelude.{◌≡◌, ℕ, zero, suc, ◌+◌, ◌*◌, List, [], ◌∷◌, ◌++◌, length, take, drop, nat_le, Option, Some, None, if◌then◌else◌}
use Rattle.std.specs.Str.{is_utf8}
use Rattle.ratest_c.specs.declared.file.File.{File}
use Rattle.ratest_c.specs.declared.request.Request.{Request}

-- what was read, and the bytes behind it
pub record Taken (T : Type 0) : Type 0 where
  pub value : T
  pub rest : List ℕ

abbrev pub taken : {T : Type 0} → T → List ℕ → Option (Taken T)
taken value rest = Some (record { value = value; rest = rest })

-- what is read behind that, where there is something
abbrev pub behind : {T U : Type 0} → Option (Taken T) → (T → List ℕ → Option U) → Option U
behind None next = None
behind (Some t) next = next t.value t.rest

-- a number has four bytes, the lowest first
abbrev pub number_at : List ℕ → Option (Taken ℕ)
number_at (a ∷ b ∷ c ∷ d ∷ rest) = taken (a + 256 * b + 65536 * c + 16777216 * d) rest
number_at _ = None

-- so many bytes
abbrev pub bytes_at : ℕ → List ℕ → Option (Taken (List ℕ))
bytes_at n bs = if nat_le n (length bs) then taken (take n bs) (drop n bs) else None

-- a field is its length as a number, and then its bytes
abbrev pub field_at : List ℕ → Option (Taken (List ℕ))
field_at bs = behind (number_at bs) bytes_at

abbrev pub if_utf8 : List ℕ → List ℕ → Option (Taken (List ℕ))
if_utf8 text rest = if is_utf8 text then taken text rest else None

-- a field that is UTF-8
abbrev pub text_at : List ℕ → Option (Taken (List ℕ))
text_at bs = behind (field_at bs) if_utf8

abbrev pub file_of : List ℕ → List ℕ → List ℕ → Option (Taken File)
file_of name bytes rest = taken (record { name = name; bytes = bytes }) rest

-- a file is its name as a text, and then its contents as a field
abbrev pub file_at : List ℕ → Option (Taken File)
file_at bs = behind (text_at bs) (λ name rest. behind (field_at rest) (file_of name))

-- so many texts, put behind those that were read before
abbrev pub texts_at : ℕ → List (List ℕ) → List ℕ → Option (Taken (List (List ℕ)))
texts_at zero texts bs = taken texts bs
texts_at (suc n) texts bs = behind (text_at bs) (λ text rest. texts_at n (texts ++ text ∷ []) rest)

abbrev pub files_at : ℕ → List File → List ℕ → Option (Taken (List File))
files_at zero files bs = taken files bs
files_at (suc n) files bs = behind (file_at bs) (λ file rest. files_at n (files ++ file ∷ []) rest)

-- nothing is behind the last file
abbrev pub whole : List (List ℕ) → List File → List ℕ → Option Request
whole words files [] = Some (record { words = words; files = files })
whole words files (b ∷ bs) = None

-- the request that the bytes frame: the number of arguments, the number of files, the arguments as texts,
-- and the files
abbrev pub request_of : List ℕ → Option Request
request_of bs =
    behind (number_at bs) (λ word_count rest.
    behind (number_at rest) (λ file_count rest.
    behind (texts_at word_count [] rest) (λ words rest.
    behind (files_at file_count [] rest) (λ files rest. whole words files rest))))

-- what a step of the reading takes
abbrev pub Takes : {T : Type 0} → Option (Taken T) → T → List ℕ → Type 0
Takes read value rest = read ≡ taken value rest
