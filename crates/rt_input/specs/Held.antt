-- The text of a part of a command: that of its file, as what is held of names says, or the
-- generated one.
use Rattle.std.specs.Prelude.{ℕ, ◌==◌, ◌&&◌, nat_lt, [], ◌∷◌, length, Option, None, Some, Result, Ok, Err, if◌then◌else◌}
use Rattle.rt_input.specs.declared.part.Part.{Part}
use Rattle.rt_input.specs.declared.outcome.Limit.TheVariants as limit
use Rattle.rt_input.specs.declared.outcome.Outcome.{Outcome}
use Rattle.rt_input.specs.declared.outcome.Outcome.TheVariants as outcome
use Rattle.rt_input.specs.declared.source.Source.{Source}
use Rattle.rt_input.specs.declared.source.Source.TheVariants.{Files, Made}
use Rattle.rt_input.specs.Source.{Text, file_name, made_part}

-- what is held of each name
abbrev pub Holding : Type 0
Holding = Text → Text

-- the bytes without a byte order mark at their start
abbrev pub without_mark : Text → Text
without_mark (a ∷ b ∷ c ∷ rest) = if a == 239 && b == 187 && c == 191 then rest else a ∷ b ∷ c ∷ rest
without_mark bytes = bytes

abbrev pub most_bytes : ℕ
most_bytes = 4194304

-- the text of the file of a part, unless it is too long
abbrev pub text_read : Part → Text → Result Text Outcome
text_read part bytes = if nat_lt most_bytes (length bytes) then Err (outcome.Limit (limit.TooLong part)) else Ok (without_mark bytes)

abbrev pub file_text : Part → Holding → Option Text → Result Text Outcome
file_text part held None = Ok []
file_text part held (Some file) = text_read part (held file)

-- the text of a part: that of its file, or the generated one
abbrev pub text_of : Source → Holding → Part → Result Text Outcome
text_of (Files paths) held part = file_text part held (file_name paths part)
text_of (Made texts) held part = Ok (made_part texts part)
