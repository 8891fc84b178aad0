-- Where tokens are in their text, and what an error says of it.
use Rattle.std.specs.Prelude.{◌≤◌, ◌<◌, ℕ, Bool, true, false, List, [], ◌∷◌, Ok, Err}
use Rattle.std.specs.Str.{IsUtf8, IsValidUpTo}
use Rattle.rt_token.specs.declared.token.Token.{Token}
use Rattle.rt_token.specs.declared.fault.LexFault.{LexFault}
use Rattle.rt_token.specs.declared.fault.LexFault.TheVariants.{NotUtf8, BadByte, OpenText, OpenComment, BigNumber, NoMemory}
use Rattle.rt_token.specs.Lexed.{Text, Tokens}

-- no token is empty, and each begins where the one before it ends or later
abbrev pub AreInOrder : ℕ → List Token → ℕ → Type 0
AreInOrder at [] end = at ≤ end
AreInOrder at (t ∷ ts) end = (at ≤ t.span.from) × (t.span.from < t.span.to) × AreInOrder t.span.to ts end

-- NotUtf8 comes exactly where the text isn't UTF-8, with the length of its longest prefix that is
abbrev pub TellsUtf8 : Tokens → Text → Type 0
TellsUtf8 (Ok ts) text = IsUtf8 text
TellsUtf8 (Err (NotUtf8 at)) text = IsValidUpTo text at
TellsUtf8 (Err (BadByte at)) text = IsUtf8 text
TellsUtf8 (Err (OpenText at)) text = IsUtf8 text
TellsUtf8 (Err (OpenComment at)) text = IsUtf8 text
TellsUtf8 (Err (BigNumber at)) text = IsUtf8 text
TellsUtf8 (Err NoMemory) text = Unit {0}

abbrev pub is_memory : LexFault → Bool
is_memory NoMemory = true
is_memory (NotUtf8 at) = false
is_memory (BadByte at) = false
is_memory (OpenText at) = false
is_memory (OpenComment at) = false
is_memory (BigNumber at) = false
