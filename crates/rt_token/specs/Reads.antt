-- What a reader in code answers, in terms of a reader of `Readers`.
use Rattle.std.specs.Prelude.{◌≡◌, Option, Some, None, Result, Ok, Err}
use Rattle.std.specs.Borrow.{Bor}
use Rattle.rt_token.specs.Terminals.{Kinds}
use Rattle.rt_token.specs.declared.read_fault.ReadFault.{ReadFault}
use Rattle.rt_token.specs.declared.read_fault.ReadFault.TheVariants.{Syntax, NoMemory}

-- the answer is the value that is read, or Syntax where none is; NoMemory may come anywhere
abbrev pub Answers : {A : Type 0} → Result A ReadFault → Option A → Type 0
Answers (Ok x) o = o ≡ Some x
Answers (Err (Syntax left)) o = o ≡ None
Answers (Err NoMemory) o = Unit {0}

-- the same for a value and the terminals after it
abbrev pub Reads : {A : Type 0} → Result (A × Bor Kinds) ReadFault → Option (A × Kinds) → Type 0
Reads (Ok p) o = o ≡ Some (p.0, p.1.now)
Reads (Err (Syntax left)) o = o ≡ None
Reads (Err NoMemory) o = Unit {0}

-- the same for the terminals after one that is expected; it takes no memory
abbrev pub Rests : Result (Bor Kinds) ReadFault → Option Kinds → Type 0
Rests (Ok rest) o = o ≡ Some rest.now
Rests (Err (Syntax left)) o = o ≡ None
Rests (Err NoMemory) o = ⊥
