-- Terminals: what the two grammars are written over, and the order of their codes.
--
-- A grammar's rule may be followed by the terminals whose code is high enough. The codes are in
-- such an order that one number for each rule says what may follow it.
use Rattle.std.specs.Prelude.{ℕ, zero, suc, ◌==◌, Bool, true, false, if◌then◌else◌, List, [], ◌∷◌, ◌++◌, Option, Some, None}
use Rattle.rt_token.specs.declared.fixed.Fixed.{Fixed}
use Rattle.rt_token.specs.declared.fixed.Fixed.TheVariants as fixed
use Rattle.rt_token.specs.declared.terminal.Terminal.{Terminal}
use Rattle.rt_token.specs.declared.terminal.Terminal.TheVariants as terminal

abbrev pub Kinds : Type 0
Kinds = List Terminal

abbrev pub Word : Type 0
Word = List ℕ

-- ---- codes

abbrev pub name_code : ℕ
name_code = 23

abbrev pub end_code : ℕ
end_code = 35

abbrev pub code : Fixed → ℕ
code fixed.OpenParen = 0
code fixed.Dot = 1
code fixed.Star = 2
code fixed.Plus = 3
code fixed.Minus = 4
code fixed.Constraint = 5
code fixed.Null = 6
code fixed.Primary = 7
code fixed.Unique = 8
code fixed.References = 9
code fixed.Equal = 10
code fixed.NotEqual = 11
code fixed.Below = 12
code fixed.AtMost = 13
code fixed.Above = 14
code fixed.AtLeast = 15
code fixed.Is = 16
code fixed.Not = 17
code fixed.In = 18
code fixed.Between = 19
code fixed.And = 20
code fixed.Or = 21
code fixed.As = 22
code fixed.Inner = 24
code fixed.Join = 25
code fixed.Cross = 26
code fixed.Check = 27
code fixed.Comma = 28
code fixed.Where = 29
code fixed.Intersect = 30
code fixed.Union = 31
code fixed.Except = 32
code fixed.CloseParen = 33
code fixed.Semicolon = 34
code fixed.From = 36
code fixed.On = 37
code fixed.Select = 38
code fixed.Distinct = 39
code fixed.Exists = 40
code fixed.Create = 41
code fixed.Table = 42
code fixed.Foreign = 43

abbrev pub code_of : Terminal → ℕ
code_of (terminal.Fixed f) = code f
code_of (terminal.Name n) = name_code
code_of (terminal.Number n) = 44
code_of (terminal.Str t) = 45

-- ---- the front of a list of terminals

abbrev pub front : Kinds → ℕ
front [] = end_code
front (k ∷ ks) = code_of k

abbrev pub tail_of : Kinds → Kinds
tail_of [] = []
tail_of (k ∷ ks) = ks

-- what follows the terminal at the front
abbrev pub after : Fixed → Kinds → Option Kinds
after f [] = None
after f (k ∷ ks) = if code_of k == code f then Some ks else None

-- how often the terminal comes at the front, and what follows
abbrev pub counted : Fixed → Kinds → ℕ × Kinds
counted f [] = (0, [])
counted f (k ∷ ks) = if code_of k == code f then (suc (counted f ks).0, (counted f ks).1) else (0, k ∷ ks)

abbrev pub one_less : {A : Type 0} → ℕ → A → (ℕ → A) → A
one_less zero a f = a
one_less (suc n) a f = f n

-- what follows the parenthesis that closes those which are open, one and `more`
abbrev pub skip : Kinds → ℕ → Kinds
skip [] more = []
skip (k ∷ ks) more = if code_of k == code fixed.OpenParen then skip ks (suc more) else (if code_of k == code fixed.CloseParen then one_less more ks (λ m. skip ks m) else skip ks more)

-- ---- parts of a spelling

abbrev pub in_paren : Kinds → Kinds
in_paren ks = terminal.Fixed fixed.OpenParen ∷ (ks ++ terminal.Fixed fixed.CloseParen ∷ [])

-- the terminal where the flag is true, and else nothing
abbrev pub flag : Fixed → Bool → Kinds
flag f false = []
flag f true = terminal.Fixed f ∷ []

-- an optional part
abbrev pub maybe : {A : Type 0} → (A → Kinds) → Option A → Kinds
maybe sp None = []
maybe sp (Some x) = sp x
