-- The token kinds of terminals, and which terminals a text can have (ISO/IEC 9075-2, 5.2 and 5.4).
use Rattle.std.specs.Prelude.{◌&&◌, ◌||◌, ◌-◌, ◌^◌, Bool, true, false, not, if◌then◌else◌, List, [], ◌∷◌, map, Option, Some, None, codes, bytes_eq, int_le, pos}
use Rattle.rt_token.specs.Terminals.{Kinds, Word}
use Rattle.rt_token.specs.declared.fixed.Fixed.{Fixed}
use Rattle.rt_token.specs.declared.fixed.Fixed.TheVariants as fixed
use Rattle.rt_token.specs.declared.terminal.Terminal.{Terminal}
use Rattle.rt_token.specs.declared.terminal.Terminal.TheVariants as terminal
use Rattle.rt_token.specs.Reserved.{is_reserved}
use Rattle.rt_token.specs.declared.sym.Sym.{Sym}
use Rattle.rt_token.specs.declared.sym.Sym.TheVariants as sign
use Rattle.rt_token.specs.declared.token.Token.{Token}
use Rattle.rt_token.specs.declared.token.TokenKind.{TokenKind}
use Rattle.rt_token.specs.declared.token.TokenKind.TheVariants as kind

-- ---- the reserved words of the grammars

abbrev pub Entry : Type 0
Entry = Word × Fixed

abbrev pub words_to_exists : List Entry
words_to_exists = (codes "and", fixed.And) ∷ (codes "as", fixed.As) ∷ (codes "between", fixed.Between) ∷ (codes "check", fixed.Check) ∷ (codes "constraint", fixed.Constraint) ∷ (codes "create", fixed.Create) ∷ (codes "cross", fixed.Cross) ∷ (codes "distinct", fixed.Distinct) ∷ (codes "except", fixed.Except) ∷ (codes "exists", fixed.Exists) ∷ []

abbrev pub words_to_null : List Entry
words_to_null = (codes "foreign", fixed.Foreign) ∷ (codes "from", fixed.From) ∷ (codes "in", fixed.In) ∷ (codes "inner", fixed.Inner) ∷ (codes "intersect", fixed.Intersect) ∷ (codes "is", fixed.Is) ∷ (codes "join", fixed.Join) ∷ (codes "not", fixed.Not) ∷ (codes "null", fixed.Null) ∷ []

abbrev pub words_to_where : List Entry
words_to_where = (codes "on", fixed.On) ∷ (codes "or", fixed.Or) ∷ (codes "primary", fixed.Primary) ∷ (codes "references", fixed.References) ∷ (codes "select", fixed.Select) ∷ (codes "table", fixed.Table) ∷ (codes "union", fixed.Union) ∷ (codes "unique", fixed.Unique) ∷ (codes "where", fixed.Where) ∷ []

abbrev pub look_up : List Entry → Word → Option Fixed
look_up [] w = None
look_up (e ∷ es) w = if bytes_eq w e.0 then Some e.1 else look_up es w

abbrev pub or_else : Option Fixed → Option Fixed → Option Fixed
or_else None o = o
or_else (Some f) o = Some f

unfoldable pub word_of : Word → Option Fixed
word_of w = or_else (look_up words_to_exists w) (or_else (look_up words_to_null w) (look_up words_to_where w))

-- ---- the token of a terminal

abbrev pub fixed_kind : Fixed → TokenKind
fixed_kind fixed.OpenParen = kind.Sym sign.Left
fixed_kind fixed.Dot = kind.Sym sign.Dot
fixed_kind fixed.Star = kind.Sym sign.Star
fixed_kind fixed.Plus = kind.Sym sign.Plus
fixed_kind fixed.Minus = kind.Sym sign.Minus
fixed_kind fixed.Null = kind.Word (codes "null")
fixed_kind fixed.Constraint = kind.Word (codes "constraint")
fixed_kind fixed.Primary = kind.Word (codes "primary")
fixed_kind fixed.Unique = kind.Word (codes "unique")
fixed_kind fixed.References = kind.Word (codes "references")
fixed_kind fixed.Equal = kind.Sym sign.Eq
fixed_kind fixed.NotEqual = kind.Sym sign.Ne
fixed_kind fixed.Below = kind.Sym sign.Lt
fixed_kind fixed.AtMost = kind.Sym sign.Le
fixed_kind fixed.Above = kind.Sym sign.Gt
fixed_kind fixed.AtLeast = kind.Sym sign.Ge
fixed_kind fixed.Is = kind.Word (codes "is")
fixed_kind fixed.Not = kind.Word (codes "not")
fixed_kind fixed.In = kind.Word (codes "in")
fixed_kind fixed.Between = kind.Word (codes "between")
fixed_kind fixed.And = kind.Word (codes "and")
fixed_kind fixed.Or = kind.Word (codes "or")
fixed_kind fixed.As = kind.Word (codes "as")
fixed_kind fixed.Inner = kind.Word (codes "inner")
fixed_kind fixed.Join = kind.Word (codes "join")
fixed_kind fixed.Cross = kind.Word (codes "cross")
fixed_kind fixed.Check = kind.Word (codes "check")
fixed_kind fixed.Comma = kind.Sym sign.Comma
fixed_kind fixed.Where = kind.Word (codes "where")
fixed_kind fixed.Intersect = kind.Word (codes "intersect")
fixed_kind fixed.Union = kind.Word (codes "union")
fixed_kind fixed.Except = kind.Word (codes "except")
fixed_kind fixed.CloseParen = kind.Sym sign.Right
fixed_kind fixed.Semicolon = kind.Sym sign.Semi
fixed_kind fixed.From = kind.Word (codes "from")
fixed_kind fixed.On = kind.Word (codes "on")
fixed_kind fixed.Select = kind.Word (codes "select")
fixed_kind fixed.Distinct = kind.Word (codes "distinct")
fixed_kind fixed.Exists = kind.Word (codes "exists")
fixed_kind fixed.Create = kind.Word (codes "create")
fixed_kind fixed.Table = kind.Word (codes "table")
fixed_kind fixed.Foreign = kind.Word (codes "foreign")

abbrev pub name_kind : Bool → Word → TokenKind
name_kind true t = kind.Quoted t
name_kind false t = kind.Word t

abbrev pub kind_of : Terminal → TokenKind
kind_of (terminal.Fixed f) = fixed_kind f
kind_of (terminal.Name n) = name_kind n.quoted n.text
kind_of (terminal.Number n) = kind.Number n
kind_of (terminal.Str t) = kind.Str t

abbrev pub kinds : List Token → List TokenKind
kinds ts = map (λ t. t.kind) ts

-- ---- what a formed tree may have

-- a name is quoted or not reserved, and a number is from 0 to 2^127 - 1
abbrev pub is_formed : Terminal → Bool
is_formed (terminal.Fixed f) = true
is_formed (terminal.Name n) = n.quoted || not (is_reserved n.text)
is_formed (terminal.Number n) = int_le (pos 0) n && int_le n (pos (2 ^ 127 - 1))
is_formed (terminal.Str t) = true

abbrev pub all_formed : Kinds → Bool
all_formed [] = true
all_formed (t ∷ ts) = is_formed t && all_formed ts

-- ---- the terminal of a token, if it has one

abbrev pub sign_of : Sym → Fixed
sign_of sign.Left = fixed.OpenParen
sign_of sign.Dot = fixed.Dot
sign_of sign.Star = fixed.Star
sign_of sign.Plus = fixed.Plus
sign_of sign.Minus = fixed.Minus
sign_of sign.Eq = fixed.Equal
sign_of sign.Ne = fixed.NotEqual
sign_of sign.Lt = fixed.Below
sign_of sign.Le = fixed.AtMost
sign_of sign.Gt = fixed.Above
sign_of sign.Ge = fixed.AtLeast
sign_of sign.Comma = fixed.Comma
sign_of sign.Right = fixed.CloseParen
sign_of sign.Semi = fixed.Semicolon

abbrev pub marked : Word → Option Fixed → Option Terminal
marked w (Some f) = Some (terminal.Fixed f)
marked w None = if is_reserved w then None else Some (terminal.Name (record { text = w; quoted = false }))

abbrev pub mark : TokenKind → Option Terminal
mark (kind.Word w) = marked w (word_of w)
mark (kind.Quoted t) = Some (terminal.Name (record { text = t; quoted = true }))
mark (kind.Number n) = if is_formed (terminal.Number n) then Some (terminal.Number n) else None
mark (kind.Str t) = Some (terminal.Str t)
mark (kind.Sym s) = Some (terminal.Fixed (sign_of s))

abbrev pub in_front : Option Terminal → Option Kinds → Option Kinds
in_front None o = None
in_front (Some t) None = None
in_front (Some t) (Some ts) = Some (t ∷ ts)

abbrev pub marks : List TokenKind → Option Kinds
marks [] = Some []
marks (k ∷ ks) = in_front (mark k) (marks ks)
