-- The text of one row: its cells as they are printed, parted by commas. A cell is NULL, a whole
-- number with one minus sign at most, or a text in quotes (ISO/IEC 9075-2, 5.3).
use Rattle.std.specs.Prelude.{ℕ, pos, ◌-ℤ◌, int_le, Bool, true, false, ◌==◌, List, [], ◌∷◌, length, Option, None, Some, Result, Ok, Err, codes, if◌then◌else◌}
use Rattle.std.specs.List.{list_all, slice_split, zip}
use Rattle.std.specs.Option.{option_map, option_and_then}
use Rattle.std.specs.Str.{bytes_eq}
use Rattle.rt_value.specs.declared.value.Value.{Value}
use Rattle.rt_value.specs.declared.value.Value.TheVariants.{Null, Int, Text}
use Rattle.rt_schema.specs.declared.table.ColKind.{ColKind}
use Rattle.rt_schema.specs.declared.table.ColKind.TheVariants as kind
use Rattle.rt_token.specs.Lexed.{lexed}
use Rattle.rt_token.specs.declared.fault.LexFault.{LexFault}
use Rattle.rt_token.specs.declared.sym.Sym.TheVariants.{Comma, Minus}
use Rattle.rt_token.specs.declared.token.Token.{Token}
use Rattle.rt_token.specs.declared.token.TokenKind.{TokenKind}
use Rattle.rt_token.specs.declared.token.TokenKind.TheVariants.{Word, Quoted, Number, Str, Sym}
use Rattle.rt_row.specs.declared.fault.RowFault.{RowFault}
use Rattle.rt_row.specs.declared.fault.RowFault.TheVariants.{Lex, RowSyntax, RowWidth, RowKind, NoMemory}

-- ---- cells

-- the cell of one token
abbrev pub plain : TokenKind → Option Value
plain (Word word) = if bytes_eq word (codes "null") then Some Null else None
plain (Quoted name) = None
plain (Number n) = Some (Int n)
plain (Str text) = Some (Text text)
plain (Sym sym) = None

-- the cell of a minus sign before a number; no token is a number below 0
abbrev pub negative : TokenKind → TokenKind → Option Value
negative (Sym Minus) (Number n) = if int_le (pos 0) n then Some (Int (pos 0 -ℤ n)) else None
negative _ _ = None

abbrev pub cell : List Token → Option Value
cell (token ∷ []) = plain token.kind
cell (sign ∷ number ∷ []) = negative sign.kind number.kind
cell _ = None

-- ---- rows

abbrev pub kind_is_comma : TokenKind → Bool
kind_is_comma (Sym Comma) = true
kind_is_comma _ = false

abbrev pub is_comma : Token → Bool
is_comma token = kind_is_comma token.kind

-- a cell of each of these, where each is one
abbrev pub each_cell : List (List Token) → Option (List Value)
each_cell [] = Some []
each_cell (part ∷ parts) = option_and_then (λ value. option_map (λ row. value ∷ row) (each_cell parts)) (cell part)

-- the cells of the parts between the commas
abbrev pub cells : List Token → Option (List Value)
cells tokens = each_cell (slice_split is_comma tokens)

abbrev pub has_kind : Value → ColKind → Bool
has_kind Null k = true
has_kind (Int n) kind.Whole = true
has_kind (Int n) kind.Text = false
has_kind (Text text) kind.Whole = false
has_kind (Text text) kind.Text = true

-- each cell is NULL or of its column's kind
abbrev pub have_kinds : List Value → List ColKind → Bool
have_kinds row kinds = list_all (λ p. has_kind p.0 p.1) (zip row kinds)

abbrev pub in_kinds : List ColKind → List Value → Result (List Value) RowFault
in_kinds kinds row = if length row == length kinds then (if have_kinds row kinds then Ok row else Err RowKind) else Err RowWidth

abbrev pub or_syntax : List ColKind → Option (List Value) → Result (List Value) RowFault
or_syntax kinds None = Err RowSyntax
or_syntax kinds (Some row) = in_kinds kinds row

abbrev pub row_of : List Token → List ColKind → Result (List Value) RowFault
row_of tokens kinds = or_syntax kinds (cells tokens)

abbrev pub or_lex : List ColKind → Result (List Token) LexFault → Result (List Value) RowFault
or_lex kinds (Ok tokens) = row_of tokens kinds
or_lex kinds (Err fault) = Err (Lex fault)

-- the row of these columns that a text is
abbrev pub row_read : List ℕ → List ColKind → Result (List Value) RowFault
row_read text kinds = or_lex kinds (lexed text)

abbrev pub is_memory : RowFault → Bool
is_memory NoMemory = true
is_memory (Lex fault) = false
is_memory RowSyntax = false
is_memory RowWidth = false
is_memory RowKind = false
