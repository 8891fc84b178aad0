-- What is refused before the grammar is looked at, and what parsing answers.
use Rattle.std.specs.Prelude.{◌≡◌, ℕ, Bool, true, false, not, ◌&&◌, ◌||◌, if◌then◌else◌, List, [], ◌∷◌, Option, Some, None, Result, Ok, Err, codes, bytes_eq}
use Rattle.rt_token.specs.Places.{IsPlace}
use Rattle.rt_token.specs.Terminals.{Word}
use Rattle.rt_token.specs.Words.{kinds}
use Rattle.rt_sql.specs.Depth.{is_deep}
use Rattle.rt_tree.specs.Nesting.{is_left}
use Rattle.rt_sql.specs.Formed.{IsTreeOf}
use Rattle.rt_sql.specs.declared.fault.SqlFault.{SqlFault}
use Rattle.rt_sql.specs.declared.fault.SqlFault.TheVariants as fault
use Rattle.rt_token.specs.Reserved.{is_reserved}
use Rattle.rt_token.specs.declared.token.Token.{Token}
use Rattle.rt_token.specs.declared.token.TokenKind.{TokenKind}
use Rattle.rt_token.specs.declared.token.TokenKind.TheVariants as kind
use Rattle.rt_tree.specs.declared.tree.Sql.{Sql}

-- ---- words of SQL that no query may have

abbrev pub one_of : List Word → Word → Bool
one_of [] w = false
one_of (t ∷ ts) w = bytes_eq w t || one_of ts w

abbrev pub unsupported_to_like : List Word
unsupported_to_like = codes "all" ∷ codes "case" ∷ codes "cast" ∷ codes "full" ∷ codes "group" ∷ codes "having" ∷ codes "left" ∷ codes "like" ∷ []

abbrev pub unsupported_to_with : List Word
unsupported_to_with = codes "limit" ∷ codes "natural" ∷ codes "order" ∷ codes "outer" ∷ codes "right" ∷ codes "using" ∷ codes "with" ∷ []

unfoldable pub is_unsupported : Word → Bool
is_unsupported w = one_of unsupported_to_like w || one_of unsupported_to_with w

abbrev pub begins_left : List Token → Bool
begins_left [] = false
begins_left (t ∷ ts) = is_left t.kind

-- such a word, or a word that isn't reserved directly before an opening parenthesis: a call
abbrev pub refused_word : TokenKind → List Token → Option Word
refused_word (kind.Word w) next = if is_unsupported w || (not (is_reserved w) && begins_left next) then Some w else None
refused_word (kind.Quoted t) next = None
refused_word (kind.Number n) next = None
refused_word (kind.Str t) next = None
refused_word (kind.Sym y) next = None

abbrev pub refused_at : ℕ → Option Word → Option (Word × ℕ) → Option (Word × ℕ)
refused_at at None o = o
refused_at at (Some w) o = Some (w, at)

-- the leftmost one, with its place
abbrev pub unsupported : List Token → Option (Word × ℕ)
unsupported [] = None
unsupported (t ∷ ts) = refused_at t.span.from (refused_word t.kind ts) (unsupported ts)

-- ---- refusals, in their order

abbrev pub refusal_of : Option (Word × ℕ) → Bool → Option SqlFault
refusal_of (Some u) deep = Some (fault.Unsupported u.0 u.1)
refusal_of None true = Some fault.TooDeep
refusal_of None false = None

abbrev pub refusal : List Token → Option SqlFault
refusal tokens = refusal_of (unsupported tokens) (is_deep (kinds tokens))

abbrev pub HasNoTree : List Token → Type 0
HasNoTree tokens = (t : Sql) → ¬ IsTreeOf tokens t

-- when each answer comes; NoMemory may come anywhere
abbrev pub IsAnswer : List Token → Result Sql SqlFault → Type 0
IsAnswer tokens (Ok t) = IsTreeOf tokens t
IsAnswer tokens (Err (fault.Unsupported w at)) = refusal tokens ≡ Some (fault.Unsupported w at)
IsAnswer tokens (Err fault.TooDeep) = refusal tokens ≡ Some fault.TooDeep
IsAnswer tokens (Err (fault.Syntax at)) = (refusal tokens ≡ None) × HasNoTree tokens × IsPlace tokens at
IsAnswer tokens (Err fault.NoMemory) = Unit {0}

abbrev pub is_memory : SqlFault → Bool
is_memory (fault.Unsupported w at) = false
is_memory fault.TooDeep = false
is_memory (fault.Syntax at) = false
is_memory fault.NoMemory = true
