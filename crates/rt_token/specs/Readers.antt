-- Readers of terminals from the left, and how a grammar's rules are put together of them.
--
-- A grammar is defined by the spellings of its trees. By its law `read_is_tree` its readers give
-- just the tree that the tokens spell.
use Rattle.std.specs.Prelude.{◌&&◌, bytes_eq, not, ℕ, zero, suc, ◌==◌, Bool, true, false, if◌then◌else◌, List, [], ◌∷◌, length, Option, Some, None, option_and_then}
use Rattle.rt_token.specs.declared.fixed.Fixed.{Fixed}
use Rattle.rt_token.specs.declared.fixed.Fixed.TheVariants as fixed
use Rattle.rt_token.specs.declared.terminal.Name.{Name}
use Rattle.rt_token.specs.declared.terminal.Terminal.TheVariants as terminal
use Rattle.rt_token.specs.declared.terminal.Terminal.{Terminal}
use Rattle.rt_token.specs.Terminals.{Kinds, Word, after, code, code_of, counted, front, name_code}

abbrev pub Parser : Type 0 → Type 0
Parser A = Kinds → Option (A × Kinds)

infixl 10 ◌>>=◌
abbrev pub ◌>>=◌ : {A B : Type 0} → Option A → (A → Option B) → Option B
o >>= f = option_and_then f o

-- the one, then the other
abbrev pub both : {A B : Type 0} → Parser A → Parser B → Parser (A × B)
both p r ks = p ks >>= λ a. r a.1 >>= λ b. Some ((a.0, b.0), b.1)

abbrev pub made : {A B : Type 0} → (A → B) → Parser A → Parser B
made f p ks = p ks >>= λ a. Some (f a.0, a.1)

-- the terminal, then the rest
abbrev pub lead : {A : Type 0} → Fixed → Parser A → Parser A
lead f p ks = after f ks >>= p

-- in parentheses
abbrev pub paren : {A : Type 0} → Parser A → Parser A
paren p ks = after fixed.OpenParen ks >>= λ r. p r >>= λ a. after fixed.CloseParen a.1 >>= λ s. Some (a.0, s)

abbrev pub flag_from : Kinds → Option Kinds → Bool × Kinds
flag_from ks None = (false, ks)
flag_from ks (Some r) = (true, r)

-- whether the terminal is at the front, and what follows it, or all
abbrev pub flag_at : Fixed → Kinds → Bool × Kinds
flag_at f ks = flag_from ks (after f ks)

abbrev pub flagged_from : {A : Type 0} → Parser A → Kinds → Option Kinds → Option ((Bool × A) × Kinds)
flagged_from p ks o = p (flag_from ks o).1 >>= λ a. Some (((flag_from ks o).0, a.0), a.1)

-- whether the terminal is there, then the rest
abbrev pub flagged : {A : Type 0} → Fixed → Parser A → Parser (Bool × A)
flagged f p ks = flagged_from p ks (after f ks)

-- how often the terminal comes there, then the rest
abbrev pub repeated : {A : Type 0} → Fixed → Parser A → Parser (ℕ × A)
repeated f p ks = p (counted f ks).1 >>= λ a. Some (((counted f ks).0, a.0), a.1)

-- what may be missing
abbrev pub optional : {A : Type 0} → (Kinds → Bool) → Parser A → Parser (Option A)
optional test p ks = if test ks then (p ks >>= λ a. Some (Some a.0, a.1)) else Some (None, ks)

-- whether the terminal is at the front
abbrev pub starts : Fixed → Kinds → Bool
starts f ks = front ks == code f

abbrev pub either : {A : Type 0} → (Kinds → Bool) → Parser A → Parser A → Parser A
either test p r ks = if test ks then p ks else r ks

abbrev pub or_else_read : {A : Type 0} → Parser A → Parser A → Kinds → Option Kinds → Option (A × Kinds)
or_else_read p r ks None = r ks
or_else_read p r ks (Some rest) = p rest

-- the one after the terminal, where it is there, and else the other
abbrev pub alternative : {A : Type 0} → Fixed → Parser A → Parser A → Parser A
alternative f p r ks = or_else_read p r ks (after f ks)

-- nothing is read
abbrev pub done : Parser (Unit {0})
done ks = Some (tt, ks)

abbrev pub no_other : {A : Type 0} → Parser A
no_other ks = None

-- a semicolon or nothing, and then the end
abbrev pub read_end : Kinds → Option Bool
read_end [] = Some false
read_end (k ∷ []) = if code_of k == code fixed.Semicolon then Some true else None
read_end (k ∷ l ∷ ks) = None

-- ---- names and words that aren't reserved

abbrev pub starts_name : Kinds → Bool
starts_name ks = front ks == name_code

unfoldable pub read_name : Parser Name
read_name [] = None
read_name (terminal.Name n ∷ ks) = Some (n, ks)
read_name (k ∷ ks) = None

abbrev pub plain_word : Word → Terminal
plain_word w = terminal.Name (record { text = w; quoted = false })

abbrev pub after_word : Word → Kinds → Option Kinds
after_word w [] = None
after_word w (terminal.Name n ∷ ks) = if not n.quoted && bytes_eq n.text w then Some ks else None
after_word w (k ∷ ks) = None

abbrev pub lead_word : {A : Type 0} → Word → Parser A → Parser A
lead_word w p ks = after_word w ks >>= p

abbrev pub word_alternative : {A : Type 0} → Word → Parser A → Parser A → Parser A
word_alternative w p r ks = or_else_read p r ks (after_word w ks)

-- ---- lists: a step stops, fails, or reads one more

abbrev pub Step : Type 0 → Type 0
Step A = Kinds → Option (Option (A × Kinds))

abbrev pub match_step : {A B : Type 0} → Option (Option A) → Option B → (A → Option B) → Option B
match_step None stop go = stop
match_step (Some None) stop go = None
match_step (Some (Some p)) stop go = go p

unfoldable pub many : {A : Type 0} → Step A → ℕ → Kinds → Option (List A × Kinds)
many step zero ks = Some ([], ks)
many step (suc n) ks = match_step (step ks) (Some ([], ks)) (λ p. many step n p.1 >>= λ q. Some (p.0 ∷ q.0, q.1))

abbrev pub list_of : {A : Type 0} → Step A → Parser (List A)
list_of step ks = many step (length ks) ks

-- an item, where the test says that one is there
abbrev pub step_when : {A : Type 0} → (Kinds → Bool) → Parser A → Step A
step_when test p ks = if test ks then Some (p ks) else None

abbrev pub after_from : {A : Type 0} → Parser A → Option Kinds → Option (Option (A × Kinds))
after_from p None = None
after_from p (Some ks) = Some (p ks)

-- the terminal, then an item
abbrev pub step_after : {A : Type 0} → Fixed → Parser A → Step A
step_after f p ks = after_from p (after f ks)
