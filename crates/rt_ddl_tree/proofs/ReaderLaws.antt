-- What the laws of all readers of the schema grammar share.
use Rattle.std.proofs.Common.{◌≡◌, ◌≤◌, ◌+◌, ℕ, false, arith}
use Rattle.rt_token.specs.Readers.{Parser, paren, read_name, starts}
use Rattle.rt_token.specs.Terminals.{Kinds, code, front, in_paren}
use Rattle.rt_token.specs.declared.fixed.Fixed.TheVariants as fixed
use Rattle.rt_token.proofs.FrontLemmas.{other-nat}
use Rattle.rt_token.proofs.Laws.{Lawful, name-law, paren-law, weaker}
use Rattle.rt_ddl_tree.specs.Spelled.{spelled_name}

-- a reader of the schema grammar, whose names may come before a parenthesis
abbrev pub Law : {A : Type 0} → Parser A → (A → Kinds) → ℕ → ℕ → Type 0
Law p spell n low = Lawful false p spell n low

pub a-name : (n low : ℕ) → Law read_name spelled_name n low
a-name n low = name-law false n low (λ e. cc e)

-- in parentheses, whatever its size
pub paren-any : {A : Type 0} (p : Parser A) (sp : A → Kinds) (n low : ℕ) → Law p sp n low → low ≤ code fixed.CloseParen → Law (paren p) (λ x. in_paren (sp x)) n 0
paren-any p sp n low l b = weaker (paren p) (λ x. in_paren (sp x)) (n + 2) 0 n 0 (paren-law p sp n low l b) (omega arith) (omega arith)

-- an optional part in parentheses, before anything but a parenthesis
pub no-left : (rest : Kinds) → 1 ≤ front rest → starts fixed.OpenParen rest ≡ false
no-left rest h = other-nat (front rest) (code fixed.OpenParen) (λ e. omega arith)
