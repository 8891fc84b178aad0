-- Calls: a name directly before an opening parenthesis. A query has none.
use Rattle.std.proofs.Common.{◌≡◌, ◌≤◌, ℕ, zero, suc, [], ◌∷◌, ◌++◌, Bool, true, false, arith, ◌==◌}
use Rattle.std.specs.Prelude.{◌&&◌, not, replicate}
use Rattle.rt_token.specs.declared.fixed.Fixed.{Fixed}
use Rattle.rt_token.specs.declared.fixed.Fixed.TheVariants as fixed
use Rattle.rt_token.specs.declared.terminal.Name.{Name}
use Rattle.rt_token.specs.declared.terminal.Terminal.{Terminal}
use Rattle.rt_token.specs.declared.terminal.Terminal.TheVariants as terminal
use Rattle.rt_token.specs.Terminals.{Kinds, code, front}
use Rattle.rt_token.proofs.FrontLemmas.{other-nat}

abbrev pub is_call : Terminal → Kinds → Bool
is_call (terminal.Name n) ks = front ks == code fixed.OpenParen
is_call (terminal.Fixed f) ks = false
is_call (terminal.Number n) ks = false
is_call (terminal.Str t) ks = false

-- there is no call
abbrev pub calm : Kinds → Bool
calm [] = true
calm (k ∷ ks) = not (is_call k ks) && calm ks

abbrev pub IsCalm : Kinds → Type 0
IsCalm ks = calm ks ≡ true

pub calm-name : (n : Name) (ks : Kinds) → 1 ≤ front ks → IsCalm ks → IsCalm (terminal.Name n ∷ ks)
calm-name n ks h k = rw (other-nat (front ks) (code fixed.OpenParen) (λ e. omega arith)) k

pub calm-replicate : (f : Fixed) (n : ℕ) (ks : Kinds) → IsCalm ks → IsCalm (replicate n (terminal.Fixed f) ++ ks)
calm-replicate f zero ks k = k
calm-replicate f (suc n) ks k = calm-replicate f n ks k
