-- The two operands of an operator, each with the punctuation around it.
use Rattle.std.specs.Prelude.{Some}
use Rattle.rt_token.specs.Readers.{Parser, ◌>>=◌}
use Rattle.rt_token.specs.Terminals.{after}
use Rattle.rt_token.specs.declared.fixed.Fixed.TheVariants as fixed

-- between the parenthesis and the comma
abbrev pub first_operand : {A : Type 0} → Parser A → Parser A
first_operand p ks = after fixed.OpenParen ks >>= λ r. p r >>= λ a. after fixed.Comma a.1 >>= λ s. Some (a.0, s)

-- before the closing parenthesis
abbrev pub last_operand : {A : Type 0} → Parser A → Parser A
last_operand p ks = p ks >>= λ a. after fixed.CloseParen a.1 >>= λ s. Some (a.0, s)
