use Rattle.std.proofs.Common.{refl}
use Rattle.std.proofs.lemmas.Str.{is_utf8-from_IsUtf8}
use Rattle.rt_token.proofs.Utf8Lemmas.{not-utf8, tells-utf8}
use Rattle.rt_token.proofs.lexer.tokens.Goals as goal

pub returns-in-Ok-clause-value : goal.returns-in-Ok-clause-value
returns-in-Ok-clause-value c = rw (is_utf8-from_IsUtf8 c.args.text.now c.in-Ok.ensures.cases.1) (rw c.in-Ok.ensures.cases.0 at c.tokens_of.ensures.value)

pub returns-in-Ok-clause-utf8 : goal.returns-in-Ok-clause-utf8
returns-in-Ok-clause-utf8 c = tells-utf8 c.tokens_of.result c.args.text.now c.in-Ok.ensures.cases.1 (rw c.in-Ok.ensures.cases.0 at c.tokens_of.ensures.value)

pub returns-in-Err-clause-value : goal.returns-in-Err-clause-value
returns-in-Err-clause-value c = rw (not-utf8 c.args.text.now c.in-Err.ensures.cases.0, c.valid_up_to.ensures, c.in-Err.ensures.valid_len) refl
