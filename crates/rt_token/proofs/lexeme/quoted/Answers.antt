use Rattle.std.proofs.Common.{arith}
use Rattle.std.proofs.lemmas.Str.{IsCharBoundary-after_ascii}
use Rattle.rt_token.proofs.Readings.{enclosed-at}
use Rattle.rt_token.proofs.lexeme.quoted.Goals as goal

pub closing-requires-clause-start : goal.closing-requires-clause-start
closing-requires-clause-start c = IsCharBoundary-after_ascii c.args.text.now c.args.at c.utf8.text c.requires.0 (omega (arith, c.requires.1))

pub returns-clause-reading : goal.returns-clause-reading
returns-clause-reading c =
    let e = enclosed-at 34 c.args.text.now c.args.at c.in-Some.content c.in-Some.len c.requires.0 c.requires.1 (rw c.in-Some.is at c.in_ok-content.ensures.value) in
    rw c.token.ensures (λ h. let w = rw (c.as_bytes.ensures, h) at c.if-is_empty.ensures in absurd (cc), e)
