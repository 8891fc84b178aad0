use Rattle.std.proofs.Common.{arith, length-drop}
use Rattle.rt_token.proofs.Readings.{symbol-read}
use Rattle.rt_token.proofs.lexeme.front.Goals as goal

pub returns-else-b-eq47-clause-reading : goal.returns-else-b-eq47-clause-reading
returns-else-b-eq47-clause-reading c =
    let l = length-drop c.args.at c.args.text.now in
    let z = rw c.as_bytes.ensures.value at c.rest-z.ensures in
    symbol-read c.symbol.result c.byte_at-b.result c.byte_at-next.result _ (rw z at c.byte_at-b.ensures) (rw z at c.byte_at-next.ensures) (omega (arith, l, c.requires)) c.symbol.ensures.within c.symbol.ensures.reading
