use Rattle.std.proofs.Common.{◌≡◌, ◌+◌, ◌-◌, arith, length-drop}
use Rattle.rt_token.proofs.Readings.{word-boundary, word-reading}
use Rattle.rt_token.proofs.lexeme.word.Goals as goal

pub lower_case-requires-clause-end : goal.lower_case-requires-clause-end
lower_case-requires-clause-end c =
    let n = rw (c.rest.ensures, c.as_bytes.ensures.value) at c.word_len-len.ensures.value in
    let w = rw (c.rest.ensures, c.as_bytes.ensures.value) at c.word_len-len.ensures.within in
    word-boundary c.args.text.now c.args.at c.word_len-len.result c.utf8.text c.requires.within c.requires.begins n (omega (arith, length-drop c.args.at c.args.text.now, w, c.requires.within))

pub returns-clause-reading : goal.returns-clause-reading
returns-clause-reading c =
    let n = rw (c.rest.ensures, c.as_bytes.ensures.value) at c.word_len-len.ensures.value in
    let m : c.args.at + c.word_len-len.result - c.args.at ≡ c.word_len-len.result = omega arith in
    rw c.token.ensures (word-reading c.args.text.now c.args.at c.word_len-len.result c.requires.within c.requires.begins n, rw m at c.in_ok-word.ensures)
