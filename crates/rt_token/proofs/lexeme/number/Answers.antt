use Rattle.std.proofs.Common.{◌<◌, ◌^◌, refl, arith, length, take}
use Rattle.std.specs.Int.{w128}
use Rattle.std.proofs.lemmas.List.{length-take}
use Rattle.std.specs.Char.{is_ascii_digit}
use Rattle.std.proofs.lemmas.Int.{to_z_pos}
use Rattle.rt_value.specs.Numeral.{decimal}
use Rattle.rt_token.specs.Lexed.{largest}
use Rattle.rt_token.proofs.LexLemmas.{front-passes}
use Rattle.rt_token.proofs.Readings.{within-largest}
use Rattle.rt_token.proofs.lexeme.number.Goals as goal

pub decimal_up_to-requires : goal.decimal_up_to-requires
decimal_up_to-requires c = rw c.digits_len-len.ensures.value (front-passes is_ascii_digit c.args.z.now)

pub returns-clause-reading : goal.returns-clause-reading
returns-clause-reading c =
    let r = within-largest largest (decimal (take c.digits_len-len.result c.args.z.now)) c.in-Some.value c.in-Some.ensures in
    let d = c.digits_len-len.ensures in
    let begins = c.requires.begins in
    let l : 0 < length (take c.digits_len-len.result c.args.z.now) = omega (arith, length-take c.digits_len-len.result c.args.z.now, d.within, d.value, begins) in
    let h : c.in-Some.value < 2 ^ 127 = omega (arith, r.0, r.1) in
    rw c.token.ensures (rw d.value (front-passes is_ascii_digit c.args.z.now), l, rw (to_z_pos w128 c.in-Some.value h, r.0) refl, r.1)
