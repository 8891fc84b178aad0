use Rattle.std.proofs.Common.{◌≡◌, sym, ◌∙◌, true, false}
use Rattle.rt_recorder.specs.Reading.{numeral}
use Rattle.rt_recorder.proofs.Numerals.{is-number, not-numeral, too-big}
use Rattle.rt_recorder.proofs.pieces.number.Goals as goal

pub returns-then-not-is_numeral : goal.returns-then-not-is_numeral
returns-then-not-is_numeral c = let f : numeral c.args.word.now ≡ false = cc in not-numeral c.args.word.now f

pub returns-in-None : goal.returns-in-None
returns-in-None c = too-big c.args.word.now c.decimal_up_to.result c.decimal_up_to.ensures c.in-None.is

pub returns-in-Some : goal.returns-in-Some
returns-in-Some c = let t : numeral c.args.word.now ≡ true = cc in is-number c.args.word.now c.in-Some.n t (sym c.in-Some.is ∙ c.decimal_up_to.ensures)
