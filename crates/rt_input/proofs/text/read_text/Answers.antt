use Rattle.std.proofs.Common.{ap, sym, ◌∙◌}
use Rattle.rt_input.specs.Held.{text_read}
use Rattle.rt_input.proofs.GivenLemmas.{text_given}
use Rattle.rt_input.proofs.text.read_text.Goals as goal

pub returns-in_ok-without_mark-in-Ok-clause-given : goal.returns-in_ok-without_mark-in-Ok-clause-given
returns-in_ok-without_mark-in-Ok-clause-given g c = λ held fits.
    ap (λ name. text_read c.args.part (held name)) (sym c.as_str.ensures)
    ∙ text_given held c.args.part c.as_str.result.now c.in-Ok.bytes c.in_ok-without_mark-in-Ok.field-0 _ _ c.in-Ok.ensures.gave c.in-Ok.ensures.within c.in_ok-without_mark-in-Ok.ensures fits
