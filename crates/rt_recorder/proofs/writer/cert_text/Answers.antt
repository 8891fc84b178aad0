use Rattle.std.proofs.Common.{◌++◌, ap, ◌∙◌, map}
use Rattle.rt_recorder.specs.Certificate.{step_line, text_of}
use Rattle.rt_recorder.proofs.TextLemmas.{written}
use Rattle.rt_recorder.proofs.writer.cert_text.Goals as goal

pub returns : goal.returns
returns c =
    written c.args.cert.now c.in_ok-text.text c.put_verdict.new.text c.put_added.new.text c.put_steps.new.text c.extend.new.self c.in_ok-text.ensures c.in_ok-put_verdict.ensures c.in_ok-put_added.ensures
    (c.in_ok-put_steps.ensures ∙ ap (λ ss. c.put_added.new.text ++ text_of (map step_line ss)) c.as_slice.ensures) c.in_ok-extend.ensures.ok
