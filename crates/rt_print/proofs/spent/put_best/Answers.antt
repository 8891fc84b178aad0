use Rattle.std.proofs.Common.{codes}
use Rattle.std.proofs.lemmas.Result.{on_ok_weaker}
use Rattle.rt_value.specs.Keep.{size}
use Rattle.rt_print.specs.Texts.{count_line, kept_lines}
use Rattle.rt_print.proofs.GrowLemmas.{grow}
use Rattle.rt_print.proofs.spent.put_best.Goals as goal

pub returns : goal.returns
returns c = on_ok_weaker c.put_kept.result
    (λ h. grow c.put_kept.new.text c.put_count.new.text c.args.text.now (count_line (codes "best so far") (size c.args.keep.now)) (kept_lines c.args.schema.now c.args.given.now.tables c.args.keep.now)
    (rw c.size.ensures at c.in_ok-put_count.ensures) h)
    c.put_kept.ensures
