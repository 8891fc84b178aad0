use Rattle.std.proofs.Common.{◌∷◌, ◌++◌, [], subst, sym}
use Rattle.rt_recorder.specs.Lines.{Begins}
use Rattle.rt_recorder.specs.Reading.{lines_read}
use Rattle.rt_recorder.proofs.NextLemmas.{ended-no}
use Rattle.rt_recorder.proofs.reading.Reading.next.Goals as goal

pub returns : goal.returns
returns c = subst (λ r. Begins (lines_read r ++ c.args.line.now ∷ []) → ⊥) (sym c.in-Ended.is) (ended-no c.args.line.now c.in-Ended.field-0)
