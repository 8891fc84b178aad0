use Rattle.std.proofs.Common.{◌≡◌, length, subst}
use Rattle.rt_recorder.specs.Certificate.{ArePlaces, keep_line}
use Rattle.rt_recorder.specs.Reading.{Reads}
use Rattle.rt_recorder.proofs.NextLemmas.{keep-no}
use Rattle.rt_recorder.proofs.reading.behind_keep.Goals as goal

pub returns-in-None : goal.returns-in-None
returns-in-None c = keep-no c.args.line.now c.args.rows c.requires (subst (Reads (λ ps. ArePlaces ps × (length ps ≡ c.args.rows)) keep_line c.args.line.now) c.in-None.is c.in_ok-places.ensures)
