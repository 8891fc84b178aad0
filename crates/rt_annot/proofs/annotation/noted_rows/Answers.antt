use Rattle.rt_noted.proofs.Knowing.{none_known}
use Rattle.rt_annot.proofs.annotation.noted_rows.Goals as goal

pub annotated-requires-clause-known : goal.annotated-requires-clause-known
annotated-requires-clause-known c = none_known _ _ c.new-known.ensures
