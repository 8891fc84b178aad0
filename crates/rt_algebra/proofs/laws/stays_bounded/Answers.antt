use Rattle.rt_algebra.proofs.Bounds.{typed_bounded}
use Rattle.rt_algebra.proofs.laws.stays_bounded.Goals as goal

pub returns : goal.returns
returns c = typed_bounded c.args.given.now c.args.keep.now c.args.typed.now c.tables-tables.ensures.sound c.requires.typed
