use Rattle.rt_algebra.proofs.Exact.{typed_exact}
use Rattle.rt_algebra.proofs.laws.wrapped_is_exact.Goals as goal

pub returns : goal.returns
returns c = typed_exact c.args.given.now c.args.keep.now c.args.typed.now c.tables-tables.ensures.sound c.requires.typed
