use Rattle.std.proofs.Common.{refl}
use Rattle.rt_input.proofs.ShapeLemmas.{shape_ok, shape_refuses}
use Rattle.rt_input.proofs.query.like_left.Goals as goal

pub returns-in-Ok-clause-ok : goal.returns-in-Ok-clause-ok
returns-in-Ok-clause-ok c = (refl, shape_ok c.args.left.now c.args.right c.in-Ok.ensures)

pub returns-in-Err-clause-err : goal.returns-in-Err-clause-err
returns-in-Err-clause-err c = rw c.name_outcome.ensures (shape_refuses c.args.left.now c.args.right c.in-Err.fault c.in-Err.ensures)
