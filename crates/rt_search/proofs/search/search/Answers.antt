use Rattle.rt_search.proofs.Whole.{whole-best}
use Rattle.rt_search.proofs.search.search.Goals as goal

pub returns : goal.returns
returns c = whole-best c.args.dag.now c.args.goal c.args.cone.now c.args.budget c.in_ok-best.best c.requires.cone c.in_ok-best.ensures
