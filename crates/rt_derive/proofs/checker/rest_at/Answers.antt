use Rattle.rt_clause.specs.Lists.{line_at}
use Rattle.rt_derive.proofs.Likeness.{rest-alike}
use Rattle.rt_derive.proofs.checker.rest_at.Goals as goal

pub returns : goal.returns
returns c = rest-alike c.args.held.now c.brief_at.result.now (line_at c.args.lines.now c.args.h) c.brief_at.ensures c.what_is_left.result c.what_is_left.ensures
