use Rattle.std.proofs.Common.{length}
use Rattle.rt_token.proofs.Loops.{Goes}
use Rattle.rt_token.specs.Readers.{step_after}
use Rattle.rt_ddl_tree.proofs.member.more.Given as goal

abbrev pub invariant-items : goal.invariant-items
invariant-items g l = Goes (step_after l.separator g.T.Member.parser) l.items l.rest l.terminals

abbrev pub decreases-items : goal.decreases-items
decreases-items g l = length l.rest
