use Rattle.rt_clausify.specs.Written.{written}
use Rattle.rt_clausify.proofs.Naming.{IsNaming}
use Rattle.rt_clausify.proofs.write.write_marked.Given as goal

abbrev pub invariant-loop-i : goal.invariant-loop-i
invariant-loop-i g l = IsNaming l.dag l.marks l.i (written l.names l.next (g.A.Adds.lines l.to))
