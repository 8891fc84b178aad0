use Rattle.std.proofs.Common.{◌≡◌}
use Rattle.rt_derive.proofs.Marks.{AreLeft}
use Rattle.rt_derive.proofs.held.Held.clear.Given as goal

abbrev pub invariant-loop-i : goal.invariant-loop-i
invariant-loop-i l = (l.self-inside.lits.items ≡ l.initial.self-inside.lits.items) × AreLeft l.self-inside.marks.items l.self-inside.lits.items l.i
