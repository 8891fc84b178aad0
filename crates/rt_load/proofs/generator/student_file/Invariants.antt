use Rattle.std.proofs.Common.{◌≡◌, ◌++◌, codes}
use Rattle.rt_load.specs.Made.{line, student_line, up_to}
use Rattle.rt_load.proofs.generator.student_file.Given as goal

abbrev pub invariant-loop-i : goal.invariant-loop-i
invariant-loop-i l = l.text ≡ line (codes "id") ++ up_to l.i student_line
