use Rattle.std.proofs.Common.{◌≡◌, ◌++◌, codes}
use Rattle.rt_load.specs.Made.{line, reg_lines, up_to}
use Rattle.rt_load.proofs.generator.reg_file.Given as goal

abbrev pub invariant-loop-i : goal.invariant-loop-i
invariant-loop-i l = l.text ≡ line (codes "id,num,dept") ++ up_to l.i (reg_lines l.n)
