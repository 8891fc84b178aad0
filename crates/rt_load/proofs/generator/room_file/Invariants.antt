use Rattle.std.proofs.Common.{◌≡◌, ◌++◌, codes}
use Rattle.rt_load.specs.Made.{line, room_line, up_to}
use Rattle.rt_load.proofs.generator.room_file.Given as goal

abbrev pub invariant-loop-j : goal.invariant-loop-j
invariant-loop-j l = l.text ≡ line (codes "num,id") ++ up_to l.j (room_line l.n)
