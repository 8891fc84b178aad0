use Rattle.std.proofs.Common.{◌≡◌, ◌++◌, length, drop}
use Rattle.rt_grade.specs.Listed.{lines, listed, paths_in}
use Rattle.rt_grade.proofs.paths.paths_of.Given as goal

abbrev pub invariant-lines : goal.invariant-lines
invariant-lines l = listed l.text ≡ l.paths ++ paths_in (drop (length l.yielded) (lines l.text))
