use Rattle.std.proofs.Common.{◌≡◌, ◌++◌}
use Rattle.rt_tools.specs.Texts.{grade_lines}
use Rattle.rt_tools.proofs.say.put_lines.Given as goal

abbrev pub invariant-lines : goal.invariant-lines
invariant-lines l = l.initial.text ++ grade_lines l.paths l.grades ≡ l.text ++ grade_lines l.path-iterator.a.rest.now l.path-iterator.b.rest.now
