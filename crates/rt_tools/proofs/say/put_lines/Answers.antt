use Rattle.std.proofs.Common.{◌++◌, sym, inl, inr}
use Rattle.rt_tools.specs.Texts.{grade_lines}
use Rattle.rt_tools.proofs.LineLemmas.{line_more, lines_end}
use Rattle.rt_tools.proofs.say.put_lines.Goals as goal

pub lines-preserved : goal.lines-preserved
lines-preserved c =
    let steps = rw c.in-Some.is at c.next.ensures.steps in
    line_more (c.args.text.now ++ grade_lines c.args.paths.now c.args.grades.now) c.lines.text c.put_line.new.text c.lines.path-iterator.a.rest.now c.lines.path-iterator.b.rest.now
    c.in-Some.path.now c.in-Some.grade.now c.next.new.self.a.rest.now c.next.new.self.b.rest.now steps.0 steps.1 c.in_ok-put_line.ensures c.lines.invariant

pub returns : goal.returns
returns c =
    let steps = rw c.in-None.is at c.next.ensures.steps in
    sym (lines_end (c.args.text.now ++ grade_lines c.args.paths.now c.args.grades.now) c.lines.text c.lines.path-iterator.a.rest.now c.lines.path-iterator.b.rest.now
    (elim steps [ inl h ↦ inl h.1.0 | inr h ↦ inr h.1.0 ]) c.lines.invariant)
