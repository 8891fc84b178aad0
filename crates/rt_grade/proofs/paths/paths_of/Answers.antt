use Rattle.std.proofs.Common.{◌∙◌, ◌+◌, ◌++◌, sym, ap, length, drop, lit<}
use Rattle.std.proofs.lemmas.Iterator.Splits.{YieldsList-from_str_split}
use Rattle.std.proofs.lemmas.Iterator.Consumers.{YieldsList-at, YieldsList-turn, YieldsList-end}
use Rattle.std.proofs.lemmas.List.{length_push}
use Rattle.rt_grade.specs.Listed.{lines, listed, paths_in}
use Rattle.rt_grade.proofs.CandidateLemmas.{all_paths, more_paths}
use Rattle.rt_grade.proofs.paths.paths_of.Goals as goal

pub lines-preserved : goal.lines-preserved
lines-preserved c =
    let s = c.split-line-items.ensures in
    let t = YieldsList-turn (YieldsList-at c.into_iter-line-iterator.ensures.into_iter_gives (YieldsList-from_str_split 10 c.args.text.now (lit< tt) s.text s.has_more s.pattern))
    c.lines.yielded _ c.lines.yielded_by _ _ c.in-Some.line c.in-Some.is c.next.ensures.steps in
    more_paths (listed c.args.text.now) c.lines.paths (lines c.args.text.now) (length c.lines.yielded) c.in-Some.line.now t.0 t.1 c.lines.invariant
    ∙ ap (λ paths. paths ++ paths_in (drop (length c.lines.yielded + 1) (lines c.args.text.now))) (sym c.in_ok-put_path.ensures)
    ∙ ap (λ n. c.put_path.new.paths ++ paths_in (drop n (lines c.args.text.now))) (sym (length_push c.lines.yielded c.in-Some.line))

pub returns : goal.returns
returns c =
    let s = c.split-line-items.ensures in
    let t = YieldsList-end (YieldsList-at c.into_iter-line-iterator.ensures.into_iter_gives (YieldsList-from_str_split 10 c.args.text.now (lit< tt) s.text s.has_more s.pattern))
    c.lines.yielded _ c.lines.yielded_by _ _ c.in-None.is c.next.ensures.steps in
    sym (all_paths (listed c.args.text.now) c.lines.paths (lines c.args.text.now) (length c.lines.yielded) t.1 c.lines.invariant)
