use Rattle.std.proofs.Common.{[], Some}
use Rattle.rt_print.specs.Texts.{best_lines, budget_line}
use Rattle.rt_print.proofs.GrowLemmas.{grow}
use Rattle.rt_print.proofs.spent.spent_text.Goals as goal

pub returns-in_ok-put_best-in-Some : goal.returns-in_ok-put_best-in-Some
returns-in_ok-put_best-in-Some c = rw c.in-Some.is
    (grow c.put_best.new.text c.put_budget.new.text [] (budget_line c.args.budget) (best_lines c.args.schema.now c.args.given.now.tables (Some c.in-Some.keep.now))
    (rw c.new-text.ensures at c.in_ok-put_budget.ensures) c.in_ok-put_best-in-Some.ensures)
