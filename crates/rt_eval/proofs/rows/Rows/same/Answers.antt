use Rattle.std.proofs.Common.{◌∙◌, ap₂}
use Rattle.rt_value.specs.Row.{row_eq}
use Rattle.rt_schema.specs.Given.{Rows}
use Rattle.rt_algebra.specs.Answer.{same_rows}
use Rattle.rt_eval.proofs.DistinctLaws.{distinct_same, equal_sets}
use Rattle.rt_eval.proofs.rows.Rows.same.Goals as goal
use lib.Pointwise.{pointwise}

pub returns-clause-sets : goal.returns-clause-sets
returns-clause-sets c =
    c.eq.ensures ∙ ap₂ (λ (xs ys : Rows). pointwise row_eq xs ys) c.as_slice.ensures.rows c.as_slice-2.ensures.rows
    ∙ equal_sets c.args.self.now c.args.other.now c.as_slice.ensures.sorted c.as_slice-2.ensures.sorted

pub returns-clause-lists : goal.returns-clause-lists
returns-clause-lists c xs ys p q = returns-clause-sets c ∙ ap₂ (λ (xs ys : Rows). same_rows xs ys) p q ∙ distinct_same xs ys
