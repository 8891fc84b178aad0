use Rattle.std.proofs.Common.{◌∙◌}
use Rattle.rt_grade.proofs.prepared.Prepared.of.Goals as goal

pub returns : goal.returns
returns c = record {
  rows = c.in_ok-reference.ensures.grown.rows ∙ c.in_ok-dag.ensures ∙ c.total.ensures.total;
  reference = c.in_ok-reference.ensures.reference;
}
