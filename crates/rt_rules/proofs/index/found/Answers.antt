use Rattle.std.proofs.Common.{List, ap, drop, ◌∙◌}
use Rattle.std.specs.List.{list_any}
use Rattle.rt_value.specs.declared.value.Value.{Value}
use Rattle.rt_value.specs.Row.{row_eq}
use Rattle.rt_schema.specs.Cells.{cells}
use Rattle.rt_schema.specs.Kept.{kept_rows}
use Rattle.rt_formula.specs.Shared.{val}
use Rattle.rt_rules.proofs.index.found.Goals as goal

pub returns-clause-means : goal.returns-clause-means
returns-clause-means c keys rows base indexed = record {
  below = c.in_ok-node.ensures.node;
  same = λ keep l.
      let values = c.in_ok-values.values in
      let K = kept_rows rows (drop base keep) in
      c.in_ok-node.ensures.means keep
      ∙ ap (list_any (val c.args.dag.now keep)) c.get.ensures
      ∙ indexed.same keep (l ∙ c.in_ok-node.ensures.grown.rows) values
      ∙ ap (λ (v : List Value). list_any (λ r. row_eq v (cells keys r)) K) c.in_ok-values.ensures;
}
