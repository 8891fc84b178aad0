use Rattle.std.proofs.Common.{◌∙◌, sym, refl}
use Rattle.rt_token.proofs.Loops.{passed-on, when-ends, when-fails, when-more, when-shorter}
use Rattle.rt_ddl_tree.specs.Reads.{is_column_rule, read_column_constraint}
use Rattle.rt_ddl_tree.proofs.ColumnLaws.{column-constraint-step-law}
use Rattle.rt_ddl_tree.proofs.columns.column_constraints.Goals as goal

pub returns-in_err-item : goal.returns-in_err-item
returns-in_err-item c = passed-on c.from_residual.result c.in_err-item.field-0.0 _ c.from_residual.ensures.1
    (when-fails is_column_rule read_column_constraint c.items.items c.items.rest.now c.args.terminals.now c.in_err-item.field-0.0 c.items.invariant refl (sym c.is_column_rule.ensures ∙ c.items-test.true) c.in_err-item.ensures)

pub items-smaller : goal.items-smaller
items-smaller c = when-shorter is_column_rule read_column_constraint _ _ _ _ (column-constraint-step-law 0) c.items.rest.now c.in_ok-item.more.now c.in_ok-item.item (sym c.is_column_rule.ensures ∙ c.items-test.true) c.in_ok-item.ensures

pub items-preserved : goal.items-preserved
items-preserved c = rw c.in_ok-push.ensures.ok
    (when-more is_column_rule read_column_constraint _ _ _ _ (column-constraint-step-law 0) c.items.items c.items.rest.now c.args.terminals.now c.in_ok-item.more.now c.in_ok-item.item c.items.invariant (sym c.is_column_rule.ensures ∙ c.items-test.true) c.in_ok-item.ensures)

pub returns : goal.returns
returns c = when-ends is_column_rule read_column_constraint c.items.items c.items.rest.now c.args.terminals.now c.items.invariant (sym c.is_column_rule.ensures ∙ c.items-test.false)
