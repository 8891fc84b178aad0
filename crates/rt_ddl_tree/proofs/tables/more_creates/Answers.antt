use Rattle.std.proofs.Common.{◌∙◌, sym, refl}
use Rattle.rt_token.proofs.Loops.{passed-on, when-ends, when-fails, when-more, when-shorter}
use Rattle.rt_token.specs.Readers.{lead}
use Rattle.rt_token.specs.declared.fixed.Fixed.TheVariants as fixed
use Rattle.rt_ddl_tree.specs.Reads.{read_create, starts_more}
use Rattle.rt_ddl_tree.proofs.TextLaws.{create-step-law}
use Rattle.rt_ddl_tree.proofs.tables.more_creates.Goals as goal

pub returns-in_err-item : goal.returns-in_err-item
returns-in_err-item c = passed-on c.from_residual.result c.in_err-item.field-0.0 _ c.from_residual.ensures.1
    (when-fails starts_more (lead fixed.Semicolon read_create) c.items.items c.items.rest.now c.args.terminals.now c.in_err-item.field-0.0 c.items.invariant refl (sym c.starts_more.ensures ∙ c.items-test.true) c.in_err-item.ensures)

pub items-smaller : goal.items-smaller
items-smaller c = when-shorter starts_more (lead fixed.Semicolon read_create) _ _ _ _ (create-step-law 0) c.items.rest.now c.in_ok-item.more.now c.in_ok-item.item (sym c.starts_more.ensures ∙ c.items-test.true) c.in_ok-item.ensures

pub items-preserved : goal.items-preserved
items-preserved c = rw c.in_ok-push.ensures.ok
    (when-more starts_more (lead fixed.Semicolon read_create) _ _ _ _ (create-step-law 0) c.items.items c.items.rest.now c.args.terminals.now c.in_ok-item.more.now c.in_ok-item.item c.items.invariant (sym c.starts_more.ensures ∙ c.items-test.true) c.in_ok-item.ensures)

pub returns : goal.returns
returns c = when-ends starts_more (lead fixed.Semicolon read_create) c.items.items c.items.rest.now c.args.terminals.now c.items.invariant (sym c.starts_more.ensures ∙ c.items-test.false)
