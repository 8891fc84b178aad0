use Rattle.std.proofs.Common.{◌∙◌, sym}
use Rattle.rt_ra_tree.proofs.ParseLemmas.{tree-gives}
use Rattle.rt_ra_tree.proofs.WholeLemmas.{syntax-gives-read, tree-gives-read}
use Rattle.rt_ra_tree.proofs.parser.parse_ra.Goals as goal

pub returns-in-Ok-clause-tree : goal.returns-in-Ok-clause-tree
returns-in-Ok-clause-tree c = tree-gives c.args.tokens.now c.in-Ok.tree (sym c.is_deep.ensures ∙ c.if-is_deep.false) c.in-Ok.ensures

pub returns-in-Ok-clause-read : goal.returns-in-Ok-clause-read
returns-in-Ok-clause-read c = tree-gives-read c.args.tokens.now c.in-Ok.tree (sym c.is_deep.ensures ∙ c.if-is_deep.false) c.in-Ok.ensures

pub returns-in-Err-Syntax-clause-read : goal.returns-in-Err-Syntax-clause-read
returns-in-Err-Syntax-clause-read c = syntax-gives-read c.args.tokens.now c.in-Err-Syntax.field-0 c.in-Err-Syntax.left c.in-Err-Syntax.field-0-is
    (sym c.is_deep.ensures ∙ c.if-is_deep.false) c.in-Err-Syntax.ensures
