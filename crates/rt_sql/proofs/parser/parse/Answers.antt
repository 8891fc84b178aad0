use Rattle.std.proofs.Common.{◌∙◌, sym}
use Rattle.rt_sql.proofs.ParseLemmas.{refused-by, tree-gives}
use Rattle.rt_sql.proofs.WholeLemmas.{syntax-gives-read, tree-gives-read}
use Rattle.rt_sql.proofs.parser.parse.Goals as goal

pub returns-in-Some-clause-tree : goal.returns-in-Some-clause-tree
returns-in-Some-clause-tree c = λ t f. refused-by c.args.tokens.now (c.in-Some.word.now, c.in-Some.at) c.in-Some.ensures t _ f

pub returns-in-Ok-clause-tree : goal.returns-in-Ok-clause-tree
returns-in-Ok-clause-tree c = tree-gives c.args.tokens.now c.in-Ok.tree (sym c.is_deep.ensures ∙ c.if-is_deep.false) c.in-Ok.ensures

pub returns-in-Ok-clause-read : goal.returns-in-Ok-clause-read
returns-in-Ok-clause-read c = tree-gives-read c.args.tokens.now c.in-Ok.tree (sym c.is_deep.ensures ∙ c.if-is_deep.false) c.in-Ok.ensures

pub returns-in-Err-Syntax-clause-read : goal.returns-in-Err-Syntax-clause-read
returns-in-Err-Syntax-clause-read c = syntax-gives-read c.args.tokens.now c.in-Err-Syntax.field-0 c.in-Err-Syntax.left c.in-Err-Syntax.field-0-is
    c.in_default.ensures (sym c.is_deep.ensures ∙ c.if-is_deep.false) c.in-Err-Syntax.ensures
