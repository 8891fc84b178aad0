use Rattle.std.proofs.Common.{◌∙◌, sym, ap, List, Ok}
use Rattle.rt_token.specs.declared.token.Token.{Token}
use Rattle.rt_ddl.proofs.ReadLemmas.{answer-of, tree-answer}
use Rattle.rt_ddl.proofs.WholeLemmas.{answer-read, no-tree-read, syntax-none}
use Rattle.rt_ddl.proofs.reader.read_schema.Goals as goal

pub returns-in-Ok-clause-answer : goal.returns-in-Ok-clause-answer
returns-in-Ok-clause-answer c = answer-of c.args.text.now c.as_slice.result.now c.in-Ok.tree c.made-schema.result
    (c.in_ok-tokens.ensures.value ∙ ap (λ (ts : List Token). Ok ts) (sym c.as_slice.ensures)) c.in-Ok.ensures c.made-schema.ensures

pub returns-in-Ok-clause-tree : goal.returns-in-Ok-clause-tree
returns-in-Ok-clause-tree c = tree-answer c.args.text.now c.as_slice.result.now c.in-Ok.tree c.made-schema.result
    (c.in_ok-tokens.ensures.value ∙ ap (λ (ts : List Token). Ok ts) (sym c.as_slice.ensures)) c.in-Ok.ensures c.made-schema.ensures

pub returns-in-Ok-clause-read : goal.returns-in-Ok-clause-read
returns-in-Ok-clause-read c = answer-read c.args.text.now c.made-schema.result (answer-of c.args.text.now c.as_slice.result.now c.in-Ok.tree c.made-schema.result
    (c.in_ok-tokens.ensures.value ∙ ap (λ (ts : List Token). Ok ts) (sym c.as_slice.ensures)) c.in-Ok.ensures c.made-schema.ensures)

pub returns-in-Err-Syntax-clause-read : goal.returns-in-Err-Syntax-clause-read
returns-in-Err-Syntax-clause-read c = no-tree-read c.args.text.now c.as_slice.result.now
    (c.in_ok-tokens.ensures.value ∙ ap (λ (ts : List Token). Ok ts) (sym c.as_slice.ensures))
    (syntax-none c.as_slice.result.now c.in-Err-Syntax.field-0 c.in-Err-Syntax.left c.in-Err-Syntax.field-0-is c.in-Err-Syntax.ensures)
