use Rattle.std.proofs.Common.{◌∙◌, sym, ap, Some}
use Rattle.std.proofs.lemmas.Result.{err_from_is_err_and}
use Rattle.rt_token.specs.Terminals.{Kinds}
use Rattle.rt_ddl_tree.proofs.TreeLemmas.{tree-failed, tree-read}
use Rattle.rt_ddl_tree.proofs.reader.read_tree.Goals as goal

pub returns-in_err-terminals : goal.returns-in_err-terminals
returns-in_err-terminals c =
    let p = err_from_is_err_and c.from_residual.result c.from_residual.ensures.1 in
    rw (p.1, p.2) (tree-failed c.args.tokens.now c.in_err-terminals.field-0.0 c.in_err-terminals.ensures)

pub returns : goal.returns
returns c = tree-read c.args.tokens.now c.as_slice.result.now c.text.result (c.in_ok-terminals.ensures ∙ ap (λ (ks : Kinds). Some ks) (sym c.as_slice.ensures)) c.text.ensures
