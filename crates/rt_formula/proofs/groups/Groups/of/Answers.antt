use Rattle.std.proofs.Common.{◌∙◌, sym, ap, cond, ◌++◌, ◌∷◌, []}
use Rattle.rt_value.specs.Row.{row_eq}
use Rattle.rt_formula.proofs.GroupLemmas.{standing_more}
use Rattle.rt_formula.proofs.groups.Groups.of.Goals as goal

pub loop-noted-preserved : goal.loop-noted-preserved
loop-noted-preserved c row =
    let n = c.noted-item.result in
    c.in_ok-put.ensures row
    ∙ ap (λ ks. ks ++ cond (row_eq row n.row) (n.node ∷ []) []) (c.loop-noted.invariant row)
    ∙ sym (standing_more c.args.rows.now c.loop-noted.noted-index n c.loop-noted-test.true c.noted-item.is row)
