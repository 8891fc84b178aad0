use Rattle.std.proofs.Common.{◌∙◌, ◌+◌, sym, ap, cond, take, ◌++◌, ◌∷◌, []}
use Rattle.rt_value.specs.Row.{row_eq}
use Rattle.rt_schema.specs.Cells.{cells}
use Rattle.rt_rules.specs.Cone.{places_where}
use Rattle.rt_rules.proofs.LinkLemmas.{places-more}
use Rattle.rt_rules.proofs.place_groups.PlaceGroups.of.Goals as goal

pub loop-at-preserved : goal.loop-at-preserved
loop-at-preserved c key =
    let at = c.loop-at.at in
    let row = c.index-rows-at.result in
    let place = c.args.base + at in
    c.in_ok-put.ensures key
    ∙ ap (λ ks. ks ++ cond (row_eq key c.in_ok-key.key) (place ∷ []) []) (c.loop-at.invariant key)
    ∙ ap (λ v. places_where (λ r. row_eq key (cells c.args.columns.now r)) c.args.base (take at c.args.rows.now) ++ cond (row_eq key v) (place ∷ []) []) c.in_ok-key.ensures
    ∙ sym (places-more (λ r. row_eq key (cells c.args.columns.now r)) c.args.base c.args.rows.now at row c.loop-at-test.true c.index-rows-at.is)
