use Rattle.std.proofs.Common.{rules, ◌∙◌, ◌+◌, sym, ap, length, drop}
use Rattle.std.proofs.lemmas.Iterator.Splits.{YieldsList-from_slice_split}
use Rattle.std.proofs.lemmas.Iterator.Consumers.{YieldsList-at, YieldsList-turn, YieldsList-end}
use Rattle.std.proofs.lemmas.List.{length_push}
use Rattle.std.specs.List.{slice_split}
use Rattle.rt_row.specs.Rows.{each_cell, is_comma}
use Rattle.rt_row.proofs.ReaderLemmas.{after, all_cells, more_cells, no_cells}
use Rattle.rt_row.proofs.reader.cells.Goals as goal

pub parts-preserved : goal.parts-preserved
parts-preserved c =
    let t = YieldsList-turn (YieldsList-at c.into_iter-part-iterator.ensures.into_iter_gives (YieldsList-from_slice_split _ is_comma c.args.tokens.now c.split-part-items.ensures.rest c.split-part-items.ensures.done
    c.split-part-items.ensures.closure (λ x b q k. search rules))) c.parts.yielded _ c.parts.yielded_by _ _ c.in-Some.part c.in-Some.is c.next.ensures.steps in
    let parts = slice_split is_comma c.args.tokens.now in
    more_cells (each_cell parts) c.parts.row parts (length c.parts.yielded) c.in-Some.part.now c.in-Some-2.value t.0 t.1 (sym c.in_ok-value.ensures ∙ c.in-Some-2.is) c.parts.invariant
    ∙ ap (λ row. after row (each_cell (drop (length c.parts.yielded + 1) parts))) (sym c.in_ok-push-in-Some-2.ensures.ok)
    ∙ ap (λ n. after c.push.new.self (each_cell (drop n parts))) (sym (length_push c.parts.yielded c.in-Some.part))

pub returns-in-None-2 : goal.returns-in-None-2
returns-in-None-2 c =
    let t = YieldsList-turn (YieldsList-at c.into_iter-part-iterator.ensures.into_iter_gives (YieldsList-from_slice_split _ is_comma c.args.tokens.now c.split-part-items.ensures.rest c.split-part-items.ensures.done
    c.split-part-items.ensures.closure (λ x b q k. search rules))) c.parts.yielded _ c.parts.yielded_by _ _ c.in-Some.part c.in-Some.is c.next.ensures.steps in
    sym (no_cells _ c.parts.row _ (length c.parts.yielded) c.in-Some.part.now t.0 t.1 (sym c.in_ok-value.ensures ∙ c.in-None-2.is) c.parts.invariant)

pub returns : goal.returns
returns c =
    let t = YieldsList-end (YieldsList-at c.into_iter-part-iterator.ensures.into_iter_gives (YieldsList-from_slice_split _ is_comma c.args.tokens.now c.split-part-items.ensures.rest c.split-part-items.ensures.done
    c.split-part-items.ensures.closure (λ x b q k. search rules))) c.parts.yielded _ c.parts.yielded_by _ _ c.in-None.is c.next.ensures.steps in
    sym (all_cells _ c.parts.row _ (length c.parts.yielded) t.1 c.parts.invariant)
