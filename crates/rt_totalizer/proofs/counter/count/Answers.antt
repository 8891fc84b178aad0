use Rattle.std.proofs.Common.{◌≡◌, true, false, slice_index_or, ap, ◌∙◌, arith}
use Rattle.std.proofs.lemmas.List.{get_or-replicate}
use Rattle.rt_totalizer.proofs.counter.count.Goals as goal

pub count_among-requires-clause-out : goal.count_among-requires-clause-out
count_among-requires-clause-out g c row below off bools m =
    let r = c.rows.ensures.is in
    let all : slice_index_or c.in_ok-all.all row false ≡ true = ap (λ bs. slice_index_or bs row false) c.in_ok-all.ensures ∙ get_or-replicate c.rows.result row true false (omega (arith, below, r)) in
    absurd (cc)
