use Rattle.std.proofs.Common.{◌∙◌, ℕ, Bool, ◌∷◌, ◌++◌, [], ap, sym, false, slice_index_or}
use Rattle.rt_cert.proofs.PlaceLemmas.{kept-more, kept-same}
use Rattle.rt_cert.proofs.places.places_of.Goals as goal
use Rattle.rt_cert.proofs.places.places_of.Goals.{then-is+in_ok-push, else-is}

pub loop-row-preserved : goal.loop-row-preserved
loop-row-preserved c =
    let kept : ℕ → Bool = λ row. slice_index_or c.args.keep.now row false in
    elim c.if-is.branch [
      | then-is+in_ok-push w ↦ w.places-is ∙ w.in_ok-push.ensures.ok ∙ ap (λ places. places ++ c.loop-row.row ∷ []) c.loop-row.invariant ∙ sym (kept-more kept c.loop-row.row (sym c.is.ensures ∙ w.if-is.true))
      | else-is w ↦ w.places-is ∙ c.loop-row.invariant ∙ sym (kept-same kept c.loop-row.row (sym c.is.ensures ∙ w.if-is.false))
    ]
