use Rattle.std.proofs.Common.{◌∙◌, ap, sym, subst}
use Rattle.std.specs.List.Sorted.{IsStrictlySortedBy}
use Rattle.rt_value.specs.Row.{row_cmp}
use Rattle.rt_schema.specs.Given.{Rows}
use Rattle.rt_algebra.specs.Answer.{has_row}
use Rattle.rt_eval.proofs.DistinctLaws.{searched}
use Rattle.rt_eval.proofs.rows.Rows.has.Goals as goal

pub returns : goal.returns
returns c =
    let P : Rows → Type 0 = IsStrictlySortedBy row_cmp in
    c.is_ok.ensures.value
    ∙ searched c.as_slice.result.now c.args.row.now c.binary_search.result (subst P (sym c.as_slice.ensures.rows) c.as_slice.ensures.sorted) c.binary_search.ensures.bound c.binary_search.ensures.position
    ∙ ap (λ (rows : Rows). has_row rows c.args.row.now) c.as_slice.ensures.rows
