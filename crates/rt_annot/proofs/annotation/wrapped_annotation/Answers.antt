use Rattle.std.proofs.Common.{◌∙◌, ap, sym, []}
use Rattle.rt_algebra.specs.Answer.{answer_by, has_row}
use Rattle.rt_algebra.specs.Expression.{wrapped}
use Rattle.rt_schema.specs.Kept.{kept}
use Rattle.rt_noted.specs.Entries.{rows_at}
use Rattle.rt_noted.specs.Annotated.{entries_of}
use Rattle.rt_noted.proofs.Merged.{merged_below, annotated_rows, rows_value}
use Rattle.rt_noted.proofs.Growing.{grown_trans}
use Rattle.rt_annot.proofs.annotation.wrapped_annotation.Goals as goal

pub returns-clause-nodes : goal.returns-clause-nodes
returns-clause-nodes c = merged_below _ _ _ c.in_ok-ann.ensures.merged c.len-len.ensures.sorted

pub returns-clause-rows : goal.returns-clause-rows
returns-clause-rows c =
    annotated_rows _ c.in_ok-ann.ann _ (λ s. answer_by wrapped c.args.query.now (kept c.args.tables.now s) []) c.in_ok-ann.ensures.merged
    (λ s r. ap (λ ns. has_row (rows_at s (entries_of c.noted_rows.new.dag ns)) r) c.as_slice.ensures ∙ c.in_ok-rows.ensures.gives.same s r) c.len-len.ensures.sorted

pub returns-clause-entries : goal.returns-clause-entries
returns-clause-entries c keep r = sym (rows_value c.merged.new.dag keep r c.in_ok-ann.ann c.len-len.ensures.sorted) ∙ returns-clause-rows c keep r

pub returns-in_err-ann-clause-grown : goal.returns-in_err-ann-clause-grown
returns-in_err-ann-clause-grown c = grown_trans c.noted_rows.ensures.grown c.merged.ensures.grown

pub returns-clause-grown : goal.returns-clause-grown
returns-clause-grown c = grown_trans c.noted_rows.ensures.grown c.merged.ensures.grown
