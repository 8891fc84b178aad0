use Rattle.std.proofs.Common.{◌∙◌}
use Rattle.rt_schema.specs.Kept.{kept}
use Rattle.rt_schema.specs.Law.{lawful}
use Rattle.rt_row.specs.Holds.{IsRowVerdict}
use Rattle.rt_row.proofs.Nodes.{if_ok}
use Rattle.rt_row.proofs.Transfer.{enough}
use Rattle.rt_row.proofs.VerdictLemmas.{verdict_of}
use Rattle.rt_row.proofs.search.smallest_of.Goals as goal

pub smallest-requires-clause-cone : goal.smallest-requires-clause-cone
smallest-requires-clause-cone c =
    enough c.in_ok-dag.dag c.row_aim.new.dag c.in_ok-aim.aim.goal c.in_ok-aim.aim.told c.in_ok-cone.cone (λ keep. lawful c.args.schema.now (kept c.args.given.now.tables keep))
    c.in_ok-aim.ensures.grown c.in_ok-aim.ensures.parts c.in_ok-cone.ensures.lawful c.in_ok-cone.ensures.same

pub returns : goal.returns
returns c =
    if_ok _ (IsRowVerdict c.args.schema.now c.args.given.now c.args.left.now c.args.right.now c.args.row.now c.args.budget) c.smallest.result
    (λ best is. verdict_of c.args.schema.now c.args.given.now c.args.left.now c.args.right.now c.args.row.now c.args.budget c.row_aim.new.dag c.in_ok-aim.aim.goal best
    (c.in_ok-aim.ensures.grown.rows ∙ c.in_ok-dag.ensures ∙ c.total.ensures.total)
    (λ keep long. c.in_ok-aim.ensures.means keep (long ∙ c.in_ok-aim.ensures.grown.rows)) is) c.smallest.ensures
