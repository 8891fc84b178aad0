use Rattle.std.proofs.Common.{List, Bool, ◌&&◌, ap₂, arith}
use Rattle.std.proofs.lemmas.Result.{IfOk-weaker}
use Rattle.rt_formula.specs.Shared.{bool_at, val}
use Rattle.rt_formula.proofs.Meaning.{val-grown}
use Rattle.rt_noted.proofs.Growing.{grown_trans, longer, node_as, node_never}
use Rattle.rt_noted.proofs.joint.row_meeting.Goals as goal

pub returns-then-is_never-clause-node : goal.returns-then-is_never-clause-node
returns-then-is_never-clause-node c =
    let never = c.is_never.ensures c.if-is_never.true in
    node_never (λ s. bool_at s c.args.place) (λ (s : List Bool). val c.args.dag.now s c.args.condition) c.requires.condition never never

pub both-requires-clause-b : goal.both-requires-clause-b
both-requires-clause-b c = let l = longer c.row.ensures.grown in let h = c.requires.condition in omega (arith, l, h)

pub returns-clause-grown : goal.returns-clause-grown
returns-clause-grown c = grown_trans c.row.ensures.grown c.both.ensures.grown

pub returns-clause-node : goal.returns-clause-node
returns-clause-node c =
    IfOk-weaker c.both.result _ _
    (λ n h. node_as (λ s. bool_at s c.args.place && val c.args.dag.now s c.args.condition)
    (λ s. ap₂ ◌&&◌ (c.in_ok-row.ensures.means s) (val-grown _ _ c.row.ensures.grown s c.args.condition c.requires.condition)) h) c.both.ensures.node
