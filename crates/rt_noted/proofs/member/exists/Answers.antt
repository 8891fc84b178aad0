use Rattle.std.proofs.Common.{◌∙◌}
use Rattle.std.proofs.lemmas.Result.{IfOk-weaker}
use Rattle.rt_noted.specs.Entries.{any_entry}
use Rattle.rt_noted.specs.Annotated.{entries_of}
use Rattle.rt_noted.proofs.Growing.{nodes_are, either_means}
use Rattle.rt_noted.proofs.Nodes.{nodes_below, any_nodes}
use Rattle.rt_noted.proofs.member.exists.Goals as goal

pub either-requires : goal.either-requires
either-requires c = nodes_are c.args.dag.now (c.as_slice.ensures ∙ c.in_ok-nodes.ensures) (nodes_below c.args.dag.now c.args.rows.now c.requires)

pub returns-clause-gate : goal.returns-clause-gate
returns-clause-gate c =
    IfOk-weaker c.either.result _ _
    (λ g h. either_means c.args.dag.now _ _ (any_entry (entries_of c.args.dag.now c.args.rows.now)) h (c.as_slice.ensures ∙ c.in_ok-nodes.ensures) (λ s. any_nodes c.args.dag.now s c.args.rows.now)) c.either.ensures.gate
