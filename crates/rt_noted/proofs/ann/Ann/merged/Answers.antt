use Rattle.std.proofs.Common.{◌∙◌, Some, ap, sym, cond}
use Rattle.std.proofs.lemmas.List.{take_all}
use Rattle.std.specs.BTreeMap.{is_at}
use Rattle.rt_value.specs.Row.{row_cmp}
use Rattle.rt_noted.specs.Entries.{stands}
use Rattle.rt_formula.specs.Groups.{standing}
use Rattle.rt_noted.specs.Annotated.{entries_of}
use Rattle.rt_noted.specs.Ann.{node_at}
use Rattle.rt_noted.proofs.Growing.{grown_trans, nodes_stay, nodes_are, any_over, node_as}
use Rattle.rt_noted.proofs.Nodes.{where_below, any_standing}
use Rattle.rt_noted.proofs.Maps.{merging_new, merging_again, merging_at, merged_all}
use Rattle.rt_noted.proofs.ann.Ann.merged.Goals as goal
use Rattle.rt_noted.proofs.ann.Ann.merged.Goals.{then-not-contains_key+in_ok-node+in_ok-key+in_ok-insert, else-not-contains_key}

pub any-requires : goal.any-requires
any-requires c = nodes_are c.loop-noted.dag (c.get.ensures ∙ c.in_ok-groups.ensures c.noted-item.result.row)
    (nodes_stay c.loop-noted.invariant.grown _ (where_below c.args.dag.now _ c.args.rows.now c.requires))

pub loop-noted-preserved : goal.loop-noted-preserved
loop-noted-preserved c =
    let n = c.noted-item.result in
    let d = c.args.dag.now in
    let ns = c.args.rows.now in
    let m = c.loop-noted.invariant in
    elim c.if-not-contains_key.branch [
      | then-not-contains_key+in_ok-node+in_ok-key+in_ok-insert w ↦
          let node = node_as (stands (entries_of d ns) n.row) (λ s. any_standing d s n.row ns)
          (any_over m.grown w.in_ok-node.node _ (standing n.row ns) (where_below d _ ns c.requires) (w.get.ensures ∙ c.in_ok-groups.ensures n.row) w.in_ok-node.ensures.node w.in_ok-node.ensures.means) in
          merging_at w.dag-is (ap (λ t. t.entries) w.nodes-is)
          (merging_new m n c.loop-noted-test.true c.noted-item.is w.in_ok-node.node w.any.ensures.grown node
          (λ q. w.in_ok-insert.ensures.updates.0 q ∙ ap (λ k. cond (is_at (row_cmp k) q) (Some w.in_ok-node.node) (node_at c.loop-noted.nodes.entries q)) w.in_ok-key.ensures))
      | else-not-contains_key w ↦
          merging_at w.dag-is (ap (λ t. t.entries) w.nodes-is) (merging_again m n c.loop-noted-test.true c.noted-item.is (sym c.contains_key.ensures ∙ w.if-not-contains_key.false))
    ]

pub invariant_of-result : goal.invariant_of-result
invariant_of-result c = c.len-len.ensures.ordered

pub returns-clause-merged : goal.returns-clause-merged
returns-clause-merged c = merged_all c.loop-noted.invariant (take_all c.loop-noted.noted-index c.args.rows.now c.loop-noted-test.false)

pub returns-in_err-node-clause-grown : goal.returns-in_err-node-clause-grown
returns-in_err-node-clause-grown c = grown_trans c.loop-noted.invariant.grown c.any.ensures.grown

pub returns-in_err-key-clause-grown : goal.returns-in_err-key-clause-grown
returns-in_err-key-clause-grown c = grown_trans c.loop-noted.invariant.grown c.any.ensures.grown

pub returns-in_err-insert-clause-grown : goal.returns-in_err-insert-clause-grown
returns-in_err-insert-clause-grown c = grown_trans c.loop-noted.invariant.grown c.any.ensures.grown
