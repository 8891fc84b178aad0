use Rattle.std.proofs.Common.{◌∙◌, ap, length, nat_eq, refl, sym}
use Rattle.std.proofs.lemmas.List.{take_all}
use Rattle.rt_noted.specs.Entries.{stands}
use Rattle.rt_formula.specs.Groups.{standing}
use Rattle.rt_noted.specs.Annotated.{entries_of}
use Rattle.rt_noted.proofs.Growing.{nodes_stay, nodes_are, any_over, node_as, grown_trans}
use Rattle.rt_noted.proofs.Nodes.{where_below, any_standing}
use Rattle.rt_noted.proofs.Distinct.{collect_start, collect_new, collect_again, collect_at, collected}
use Rattle.rt_noted.proofs.rows.merged.Goals as goal
use Rattle.rt_noted.proofs.rows.merged.Goals.{then-is_empty+in_ok-put+in_ok-node+in_ok-note, else-is_empty}

pub any-requires : goal.any-requires
any-requires c = nodes_are c.loop-noted.dag (c.get-then-is_empty.ensures ∙ c.in_ok-groups.ensures c.noted-item.result.row)
    (nodes_stay c.loop-noted.invariant.grown _ (where_below c.args.dag.now _ c.args.rows.now c.requires))

pub loop-noted-init : goal.loop-noted-init
loop-noted-init c = collect_start _ _ _ c.args.rows.now _ c.new-known.ensures c.new-out.ensures refl

pub returns-clause-merged : goal.returns-clause-merged
returns-clause-merged c = collected c.loop-noted.invariant (take_all c.loop-noted.noted-index c.args.rows.now c.loop-noted-test.false)

pub loop-noted-preserved : goal.loop-noted-preserved
loop-noted-preserved c =
    let n = c.noted-item.result in
    let d = c.args.dag.now in
    let ns = c.args.rows.now in
    let m = c.loop-noted.invariant in
    let l = c.loop-noted-test.true in
    elim c.if-is_empty.branch [
      | then-is_empty+in_ok-put+in_ok-node+in_ok-note w ↦
          let node = node_as (stands (entries_of d ns) n.row) (λ s. any_standing d s n.row ns)
          (any_over m.grown w.in_ok-node.node _ (standing n.row ns) (where_below d _ ns c.requires) (w.get-then-is_empty.ensures ∙ c.in_ok-groups.ensures n.row) w.in_ok-node.ensures.node w.in_ok-node.ensures.means) in
          collect_at w.dag-is w.known-is w.out-is
          (collect_new m n l c.noted-item.is (record { row = n.row; node = w.in_ok-node.node }) (ap (λ ks. nat_eq (length ks) 0) (sym c.get.ensures) ∙ sym c.is_empty.ensures ∙ w.if-is_empty.true) w.any.ensures.grown w.in_ok-put.ensures refl node w.in_ok-note.ensures)
      | else-is_empty w ↦ collect_at w.dag-is w.known-is w.out-is (collect_again m n l c.noted-item.is (ap (λ ks. nat_eq (length ks) 0) (sym c.get.ensures) ∙ sym c.is_empty.ensures ∙ w.if-is_empty.false))
    ]

pub returns-in_err-node-clause-grown : goal.returns-in_err-node-clause-grown
returns-in_err-node-clause-grown c = grown_trans c.loop-noted.invariant.grown c.any.ensures.grown

pub returns-in_err-note-clause-grown : goal.returns-in_err-note-clause-grown
returns-in_err-note-clause-grown c = grown_trans c.loop-noted.invariant.grown c.any.ensures.grown
