use Rattle.std.proofs.Common.{◌∙◌, refl, subst, sym, ◌≡◌, ℕ, ◌<◌, length}
use Rattle.rt_noted.specs.Entries.{stands, Test}
use Rattle.rt_formula.specs.Groups.{standing}
use Rattle.rt_noted.specs.Annotated.{IsNode, entries_of, side_test, IsGate, side_node}
use Rattle.rt_noted.proofs.Growing.{grown_trans, nodes_stay, nodes_are, any_stays, either_means, node_stays}
use Rattle.rt_noted.proofs.Layers.{side_is}
use Rattle.rt_noted.proofs.Nodes.{where_below, any_standing}
use Rattle.rt_noted.proofs.Walking.{along_push, next_selected, node_below, both_over, itself}
use Rattle.rt_formula.specs.Shared.{Shared}
use Rattle.rt_noted.specs.declared.gate.TruthNodes.{TruthNodes}
use Rattle.rt_noted.specs.declared.side.Side.{Side}
use Rattle.rt_noted.specs.declared.side.Side.TheVariants.{Present, Missing}
use Rattle.rt_annot.proofs.sets.sifted.Goals as goal

side_below : (side : Side) {d : Shared} {g : TruthNodes} {t : Test} {n : ℕ} → IsGate d g t → n ≡ side_node side g → n < length d.entries
side_below Present {d} i e = let P : ℕ → Type 0 = λ k. k < length d.entries in subst P (sym e) i.yes.below
side_below Missing {d} i e = let P : ℕ → Type 0 = λ k. k < length d.entries in subst P (sym e) i.no.below

pub either-requires : goal.either-requires
either-requires c = nodes_are c.loop-noted.dag (c.get.ensures ∙ c.in_ok-groups.ensures c.noted-item.result.row)
    (nodes_stay c.loop-noted.invariant.grown _ (where_below c.args.dag.now _ c.args.others.now c.requires.others))

pub loop-noted-preserved : goal.loop-noted-preserved
loop-noted-preserved c =
    let d = c.args.dag.now in
    let i = c.loop-noted.noted-index in
    let n = c.noted-item.result in
    let others = c.args.others.now in
    let g = c.loop-noted.invariant.grown in
    let t = side_test c.args.side (entries_of d others) in
    let l = node_below d c.args.from.now i n c.loop-noted-test.true c.noted-item.is c.requires.from in
    let found = either_means c.loop-noted.dag _ _ (stands (entries_of d others) n.row) c.in_ok-found.ensures.gate (c.get.ensures ∙ c.in_ok-groups.ensures n.row)
    (λ s. any_stays g (standing n.row others) (where_below d _ others c.requires.others) s ∙ any_standing d s n.row others) in
    along_push (record { row = n.row; node = c.in_ok-node.node }) n.row _ c.loop-noted.invariant (next_selected d c.args.from.now i n c.loop-noted-test.true c.noted-item.is t)
    (grown_trans c.either.ensures.grown c.both.ensures.grown) refl
    (both_over n.node c.node.result c.in_ok-node.node (t n.row).0 (grown_trans g c.either.ensures.grown) l
    (subst (λ k. IsNode c.either.new.dag k (t n.row).0) (sym c.node.ensures) (side_is c.args.side (entries_of d others) n.row found)) c.in_ok-node.ensures.node)
    c.in_ok-note.ensures

pub returns-in_err-found-clause-grown : goal.returns-in_err-found-clause-grown
returns-in_err-found-clause-grown c = grown_trans c.loop-noted.invariant.grown c.either.ensures.grown

pub returns-in_err-node-clause-grown : goal.returns-in_err-node-clause-grown
returns-in_err-node-clause-grown c = grown_trans (grown_trans c.loop-noted.invariant.grown c.either.ensures.grown) c.both.ensures.grown

pub returns-in_err-note-clause-grown : goal.returns-in_err-note-clause-grown
returns-in_err-note-clause-grown c = grown_trans (grown_trans c.loop-noted.invariant.grown c.either.ensures.grown) c.both.ensures.grown

pub both-requires-clause-a : goal.both-requires-clause-a
both-requires-clause-a c = (node_stays (grown_trans c.loop-noted.invariant.grown c.either.ensures.grown) (itself c.args.dag.now c.noted-item.result.node (node_below c.args.dag.now c.args.from.now c.loop-noted.noted-index c.noted-item.result c.loop-noted-test.true c.noted-item.is c.requires.from))).below

pub both-requires-clause-b : goal.both-requires-clause-b
both-requires-clause-b c = side_below c.args.side c.in_ok-found.ensures.gate c.node.ensures
