use Rattle.rt_noted.proofs.SameRows.{mapped_stay}
use Rattle.rt_noted.proofs.Growing.{grown_trans, node_stays, two_nodes}
use Rattle.rt_noted.proofs.Merged.{differ_node}
use Rattle.rt_noted.proofs.difference.differ.Goals as goal

pub returns-clause-means : goal.returns-clause-means
returns-clause-means c =
    let only_a = node_stays c.missing-2.ensures.grown c.in_ok-only_a.ensures.node in
    let differs = differ_node c.args.a.now c.args.b.now c.in_ok-only_a.only_a c.in_ok-only_b.only_b c.in_ok-some.some c.missing.ensures.grown c.requires.a c.requires.b c.len.ensures.sorted c.len-2.ensures.sorted
    only_a.same c.in_ok-only_b.ensures.node {last = c.any.new.self} c.in_ok-some.ensures.node c.in_ok-some.ensures.means in
    differs.same

pub missing-requires-2-clause-a : goal.missing-requires-2-clause-a
missing-requires-2-clause-a c = mapped_stay c.missing.ensures.grown c.args.b.now c.requires.b

pub missing-requires-2-clause-b : goal.missing-requires-2-clause-b
missing-requires-2-clause-b c = mapped_stay c.missing.ensures.grown c.args.a.now c.requires.a

pub any-requires : goal.any-requires
any-requires c = two_nodes c.missing-2.new.dag (node_stays c.missing-2.ensures.grown c.in_ok-only_a.ensures.node).below c.in_ok-only_b.ensures.node.below

pub returns-in_err-only_b-clause-grown : goal.returns-in_err-only_b-clause-grown
returns-in_err-only_b-clause-grown c = grown_trans c.missing.ensures.grown c.missing-2.ensures.grown

pub returns-in_err-some-clause-grown : goal.returns-in_err-some-clause-grown
returns-in_err-some-clause-grown c = grown_trans (grown_trans c.missing.ensures.grown c.missing-2.ensures.grown) c.any.ensures.grown

pub returns-clause-grown : goal.returns-clause-grown
returns-clause-grown c = grown_trans (grown_trans c.missing.ensures.grown c.missing-2.ensures.grown) c.any.ensures.grown
