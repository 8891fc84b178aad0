use Rattle.rt_noted.proofs.Growing.{grown_refl, grown_trans, nodes_are, nodes_stay, node_stays, all_over, any_over}
use Rattle.rt_noted.proofs.gate.all.Goals as goal

pub returns-clause-gate : goal.returns-clause-gate
returns-clause-gate c = record {
  yes = node_stays c.any.ensures.grown (all_over (grown_refl c.args.dag.now) c.in_ok-yes.yes _ c.args.gates.now.yes c.requires.yes c.as_slice.ensures c.in_ok-yes.ensures.node c.in_ok-yes.ensures.means);
  no = any_over c.all.ensures.grown c.in_ok-no.no _ c.args.gates.now.no c.requires.no c.as_slice-2.ensures c.in_ok-no.ensures.node c.in_ok-no.ensures.means;
}

pub any-requires : goal.any-requires
any-requires c = nodes_are c.all.new.self c.as_slice-2.ensures (nodes_stay c.all.ensures.grown c.args.gates.now.no c.requires.no)

pub returns-in_err-no-clause-grown : goal.returns-in_err-no-clause-grown
returns-in_err-no-clause-grown c = grown_trans c.all.ensures.grown c.any.ensures.grown

pub returns-clause-grown : goal.returns-clause-grown
returns-clause-grown c = grown_trans c.all.ensures.grown c.any.ensures.grown
