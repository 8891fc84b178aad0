use Rattle.std.proofs.Common.{ap, ◌∙◌, sym, Some}
use Rattle.std.specs.List.{slice_get}
use Rattle.rt_formula.proofs.RunLemmas.{later-all, later-nodes}
use Rattle.rt_formula.proofs.runs.later_children.Goals as goal

pub returns-in_ok-from_slice-in-len1-up-clause-nodes : goal.returns-in_ok-from_slice-in-len1-up-clause-nodes
returns-in_ok-from_slice-in-len1-up-clause-nodes c =
    later-nodes c.args.dag.now c.args.node c.in-All.children c.as_slice.result.now _ c.entry.ensures.sound c.requires
    (ap (slice_get c.args.dag.now.entries) (sym c.number.ensures) ∙ c.entry.ensures.entry ∙ ap Some c.in-All.is) c.as_slice.ensures c.in_ok-from_slice-in-len1-up.ensures

pub returns-in_ok-from_slice-in-len1-up-clause-means : goal.returns-in_ok-from_slice-in-len1-up-clause-means
returns-in_ok-from_slice-in-len1-up-clause-means c first over keep =
    later-all c.args.dag.now keep first c.args.node c.in-All.children c.as_slice.result.now _ c.entry.ensures.sound
    (ap (slice_get c.args.dag.now.entries) (sym c.number.ensures) ∙ c.entry.ensures.entry ∙ ap Some c.in-All.is) c.as_slice.ensures c.in_ok-from_slice-in-len1-up.ensures over
