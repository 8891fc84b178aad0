use Rattle.std.proofs.Common.{ap, ◌∙◌, sym, Some}
use Rattle.std.specs.List.{slice_get}
use Rattle.rt_formula.proofs.RunLemmas.{stands, stands-below}
use Rattle.rt_formula.proofs.runs.first_of.Goals as goal

pub returns-in-len1-up-clause-node : goal.returns-in-len1-up-clause-node
returns-in-len1-up-clause-node c =
    stands-below c.args.dag.now c.args.node c.first-item.result c.entry.ensures.sound c.requires
    (stands c.args.dag.now c.args.node c.first-item.result c.in-All.children c.as_slice.result.now (ap (slice_get c.args.dag.now.entries) (sym c.number.ensures) ∙ c.entry.ensures.entry ∙ ap Some c.in-All.is) c.as_slice.ensures c.in-len1-up.len_at_least c.first-item.is)

pub returns-in-len1-up-clause-over : goal.returns-in-len1-up-clause-over
returns-in-len1-up-clause-over c =
    stands c.args.dag.now c.args.node c.first-item.result c.in-All.children c.as_slice.result.now (ap (slice_get c.args.dag.now.entries) (sym c.number.ensures) ∙ c.entry.ensures.entry ∙ ap Some c.in-All.is) c.as_slice.ensures c.in-len1-up.len_at_least c.first-item.is
