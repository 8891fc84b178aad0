use Rattle.std.proofs.Common.{◌∙◌, ap, not}
use Rattle.rt_formula.proofs.Meaning.{val-grown}
use Rattle.rt_noted.proofs.Growing.{grown_trans}
use Rattle.rt_noted.proofs.Merged.{value_stays}
use Rattle.rt_row.proofs.Nodes.{both_of, if_ok}
use Rattle.rt_row.proofs.aim.told.Goals as goal

pub returns-clause-means : goal.returns-clause-means
returns-clause-means c = if_ok _ _ c.all.result (λ n means keep. means keep ∙ both_of _ _ _ _
    (val-grown c.annotate-2.new.dag c.not.new.self c.in_ok-absent.ensures.grown keep c.node_of-there.result c.node_of-there.ensures.below
    ∙ c.node_of-there.ensures.means keep ∙ value_stays c.annotate-2.ensures.grown c.in_ok-first.first c.args.row.now c.in_ok-first.ensures.nodes keep
    ∙ c.in_ok-first.ensures.entries keep c.args.row.now)
    (c.in_ok-absent.ensures.means keep ∙ ap not (c.node_of-elsewhere.ensures.means keep ∙ c.in_ok-second.ensures.entries keep c.args.row.now))) c.all.ensures.means

pub returns-in_err-second-clause-grown : goal.returns-in_err-second-clause-grown
returns-in_err-second-clause-grown c = grown_trans c.in_ok-first.ensures.grown c.in_err-second.ensures.grown

pub returns-in_err-absent-clause-grown : goal.returns-in_err-absent-clause-grown
returns-in_err-absent-clause-grown c = grown_trans (grown_trans c.in_ok-first.ensures.grown c.in_ok-second.ensures.grown) c.in_err-absent.ensures.grown

pub returns-clause-grown : goal.returns-clause-grown
returns-clause-grown c = grown_trans (grown_trans (grown_trans c.in_ok-first.ensures.grown c.in_ok-second.ensures.grown) c.in_ok-absent.ensures.grown) c.all.ensures.grown
