use Rattle.std.proofs.Common.{◌∙◌, sym}
use Rattle.rt_formula.proofs.Meaning.{val-grown}
use Rattle.rt_noted.proofs.Growing.{grown_trans}
use Rattle.rt_rules.proofs.Meanings.{below-grown}
use Rattle.rt_row.proofs.Nodes.{both_of}
use Rattle.rt_row.proofs.aim.row_aim.Goals as goal

pub returns-clause-means : goal.returns-clause-means
returns-clause-means c keep l =
    c.in_ok-goal.ensures.means keep
    ∙ both_of _ _ _ _
    (val-grown c.law.new.dag c.told.new.dag c.told.ensures.grown keep c.in_ok-lawful.lawful c.in_ok-lawful.ensures.node ∙ c.in_ok-lawful.ensures.means keep l)
    (c.in_ok-told.ensures.means keep)

pub returns-clause-told : goal.returns-clause-told
returns-clause-told c = below-grown c.told.new.dag c.all.new.self c.in_ok-goal.ensures.grown c.in_ok-told.told c.in_ok-told.ensures.node

pub returns-clause-parts : goal.returns-clause-parts
returns-clause-parts c keep l =
    c.in_ok-goal.ensures.means keep
    ∙ both_of _ _ _ _
    (val-grown c.law.new.dag c.told.new.dag c.told.ensures.grown keep c.in_ok-lawful.lawful c.in_ok-lawful.ensures.node ∙ c.in_ok-lawful.ensures.means keep l)
    (sym (val-grown c.told.new.dag c.all.new.self c.in_ok-goal.ensures.grown keep c.in_ok-told.told c.in_ok-told.ensures.node))

pub returns-in_err-told-clause-grown : goal.returns-in_err-told-clause-grown
returns-in_err-told-clause-grown c = grown_trans c.in_ok-lawful.ensures.grown c.in_err-told.ensures.grown

pub returns-in_err-goal-clause-grown : goal.returns-in_err-goal-clause-grown
returns-in_err-goal-clause-grown c = grown_trans (grown_trans c.in_ok-lawful.ensures.grown c.in_ok-told.ensures.grown) c.in_err-goal.ensures.grown

pub returns-clause-grown : goal.returns-clause-grown
returns-clause-grown c = grown_trans (grown_trans c.in_ok-lawful.ensures.grown c.in_ok-told.ensures.grown) c.in_ok-goal.ensures.grown
