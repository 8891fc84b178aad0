use Rattle.rt_noted.proofs.Growing.{grown_trans}
use Rattle.std.proofs.Common.{◌∙◌}
use Rattle.rt_formula.proofs.Meaning.{val-grown}
use Rattle.rt_rules.proofs.Meanings.{below-grown}
use Rattle.rt_annot.proofs.reference.Reference.of.Goals as goal

pub returns-clause-reference : goal.returns-clause-reference
returns-clause-reference c = record {
  stands = record { lawful = below-grown c.law.new.dag c.annotate.new.dag c.annotate.ensures.grown c.in_ok-lawful.lawful c.in_ok-lawful.ensures.node; rows = c.in_ok-rows.ensures.nodes };
  law = λ keep l. val-grown c.law.new.dag c.annotate.new.dag c.annotate.ensures.grown keep c.in_ok-lawful.lawful c.in_ok-lawful.ensures.node
      ∙ c.in_ok-lawful.ensures.means keep (l ∙ c.annotate.ensures.grown.rows ∙ c.in_ok-lawful.ensures.grown.rows);
  answer = c.in_ok-rows.ensures.rows;
}

pub returns-in_err-rows-clause-grown : goal.returns-in_err-rows-clause-grown
returns-in_err-rows-clause-grown c = grown_trans c.law.ensures.grown c.annotate.ensures.grown

pub returns-clause-grown : goal.returns-clause-grown
returns-clause-grown c = grown_trans c.law.ensures.grown c.annotate.ensures.grown
