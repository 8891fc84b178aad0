use Rattle.std.proofs.Common.{◌∙◌, List, length, ap, subst}
use Rattle.rt_rules.specs.declared.links.Link.{Link}
use Rattle.rt_formula.proofs.Standing.{val-cut}
use Rattle.rt_rules.specs.Closing.{IsClosed}
use Rattle.rt_rules.specs.Cone.{step}
use Rattle.rt_rules.proofs.CutLemmas.{lawful-cut}
use Rattle.rt_rules.proofs.LinkLemmas.{low-same, references-low}
use Rattle.rt_rules.proofs.StepLemmas.{least-is-step}
use Rattle.rt_rules.proofs.cone_of.cone.Goals as goal

pub close-requires : goal.close-requires
close-requires c =
    low-same _ (length c.in_ok-cone.cone) _ c.as_slice.result.now (c.in_ok-cone.ensures.long ∙ c.requires.rows) (c.as_slice.ensures ∙ c.in_ok-links.ensures) (references-low c.args.schema.now c.args.given.now.tables)

pub returns-clause-long : goal.returns-clause-long
returns-clause-long c = c.close.ensures.len ∙ c.in_ok-cone.ensures.long

pub returns-clause-cone : goal.returns-clause-cone
returns-clause-cone c =
    let k = c.in_ok-cone.ensures in
    let set = c.close.new.set in
    let first = c.in_ok-cone.cone in
    let ls = c.as_slice.result.now in
    let end = c.close.ensures in
    let low = low-same _ (length first) _ ls (k.long ∙ c.requires.rows) (c.as_slice.ensures ∙ c.in_ok-links.ensures) (references-low c.args.schema.now c.args.given.now.tables) in
    record {
      first = first;
      stand = k;
      is = least-is-step ls first set low end.len end.stay end.closed end.least
          ∙ ap (λ n. step ls first n) k.long
          ∙ ap (λ (es : List Link). step es first c.args.dag.now.rows) (c.as_slice.ensures ∙ c.in_ok-links.ensures);
    }

pub returns-clause-lawful : goal.returns-clause-lawful
returns-clause-lawful c keep l h =
    let C : List Link → Type 0 = λ ls. IsClosed ls c.close.new.set in
    lawful-cut c.args.schema.now c.args.given.now.tables c.close.new.set (subst C (c.as_slice.ensures ∙ c.in_ok-links.ensures) c.close.ensures.closed) keep h

pub returns-clause-same : goal.returns-clause-same
returns-clause-same c keep =
    val-cut c.args.dag.now c.args.goal c.close.new.set c.len-nodes.ensures.sound c.requires.goal (λ v r. c.close.ensures.stay v (c.in_ok-cone.ensures.all v r)) keep
