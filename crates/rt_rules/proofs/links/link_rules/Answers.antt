use Rattle.rt_rules.proofs.LinkLemmas.{links-more, rules-more}
use Rattle.rt_rules.proofs.links.link_rules.Goals as goal

pub loop-rule-preserved : goal.loop-rule-preserved
loop-rule-preserved c =
    links-more c.args.links.now c.loop-rule.links _ _ _ _ c.loop-rule.invariant c.in_ok-link_rule.ensures
    (rules-more c.args.all.now c.args.base c.args.rows.now c.args.rules.now c.loop-rule.rule-index c.rule-item.result c.loop-rule-test.true c.rule-item.is)
