use Rattle.std.proofs.Common.{List, drop, ap}
use Rattle.rt_schema.specs.Kept.{kept, kept_rows}
use Rattle.rt_schema.specs.Law.{rules_hold}
use Rattle.rt_schema.specs.declared.table.Rule.{Rule}
use Rattle.rt_rules.proofs.KeptLemmas.{front}
use Rattle.rt_rules.proofs.Meanings.{below-grown, grown-on, pair-means, two-below}
use Rattle.rt_rules.proofs.tables.+rules_node.Goals as goal

pub returns-in_ok-both-in-len1-up-clause-means : goal.returns-in_ok-both-in-len1-up-clause-means
returns-in_ok-both-in-len1-up-clause-means t c =
    pair-means c.rule_node.new.dag c.rules_node.new.dag c.all.new.self c.in_ok-here-in-len1-up.here c.in_ok-there-in-len1-up.there c.in_ok-both-in-len1-up.both _ _ _
    c.in_ok-there-in-len1-up.ensures.grown c.in_ok-both-in-len1-up.ensures.grown c.in_ok-here-in-len1-up.ensures.means c.in_ok-there-in-len1-up.ensures.means c.in_ok-both-in-len1-up.ensures.node c.in_ok-both-in-len1-up.ensures.means
    (λ keep l. ap (λ (rules : List Rule). rules_hold rules (kept_rows c.args.rows.now (drop c.args.base keep)) (kept c.args.all.now keep)) (front c.args.rules.now c.rule-item.result c.in-len1-up.len_at_least c.rule-item.is))

pub returns-in_err-there-in-len1-up-clause-grown : goal.returns-in_err-there-in-len1-up-clause-grown
returns-in_err-there-in-len1-up-clause-grown t c = grown-on _ _ _ c.in_ok-here-in-len1-up.ensures.grown c.in_err-there-in-len1-up.ensures.grown

pub returns-in_err-both-in-len1-up-clause-grown : goal.returns-in_err-both-in-len1-up-clause-grown
returns-in_err-both-in-len1-up-clause-grown t c = grown-on _ _ _ (grown-on _ _ _ c.in_ok-here-in-len1-up.ensures.grown c.in_ok-there-in-len1-up.ensures.grown) c.in_err-both-in-len1-up.ensures.grown

pub returns-in_ok-both-in-len1-up-clause-grown : goal.returns-in_ok-both-in-len1-up-clause-grown
returns-in_ok-both-in-len1-up-clause-grown t c = grown-on _ _ _ (grown-on _ _ _ c.in_ok-here-in-len1-up.ensures.grown c.in_ok-there-in-len1-up.ensures.grown) c.in_ok-both-in-len1-up.ensures.grown

pub all-requires : goal.all-requires
all-requires t c = two-below _ _ _ (below-grown _ _ c.in_ok-there-in-len1-up.ensures.grown _ c.in_ok-here-in-len1-up.ensures.means.below) c.in_ok-there-in-len1-up.ensures.means.below
