use Rattle.std.proofs.Common.{◌≡◌, ◌++◌, take}
use Rattle.rt_rules.specs.Cone.{rules_links}
use Rattle.rt_rules.proofs.links.link_rules.Given as goal

abbrev pub invariant-loop-rule : goal.invariant-loop-rule
invariant-loop-rule l = l.links ≡ l.fn.links ++ rules_links l.fn.all l.fn.base l.fn.rows (take l.rule-index l.rules)
