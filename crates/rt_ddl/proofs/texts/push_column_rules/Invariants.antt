use Rattle.std.proofs.Common.{◌≡◌, ◌++◌, drop}
use Rattle.std.specs.List.{flat_map}
use Rattle.rt_ddl.specs.Parts.{column_rule_parts}
use Rattle.rt_ddl.proofs.texts.push_column_rules.Given as goal

abbrev pub invariant-loop-constraint : goal.invariant-loop-constraint
invariant-loop-constraint l = l.parts ++ flat_map (λ r. column_rule_parts l.column r.rule) (drop l.constraint-index l.rules) ≡ l.fn.parts ++ flat_map (λ r. column_rule_parts l.column r.rule) l.rules
