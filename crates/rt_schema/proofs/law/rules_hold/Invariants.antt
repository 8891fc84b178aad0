use Rattle.std.proofs.Common.{◌≡◌, drop}
use Rattle.rt_schema.specs.Kept.{kept, kept_rows}
use Rattle.rt_schema.specs.Law.{rules_hold}
use Rattle.rt_schema.proofs.law.rules_hold.Given as goal

abbrev pub invariant-loop-rule : goal.invariant-loop-rule
invariant-loop-rule l = rules_hold l.rules (kept_rows l.rows (drop l.base l.keep)) (kept l.all l.keep)
    ≡ rules_hold (drop l.rule-index l.rules) (kept_rows l.rows (drop l.base l.keep)) (kept l.all l.keep)
