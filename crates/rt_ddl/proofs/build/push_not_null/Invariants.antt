use Rattle.std.proofs.Common.{◌≡◌, ◌++◌, drop, map}
use Rattle.rt_schema.specs.declared.table.Rule.TheVariants as made
use Rattle.rt_ddl.proofs.build.push_not_null.Given as goal

abbrev pub invariant-loop-column : goal.invariant-loop-column
invariant-loop-column l = l.rules ++ map (λ c. made.NotNull c) (drop l.column-index l.columns) ≡ l.fn.rules ++ map (λ c. made.NotNull c) l.columns
