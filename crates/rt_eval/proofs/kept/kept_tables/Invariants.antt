use Rattle.std.proofs.Common.{◌≡◌, ◌+◌, ◌++◌, drop, length}
use Rattle.rt_schema.specs.Given.{places}
use Rattle.rt_schema.specs.Kept.{kept}
use Rattle.rt_eval.proofs.kept.kept_tables.Given as goal

abbrev pub invariant-loop-rows : goal.invariant-loop-rows
invariant-loop-rows l =
    (l.base + places (drop l.rows-index l.tables) ≡ length l.keep)
    × (l.out ++ kept (drop l.rows-index l.tables) (drop l.base l.keep) ≡ kept l.tables l.keep)
