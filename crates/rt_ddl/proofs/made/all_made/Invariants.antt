use Rattle.std.proofs.Common.{◌≡◌, ◌∷◌, ◌++◌, drop, map}
use Rattle.rt_ddl.specs.Meaning.{column_at, columns_of}
use Rattle.rt_ddl.proofs.made.all_made.Given as goal

abbrev pub invariant-loop-item : goal.invariant-loop-item
invariant-loop-item g l =
    let made = g.T.Makes.of_places (column_at (columns_of l.table.parts)) in
    l.all ++ map made (drop l.item-index l.tail) ≡ made l.head ∷ map made l.tail
