use Rattle.std.proofs.Common.{◌≡◌, length}
use Rattle.rt_schema.specs.Schema.{columns_match}
use Rattle.rt_ddl.specs.Meaning.{columns_at, columns_of}
use Rattle.rt_ddl.proofs.matches.columns_match.Given as goal

abbrev pub invariant-columns : goal.invariant-columns
invariant-columns l =
    let cs = columns_of l.table.parts in
    let ds = columns_of l.other.parts in
    columns_match cs (columns_at cs l.left) ds (columns_at ds l.right) ≡ columns_match cs (columns_at cs l.from) ds (columns_at ds l.to)

abbrev pub decreases-columns : goal.decreases-columns
decreases-columns l = length l.left
