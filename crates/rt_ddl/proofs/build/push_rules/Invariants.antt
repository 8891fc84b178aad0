use Rattle.std.proofs.Common.{◌≡◌, ◌++◌, drop}
use Rattle.std.specs.List.{flat_map}
use Rattle.rt_ddl.specs.Meaning.{columns_of, part_rules}
use Rattle.rt_ddl.proofs.build.push_rules.Given as goal

abbrev pub invariant-loop-part : goal.invariant-loop-part
invariant-loop-part l =
    let made = part_rules l.of_table l.tables (columns_of l.table.parts) in
    l.rules ++ flat_map made (drop l.part-index l.parts) ≡ l.fn.rules ++ flat_map made l.table.parts
