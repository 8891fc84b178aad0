use Rattle.std.proofs.Common.{◌≡◌, ◌++◌, drop}
use Rattle.std.specs.List.{flat_map}
use Rattle.rt_ddl.specs.Parts.{item_parts}
use Rattle.rt_ddl.proofs.texts.table_text.Given as goal

abbrev pub invariant-loop-item : goal.invariant-loop-item
invariant-loop-item l = l.parts ++ flat_map item_parts (drop l.item-index l.create.tail) ≡ item_parts l.create.head ++ flat_map item_parts l.create.tail
