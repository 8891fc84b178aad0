use Rattle.std.proofs.Common.{◌≡◌, ◌++◌, drop, map}
use Rattle.rt_relation.specs.Columns.{texts}
use Rattle.rt_ra.proofs.names.texts.Given as goal

abbrev pub invariant-loop-name : goal.invariant-loop-name
invariant-loop-name l = l.texts ++ map (λ n. n.text) (drop l.name-index l.names.tail) ≡ texts l.names
