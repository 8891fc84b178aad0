use Rattle.std.proofs.Common.{◌≡◌, List, take}
use Rattle.rt_value.specs.declared.value.Value.{Value}
use Rattle.rt_formula.specs.Groups.{group_at, standing}
use Rattle.rt_formula.proofs.groups.Groups.of.Given as goal

abbrev pub invariant-loop-noted : goal.invariant-loop-noted
invariant-loop-noted l = (row : List Value) → group_at l.groups row ≡ standing row (take l.noted-index l.rows)
