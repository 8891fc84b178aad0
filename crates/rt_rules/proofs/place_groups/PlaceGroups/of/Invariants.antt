use Rattle.std.proofs.Common.{◌≡◌, List, take}
use Rattle.rt_value.specs.declared.value.Value.{Value}
use Rattle.rt_value.specs.Row.{row_eq}
use Rattle.rt_schema.specs.Cells.{cells}
use Rattle.rt_formula.specs.Groups.{group_at}
use Rattle.rt_rules.specs.Cone.{places_where}
use Rattle.rt_rules.proofs.place_groups.PlaceGroups.of.Given as goal

abbrev pub invariant-loop-at : goal.invariant-loop-at
invariant-loop-at l = (key : List Value) → group_at l.groups key ≡ places_where (λ row. row_eq key (cells l.columns row)) l.base (take l.at l.rows)
