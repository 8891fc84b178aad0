use Rattle.std.proofs.Common.{◌≡◌, ◌++◌, ◌∷◌, [], drop}
use Rattle.rt_value.specs.declared.value.Value.{Value}
use Rattle.rt_value.specs.Value.{value_eq}
use Rattle.rt_formula.specs.Groups.{group_at, nodes_where}
use Rattle.rt_noted.specs.Known.{first_of}
use Rattle.rt_noted.proofs.known.by_first.Given as goal

abbrev pub invariant-loop-noted : goal.invariant-loop-noted
invariant-loop-noted l = (x : Value) → group_at l.groups (x ∷ []) ++ nodes_where (λ r. value_eq x (first_of r)) (drop l.noted-index l.rows) ≡ nodes_where (λ r. value_eq x (first_of r)) l.rows
