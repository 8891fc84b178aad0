use Rattle.std.proofs.Common.{◌≡◌, ◌++◌, List, map, drop}
use Rattle.rt_value.specs.declared.value.Value.{Value}
use Rattle.rt_value.specs.Row.{row_eq}
use Rattle.rt_split.specs.Index.{places_at}
use Rattle.rt_split.specs.Join.{places_where, own_key}
use Rattle.rt_split.proofs.matching.index.Given as goal

abbrev pub invariant-loop-at : goal.invariant-loop-at
invariant-loop-at l = (key : List Value)
    → places_at l.index key ++ places_where (λ row. row_eq key (own_key l.keys row)) l.at (map (λ r. r.now) (drop l.at l.rows))
    ≡ places_where (λ row. row_eq key (own_key l.keys row)) 0 (map (λ r. r.now) l.rows)
