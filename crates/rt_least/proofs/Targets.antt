-- Nogoods for choices among which all that are sought now are.
use Rattle.std.proofs.Common.{ℕ, Bool, List, Option}
use Rattle.rt_clause.specs.Literal.{Literal}
use Rattle.rt_least.specs.Nogoods.{IsSpentBy}

pub spent-narrowed : (rows : ℕ) (T U : List Bool → Type 0) (best : Option (List Bool)) (least : Bool) (budget : ℕ) (nogoods : List (List Literal)) → ((keep : List Bool) → U keep → T keep) → IsSpentBy rows T best least budget nogoods → IsSpentBy rows U best least budget nogoods
spent-narrowed rows T U best least budget nogoods h s = record {
  all = s.all;
  each = λ i l. (let n = s.each i l in record { some = n.some; below = n.below; holds = λ keep u b. n.holds keep (h keep u) b });
  fresh = s.fresh;
  apart = s.apart;
}
