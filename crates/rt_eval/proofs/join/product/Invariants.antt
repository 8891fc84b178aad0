use Rattle.std.proofs.Common.{◌≡◌, ◌∷◌, [], drop}
use Rattle.rt_split.specs.Join.{product_rows}
use Rattle.rt_eval.proofs.join.product.Given as goal

abbrev pub invariant-loop-rows : goal.invariant-loop-rows
invariant-loop-rows l = product_rows l.out (drop l.rows-index l.members) ≡ product_rows ([] ∷ []) l.members
