use Rattle.std.proofs.Common.{◌≡◌, map, take, slice_index_or}
use Rattle.rt_value.specs.declared.value.Value.TheVariants as v
use Rattle.rt_split.proofs.matching.before_key.Given as goal

abbrev pub invariant-loop-key : goal.invariant-loop-key
invariant-loop-key l = l.out ≡ map (λ k. slice_index_or l.before k.before v.Null) (take l.key-index l.keys)
