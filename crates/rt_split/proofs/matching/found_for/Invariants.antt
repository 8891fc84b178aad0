use Rattle.std.proofs.Common.{◌≡◌, [], map, take, cond}
use Rattle.rt_split.specs.Index.{places_at}
use Rattle.rt_split.specs.Join.{before_key, has_null}
use Rattle.rt_split.proofs.matching.found_for.Given as goal

abbrev pub invariant-loop-before : goal.invariant-loop-before
invariant-loop-before l = l.out ≡ map (λ b. cond (has_null (before_key l.keys b.now)) [] (places_at l.index (before_key l.keys b.now))) (take l.before-index l.befores)
