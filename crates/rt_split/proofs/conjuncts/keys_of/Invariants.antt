use Rattle.std.proofs.Common.{◌≡◌, ◌++◌, drop}
use Rattle.std.specs.List.{filter_map}
use Rattle.rt_split.specs.Split.{key_of}
use Rattle.rt_split.proofs.conjuncts.keys_of.Given as goal

abbrev pub invariant-loop-conjunct : goal.invariant-loop-conjunct
invariant-loop-conjunct l =
    l.out ++ filter_map (key_of l.base l.width) (drop l.conjunct-index l.conjuncts) ≡ filter_map (key_of l.base l.width) l.conjuncts
