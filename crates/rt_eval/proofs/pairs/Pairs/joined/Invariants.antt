use Rattle.std.proofs.Common.{◌≡◌, ◌++◌, drop}
use Rattle.rt_eval.specs.Pairs.{all_joined}
use Rattle.rt_eval.proofs.pairs.Pairs.joined.Given as goal

abbrev pub invariant-loop-at : goal.invariant-loop-at
invariant-loop-at l =
    l.out ++ all_joined (drop l.at l.self.befores) l.self.rows (drop l.at l.self.places) ≡ all_joined l.self.befores l.self.rows l.self.places
