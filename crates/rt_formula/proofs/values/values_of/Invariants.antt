use Rattle.std.proofs.Common.{◌≡◌, take}
use Rattle.rt_formula.specs.Shared.{values}
use Rattle.rt_formula.proofs.values.values_of.Given as goal

abbrev pub invariant-loop-e : goal.invariant-loop-e
invariant-loop-e l = l.done.items ≡ values l.keep (take l.e-index l.entries)
