-- What a certificate may claim.
use Rattle.std.specs.Prelude.{Bool, List, Option, None, Some}
use Rattle.rt_input.specs.Accepted.{Accepted}
use Rattle.rt_top.specs.Smallest.{Agrees, HasFewest, IsCounterexample, IsSmallest}

-- a counterexample, and none keeps fewer rows
pub record IsLeastSize (input : Accepted) (keep : List Bool) : Type 0 where
  pub counterexample : IsCounterexample input keep
  pub fewest : HasFewest input keep

-- a choice has the least size, or there is no counterexample
abbrev pub IsLeastOrNone : Accepted → Option (List Bool) → Type 0
IsLeastOrNone input None = Agrees input
IsLeastOrNone input (Some keep) = IsLeastSize input keep

-- a choice is the smallest counterexample, or there is none
abbrev pub IsSmallestOrNone : Accepted → Option (List Bool) → Type 0
IsSmallestOrNone input None = Agrees input
IsSmallestOrNone input (Some keep) = IsSmallest input keep
