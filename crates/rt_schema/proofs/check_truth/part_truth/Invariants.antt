use Rattle.std.proofs.Common.{◌≡◌, map, drop}
use Rattle.rt_value.specs.Truth.{truth_all, truth_and}
use Rattle.rt_schema.specs.Check.{atom_truth, part_truth}
use Rattle.rt_schema.proofs.check_truth.part_truth.Given as goal

abbrev pub invariant-loop-atom : goal.invariant-loop-atom
invariant-loop-atom l = truth_and l.truth (truth_all (map (atom_truth l.row) (drop l.atom-index l.part.all))) ≡ part_truth l.row l.part
