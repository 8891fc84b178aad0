use Rattle.std.proofs.Common.{drop}
use Rattle.rt_noted.specs.Entries.{selected}
use Rattle.rt_noted.specs.Annotated.{Along, entries_of, side_test}
use Rattle.rt_annot.proofs.sets.sifted.Given as goal

abbrev pub invariant-loop-noted : goal.invariant-loop-noted
invariant-loop-noted l =
    Along l.fn.dag l.dag l.out (selected (entries_of l.fn.dag (drop l.noted-index l.from)) (side_test l.side (entries_of l.fn.dag l.others)))
    (selected (entries_of l.fn.dag l.from) (side_test l.side (entries_of l.fn.dag l.others)))
