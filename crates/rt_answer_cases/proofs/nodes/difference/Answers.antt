use Rattle.rt_noted.proofs.SameRows.{mapped_stay}
use Rattle.rt_answer_cases.proofs.nodes.difference.Goals as goal

pub differ-requires : goal.differ-requires
differ-requires c = record { a = mapped_stay c.annotate-2.ensures.grown c.in_ok-left.left c.in_ok-left.ensures.nodes; b = c.in_ok-right.ensures.nodes }
