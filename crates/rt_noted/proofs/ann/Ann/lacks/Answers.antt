use Rattle.std.proofs.Common.{sym}
use Rattle.rt_noted.proofs.Merged.{node_below}
use Rattle.rt_noted.proofs.ann.Ann.lacks.Goals as goal

pub not-requires : goal.not-requires
not-requires c = node_below c.args.dag.now c.args.self.now c.args.row.now c.in-Some.node c.requires (sym c.in-Some.ensures)
