use Rattle.std.proofs.Common.{Result, subst, sym}
use Rattle.rt_relation.proofs.Dividing.{divide_is}
use Rattle.rt_relation.proofs.division.divide.Goals as goal
use Rattle.rt_relation.specs.declared.relation.Relation.{Relation}
use Rattle.rt_ra_tree.specs.Refusals.{is_memory}
use Rattle.rt_ra_tree.specs.declared.fault.RaFault.{RaFault}
use Rattle.rt_value.specs.Gives.{Gives}

pub returns : goal.returns
returns c = subst (λ (d : Result Relation RaFault). Gives is_memory c.divided.result d) (sym (divide_is c.args.left.relation c.args.right)) c.divided.ensures
