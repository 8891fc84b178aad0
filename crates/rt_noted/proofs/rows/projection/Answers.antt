use Rattle.std.proofs.Common.{◌∙◌, map}
use Rattle.rt_noted.proofs.Distinct.{noted_at}
use Rattle.rt_noted.proofs.Walking.{projected_below}
use Rattle.rt_noted.proofs.rows.projection.Goals as goal

pub merged-requires : goal.merged-requires
merged-requires c = noted_at c.args.dag.now (c.as_slice.ensures ∙ c.in_ok-rows.ensures) (projected_below c.args.dag.now c.args.from.now c.args.items.now (map (λ r. r.now) c.args.env.now) c.requires)
