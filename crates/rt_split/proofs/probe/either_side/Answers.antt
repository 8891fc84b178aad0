use Rattle.std.proofs.Common.{◌∙◌, ◌∷◌, drop, map}
use Rattle.std.proofs.lemmas.Result.{IfOk-weaker}
use Rattle.rt_algebra.specs.Expression.{value_by, wrapped}
use Rattle.rt_split.proofs.Probing.{equal_either}
use Rattle.rt_split.proofs.probe.either_side.Goals as goal

pub returns-in-None : goal.returns-in-None
returns-in-None c =
    IfOk-weaker c.of_column-in-None.result _ _
    (λ found h row f. let outer = drop 1 (map (λ r. r.now) c.args.env.now) in equal_either (value_by wrapped c.args.a.now (row ∷ outer)) (value_by wrapped c.args.b.now (row ∷ outer)) ∙ h row f) c.of_column-in-None.ensures
