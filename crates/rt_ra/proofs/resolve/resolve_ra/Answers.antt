use Rattle.std.proofs.Common.{List, subst}
use Rattle.std.specs.Prelude.{IfOk}
use Rattle.rt_algebra.specs.Typed.{IsTypedOf}
use Rattle.rt_ra.proofs.Faulty.{given-walks}
use Rattle.rt_ra.proofs.Means.{given-means}
use Rattle.rt_ra.proofs.Types.{given-typed}
use Rattle.rt_ra.proofs.resolve.resolve_ra.Goals as goal
use Rattle.rt_ra.specs.Meaning.{MeansSame}
use Rattle.rt_schema.specs.declared.table.Table.{Table}

pub returns-clause-typed : goal.returns-clause-typed
returns-clause-typed c =
    subst (λ (db : List Table). IfOk c.lowered.result (IsTypedOf db)) c.tables.ensures.same (given-typed c.args.text.now c.tables.result.now _ c.lowered.ensures c.requires.formed)

pub returns-clause-means : goal.returns-clause-means
returns-clause-means c =
    subst (λ (db : List Table). IfOk c.lowered.result (MeansSame c.args.text.now db)) c.tables.ensures.same (given-means c.args.text.now c.tables.result.now _ c.lowered.ensures)

pub returns-clause-walk : goal.returns-clause-walk
returns-clause-walk c = given-walks c.args.text.now c.tables.result.now c.lowered.result c.lowered.ensures
