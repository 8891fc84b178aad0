use Rattle.std.proofs.Common.{List, subst}
use Rattle.std.specs.Prelude.{IfOk}
use Rattle.rt_algebra.specs.Typed.{IsTypedOf}
use Rattle.rt_resolve.proofs.Typings.{given-typed}
use Rattle.rt_resolve.proofs.lowering.resolve.Goals as goal
use Rattle.rt_schema.specs.declared.table.Table.{Table}

pub returns-clause-typed : goal.returns-clause-typed
returns-clause-typed c =
    subst (λ (db : List Table). IfOk c.lowered.result (IsTypedOf db)) c.tables.ensures.same (given-typed c.args.sql.now c.tables.result.now _ c.lowered.ensures)
