-- A typed query by itself: evaluation modulo 2^128 gives its answer.
use Rattle.std.proofs.Common.{◌≡◌, ℕ, IsTrue, Bool, List, [], Option, None, Some, refl}
use Rattle.std.specs.Prelude.{is_some}
use Rattle.rt_schema.specs.declared.table.ColKind.{ColKind}
use Rattle.rt_schema.specs.Given.{Instance, is_instance}
use Rattle.rt_schema.specs.Kept.{kept}
use Rattle.rt_algebra.specs.Answer.{answer_by, plain}
use Rattle.rt_algebra.specs.Columns.{Columns, table_columns, query_columns}
use Rattle.rt_algebra.specs.Expression.{wrapped}
use Rattle.rt_algebra.specs.Typed.{IsTyped, has_columns}
use Rattle.rt_algebra.specs.declared.typed.Typed.{Typed}
use Rattle.rt_algebra.proofs.Rows.{query_law, rows_same}
use Rattle.rt_algebra.proofs.Instances.{kept-instance}

pub columns-some : (kinds : List ColKind) (bounds : List ℕ) (o : Option Columns) → IsTrue (has_columns kinds bounds o) → IsTrue (is_some o)
columns-some kinds bounds None h = absurd (cc)
columns-some kinds bounds (Some cs) h = refl

pub typed_exact : (given : Instance) (keep : List Bool) (typed : Typed) → IsTrue (is_instance given) → IsTyped given.kinds typed
    → answer_by wrapped typed.query (kept given.tables keep) [] ≡ plain typed.query (kept given.tables keep)
typed_exact given keep typed h t =
    let within = kept-instance given keep h in
    rows_same _ _ (query_columns typed.query (table_columns given.kinds) [])
    (query_law (table_columns given.kinds) (kept given.tables keep) within typed.query [] [] tt)
    (columns-some typed.kinds typed.bounds _ t.columns)
