-- The operands of a set operator that fit have columns together, as the algebra counts them.
use Rattle.std.proofs.Common.{◌≡◌, ◌∙◌, ℕ, true, List, length, Some, Ok, Err, refl, ap, arith}
use Rattle.std.specs.Prelude.{IfOk, if◌then◌else◌, ◌==◌}
use Rattle.rt_algebra.specs.Columns as algebra
use Rattle.rt_algebra.specs.Columns.{merged_columns, query_columns, set_columns}
use Rattle.rt_algebra.specs.Parts.{combined}
use Rattle.rt_algebra.specs.declared.set_op.SetOp.{SetOp}
use Rattle.rt_algebra.proofs.Combining.{columns-combined}
use Rattle.rt_algebra.proofs.Fitting.{all-merged}
use Rattle.rt_scope.specs.Relations.{related, same_kinds, united_columns, widened}
use Rattle.rt_scope.specs.declared.relation.Relation.{Relation}
use Rattle.rt_scope.specs.Columns.{bounded}
use Rattle.rt_scope.specs.declared.column.Column.{Column}
use Rattle.rt_scope.specs.declared.fault.NameFault.TheVariants as fault
use Rattle.rt_scope.proofs.Standing.{columns_as}
use Rattle.rt_scope.proofs.Steps.{then-ok, if-ok}

-- the query has these columns
abbrev pub IsTypedRelation : List algebra.Columns → algebra.Scopes → Relation → Type 0
IsTypedRelation tables rows r = query_columns r.query tables rows ≡ Some (columns_as r.columns)

same-length : (m n : ℕ) → (m == n) ≡ true → m ≡ n
same-length m n h = grind (arith, h)

united-columns-merged : (cs ds : List Column) → IfOk (united_columns cs ds) (λ es. merged_columns (columns_as cs) (columns_as ds) ≡ Some (columns_as es))
united-columns-merged cs ds =
    if-ok (λ es. merged_columns (columns_as cs) (columns_as ds) ≡ Some (columns_as es)) (length cs == length ds) (if same_kinds cs ds then Ok (widened cs ds) else Err fault.TypeMismatch) (Err fault.Columns)
    (λ n. if-ok (λ es. merged_columns (columns_as cs) (columns_as ds) ≡ Some (columns_as es)) (same_kinds cs ds) (Ok (widened cs ds)) (Err fault.TypeMismatch)
    (λ k. all-merged Column (λ c. c.kind) (λ c. c.bound) bounded (λ n c. refl) (λ n c. refl) cs ds (same-length (length cs) (length ds) n) k) tt) tt

module _ (tables : List algebra.Columns) (rows : algebra.Scopes) where
  set-of : (t u : Relation) (es : List Column) → IsTypedRelation tables rows t → IsTypedRelation tables rows u → merged_columns (columns_as t.columns) (columns_as u.columns) ≡ Some (columns_as es)
      → set_columns (query_columns t.query tables rows) (query_columns u.query tables rows) ≡ Some (columns_as es)
  set-of t u es h k m = ap (λ o. set_columns o (query_columns u.query tables rows)) h ∙ ap (set_columns (Some (columns_as t.columns))) k ∙ m

  pub related-typed : (o : SetOp) (t u : Relation) → IsTypedRelation tables rows t → IsTypedRelation tables rows u → IfOk (related o t u) (IsTypedRelation tables rows)
  related-typed o t u h k =
      then-ok (λ es. merged_columns (columns_as t.columns) (columns_as u.columns) ≡ Some (columns_as es)) (IsTypedRelation tables rows) (united_columns t.columns u.columns)
      (λ columns. Ok (record { query = combined o t.query u.query; columns = columns })) (united-columns-merged t.columns u.columns)
      (λ es m. columns-combined tables rows o t.query u.query ∙ set-of t u es h k m)
