-- The expressions of each select list that has a meaning are typed under the rows in scope, with the
-- kinds and bounds of its columns.
use Rattle.std.proofs.Common.{◌≡◌, ◌∙◌, ℕ, ◌+◌, List, [], ◌∷◌, ◌++◌, Option, None, Some, refl, sym, ap}
use Rattle.std.specs.Prelude.{IfOk}
use Rattle.std.proofs.lemmas.List.{map-append}
use Rattle.rt_algebra.specs.Columns as algebra
use Rattle.rt_algebra.specs.Columns.{column_of, item_columns, with_column as with_algebra}
use Rattle.rt_algebra.specs.declared.expr.Expr.{Expr}
use Rattle.rt_algebra.specs.declared.expr.Expr.TheVariants as expr
use Rattle.rt_algebra.proofs.Columned.{column-Col}
use Rattle.rt_schema.specs.declared.table.ColKind.{ColKind}
use Rattle.rt_scope.specs.Lookup.{Scopes, Text, source_named}
use Rattle.rt_scope.specs.Select.{item_name, no_items, select_list, with_column, with_columns, with_item, with_items, with_source, with_sources, with_value}
use Rattle.rt_scope.specs.Sums.{sum}
use Rattle.rt_scope.specs.declared.column.Column.{Column}
use Rattle.rt_scope.specs.declared.scalar.Scalar.{Scalar}
use Rattle.rt_scope.specs.declared.select.SelectList.{SelectList}
use Rattle.rt_scope.specs.declared.source.Source.{Source}
use Rattle.rt_scope.proofs.Standing.{kinded, column_as, columns_as, ScopesStand, SourceStands, SourcesStand, Stand, IsTypedScalar, source-stands}
use Rattle.rt_scope.proofs.Steps.{then-ok}
use Rattle.rt_scope.proofs.Summing.{sum-typed}
use Rattle.rt_tree.specs.declared.tree.Item.{Item}
use Rattle.rt_tree.specs.declared.tree.Item.TheVariants as item
use Rattle.rt_tree.specs.declared.tree.Items.{Items}
use Rattle.rt_tree.specs.declared.tree.Items.TheVariants as items

abbrev pub IsTypedList : algebra.Scopes → SelectList → Type 0
IsTypedList rows list = item_columns list.exprs rows ≡ Some (columns_as list.columns)

-- ---- one item more

put-last : (o : Option algebra.Column) (p q : Option algebra.Columns) (cs : algebra.Columns) (c : algebra.Column)
    → ((ds : algebra.Columns) → p ≡ Some ds → q ≡ Some (ds ++ c ∷ [])) → with_algebra o p ≡ Some cs → with_algebra o q ≡ Some (cs ++ c ∷ [])
put-last None p q cs c k e = absurd (cc)
put-last (Some d) None q cs c k e = absurd (cc)
put-last (Some d) (Some ds) q cs c k e =
    let same : d ∷ ds ≡ cs = cc in
    rw (k ds refl) (ap (λ (xs : algebra.Columns). Some (xs ++ c ∷ [])) same)

items-one-more : (rows : algebra.Scopes) (e : Expr) (c : algebra.Column) → column_of e rows ≡ Some c → (es : List Expr) (cs : algebra.Columns) → item_columns es rows ≡ Some cs
    → item_columns (es ++ e ∷ []) rows ≡ Some (cs ++ c ∷ [])
items-one-more rows e c t [] cs h = let none : [] ≡ cs = cc in ap (λ o. with_algebra o (Some [])) t ∙ ap (λ (xs : algebra.Columns). Some (xs ++ c ∷ [])) none
items-one-more rows e c t (d ∷ es) cs h =
    put-last (column_of d rows) (item_columns es rows) (item_columns (es ++ e ∷ []) rows) cs c (λ ds k. items-one-more rows e c t es ds k) h

with-column-typed : (rows : algebra.Scopes) (list : SelectList) (e : Expr) (c : Column) → IsTypedList rows list → column_of e rows ≡ Some (column_as c) → IsTypedList rows (with_column list e c)
with-column-typed rows list e c h t =
    items-one-more rows e (column_as c) t list.exprs (columns_as list.columns) h ∙ ap (λ (xs : algebra.Columns). Some xs) (sym (map-append column_as list.columns (c ∷ [])))

module _ (row : algebra.Columns) (rows : algebra.Scopes) where
  with-columns-typed : (list : SelectList) (at : ℕ) (cs : List Column) → Stand at cs row → IsTypedList (row ∷ rows) list → IsTypedList (row ∷ rows) (with_columns list at cs)
  with-columns-typed list at [] s h = h
  with-columns-typed list at (c ∷ cs) s h =
      with-columns-typed (with_column list (expr.Col 0 at) c) (at + 1) cs s.1 (with-column-typed (row ∷ rows) list (expr.Col 0 at) c h (column-Col (row ∷ rows) 0 at ∙ s.0))

  with-sources-typed : (list : SelectList) (ss : List Source) → SourcesStand ss row → IsTypedList (row ∷ rows) list → IsTypedList (row ∷ rows) (with_sources list ss)
  with-sources-typed list [] s h = h
  with-sources-typed list (x ∷ xs) s h = with-sources-typed (with_columns list x.start x.columns) xs s.1 (with-columns-typed list x.start x.columns s.0 h)

  with-source-typed : (list : SelectList) (name : Text) (o : Option Source) → SourceStands row o → IsTypedList (row ∷ rows) list → IfOk (with_source list name o) (IsTypedList (row ∷ rows))
  with-source-typed list name None s h = tt
  with-source-typed list name (Some x) s h = with-columns-typed list x.start x.columns s h

  with-value-typed : (list : SelectList) (name : Option Text) (x : Scalar) (k : Option ColKind) → x.kind ≡ k → IsTypedList (row ∷ rows) list → IsTypedScalar (row ∷ rows) x
      → IfOk (with_value list name x k) (IsTypedList (row ∷ rows))
  with-value-typed list name x None e h t = tt
  with-value-typed list name x (Some k) e h t =
      with-column-typed (row ∷ rows) list x.expr (record { name = name; kind = k; bound = x.bound }) h (t ∙ ap (λ (o : Option ColKind). Some (kinded o x.bound)) e)

  module _ (own : List Source) (scopes : Scopes) (stands : SourcesStand own row) (all : ScopesStand scopes (row ∷ rows)) where
    with-item-typed : (list : SelectList) (i : Item) → IsTypedList (row ∷ rows) list → IfOk (with_item list i own scopes) (IsTypedList (row ∷ rows))
    with-item-typed list (item.All n) h = with-source-typed list n.text (source_named n.text own) (source-stands row n.text own stands) h
    with-item-typed list (item.One s a) h =
        then-ok (IsTypedScalar (row ∷ rows)) (IsTypedList (row ∷ rows)) (sum s scopes) (λ x. with_value list (item_name a s) x x.kind) (sum-typed s scopes (row ∷ rows) all)
        (λ x t. with-value-typed list (item_name a s) x x.kind refl h t)

    with-items-typed : (list : SelectList) (is : List Item) → IsTypedList (row ∷ rows) list → IfOk (with_items list is own scopes) (IsTypedList (row ∷ rows))
    with-items-typed list [] h = h
    with-items-typed list (i ∷ is) h =
        then-ok (IsTypedList (row ∷ rows)) (IsTypedList (row ∷ rows)) (with_item list i own scopes) (λ more. with_items more is own scopes) (with-item-typed list i h)
        (λ more m. with-items-typed more is m)

    pub select-list-typed : (i : Items) → IfOk (select_list i own scopes) (IsTypedList (row ∷ rows))
    select-list-typed items.Star = with-sources-typed no_items own stands refl
    select-list-typed (items.Some head tail) =
        then-ok (IsTypedList (row ∷ rows)) (IsTypedList (row ∷ rows)) (with_item no_items head own scopes) (λ first. with_items first tail own scopes) (with-item-typed no_items head refl)
        (λ first f. with-items-typed first tail f)
