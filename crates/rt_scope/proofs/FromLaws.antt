-- The columns of the sources of a SELECT are in its row, under which its conditions are typed.
use Rattle.std.proofs.Common.{◌≡◌, ◌∙◌, ℕ, zero, suc, ◌+◌, List, [], ◌∷◌, ◌++◌, map, length, drop, Option, None, Some, Ok, Err, refl, sym, ap, subst, arith, slice_get, append_assoc, length-append}
use Rattle.std.specs.Prelude.{IfOk, is_some}
use Rattle.std.specs.Option.{option_and_then}
use Rattle.std.specs.Str.{bytes_eq}
use Rattle.std.proofs.lemmas.List.{map-append, length-map}
use Rattle.rt_algebra.specs.Columns as algebra
use Rattle.rt_algebra.specs.Columns.{QueryColumns, item_columns, product_columns, query_columns}
use Rattle.rt_algebra.specs.Parts.{product_of, selected}
use Rattle.rt_algebra.specs.declared.query.Pred.{Pred}
use Rattle.rt_algebra.proofs.Columned.{columns-Project, columns-Table}
use Rattle.rt_algebra.proofs.Combining.{product-of-typed, selected-typed}
use Rattle.rt_algebra.proofs.Fitting.{table-as}
use Rattle.rt_scope.specs.Sources.{no_sources, select_of, with_base, with_cond}
use Rattle.rt_scope.specs.Relations.{Tables, table_named, table_ref}
use Rattle.rt_scope.specs.declared.from.FromClause.{FromClause}
use Rattle.rt_scope.specs.declared.relation.TableRef.{TableRef}
use Rattle.rt_scope.proofs.Sets.{IsTypedRelation}
use Rattle.rt_scope.proofs.Tested.{AreTyped, put-typed}
use Rattle.rt_schema.specs.Schema.{schema_kinds}
use Rattle.rt_scope.specs.Columns.{called}
use Rattle.rt_scope.specs.Lookup.{Text, source_named}
use Rattle.rt_scope.specs.declared.column.Column.{Column}
use Rattle.rt_scope.specs.declared.fault.NameFault.TheVariants as fault
use Rattle.rt_scope.specs.declared.select.SelectList.{SelectList}
use Rattle.rt_scope.specs.declared.source.Source.{Source}
use Rattle.rt_scope.proofs.Comparing.{IsTypedPred}
use Rattle.rt_scope.proofs.Listing.{IsTypedList}
use Rattle.rt_scope.proofs.Standing.{SourcesStand, Stand, column_as, columns_as}
use Rattle.rt_scope.proofs.Steps.{if-ok}

-- ---- tables

abbrev pub tables_of : Tables → List algebra.Columns
tables_of db = algebra.table_columns (schema_kinds db)

-- the tables from number `at` on
abbrev TablesFrom : List algebra.Columns → ℕ → Tables → Type 0
TablesFrom all at db = (k : ℕ) → slice_get all (at + k) ≡ slice_get (tables_of db) k

abbrev pub IsTypedTable : List algebra.Columns → algebra.Scopes → TableRef → Type 0
IsTypedTable tables rows t = IsTypedRelation tables rows t.relation

pub table-named-typed : (tables : List algebra.Columns) (rows : algebra.Scopes) (table name : Text) (at : ℕ) (db : Tables) → TablesFrom tables at db
    → IfOk (table_named table name at db) (IsTypedTable tables rows)
table-named-typed tables rows table name at [] from = tt
table-named-typed tables rows table name at (t ∷ ts) from =
    if-ok (IsTypedTable tables rows) (bytes_eq t.name table) (Ok (table_ref name at t)) (table_named table name (at + 1) ts)
    (λ is. let e : at ≡ at + 0 = omega arith in
    columns-Table tables rows at ∙ ap (slice_get tables) e ∙ from 0 ∙ ap (λ (xs : algebra.Columns). Some xs) (table-as Column (λ c. c.kind) (λ c. c.bound) called (λ n k b. refl) (λ n k b. refl) t.columns))
    (table-named-typed tables rows table name (at + 1) ts (λ k. let e : at + 1 + k ≡ at + suc k = omega arith in ap (slice_get tables) e ∙ from (suc k)))

pub tables-from-first : (db : Tables) → TablesFrom (tables_of db) 0 db
tables-from-first db k = let e : 0 + k ≡ k = omega arith in ap (slice_get (tables_of db)) e

-- ---- places in a row

place-after : (row : algebra.Columns) (x : algebra.Column) (more : algebra.Columns) → slice_get (row ++ x ∷ more) (length row) ≡ Some x
place-after [] x more = refl
place-after (y ∷ row) x more = place-after row x more

pub stand-after : (cs : List Column) (at : ℕ) (row more : algebra.Columns) → at ≡ length row → Stand at cs (row ++ (columns_as cs ++ more))
stand-after [] at row more e = tt
stand-after (c ∷ cs) at row more e =
    let x : algebra.Column = column_as c in
    let others : algebra.Columns = columns_as cs ++ more in
    let longer : at + 1 ≡ length (row ++ x ∷ []) = omega (arith, length-append row (x ∷ [])) in
    (ap (slice_get (row ++ x ∷ others)) e ∙ place-after row x others, subst (Stand (at + 1) cs) (append_assoc row (x ∷ []) others) (stand-after cs (at + 1) (row ++ x ∷ []) more longer))

put-stands : (ss : List Source) (s : Source) (row : algebra.Columns) → SourcesStand ss row → Stand s.start s.columns row → SourcesStand (ss ++ s ∷ []) row
put-stands [] s row h k = (k, tt)
put-stands (x ∷ xs) s row h k = (h.0, put-stands xs s row h.1 k)

pub drop-stands : (n : ℕ) (ss : List Source) (row : algebra.Columns) → SourcesStand ss row → SourcesStand (drop n ss) row
drop-stands zero [] row h = tt
drop-stands zero (x ∷ xs) row h = h
drop-stands (suc n) [] row h = tt
drop-stands (suc n) (x ∷ xs) row h = drop-stands n xs row h.1

module _ (tables : List algebra.Columns) (rows : algebra.Scopes) where
  -- the sources have this row, in which their columns are, also where more columns follow
  pub record HasRow (from : FromClause) (row : algebra.Columns) : Type 0 where
    pub queries : product_columns [] (map query_columns from.queries) tables rows ≡ Some row
    pub width : from.width ≡ length row
    pub stand : (more : algebra.Columns) → SourcesStand from.sources (row ++ more)
    pub conds : (more : algebra.Columns) → AreTyped tables ((row ++ more) ∷ rows) from.conds

  abbrev pub IsTypedFrom : FromClause → Type 0
  IsTypedFrom from = (row : algebra.Columns) × HasRow from row

  pub no-sources-typed : IsTypedFrom no_sources
  no-sources-typed = ([], record { queries = refl; width = refl; stand = λ more. tt; conds = λ more. refl })

  onward : (o : Option algebra.Columns) (f g : algebra.Columns → Option algebra.Columns) (a r : algebra.Columns) → ((b : algebra.Columns) → f b ≡ Some a → g b ≡ Some r)
      → option_and_then f o ≡ Some a → option_and_then g o ≡ Some r
  onward None f g a r k e = absurd (cc)
  onward (Some b) f g a r k e = k b e

  product-one-more : (f : QueryColumns) (cs row : algebra.Columns) → f tables rows ≡ Some cs → (gs : List QueryColumns) (front : algebra.Columns) → product_columns front gs tables rows ≡ Some row
      → product_columns front (gs ++ f ∷ []) tables rows ≡ Some (row ++ cs)
  product-one-more f cs row t [] front e =
      let same : front ≡ row = cc in ap (option_and_then (λ ds. Some (front ++ ds))) t ∙ ap (λ (xs : algebra.Columns). Some (xs ++ cs)) same
  product-one-more f cs row t (g ∷ gs) front e =
      onward (g tables rows) (λ ds. product_columns (front ++ ds) gs tables rows) (λ ds. product_columns (front ++ ds) (gs ++ f ∷ []) tables rows) row (row ++ cs)
      (λ ds h. product-one-more f cs row t gs (front ++ ds) h) e

  with-base-has : (from : FromClause) (b : TableRef) (row : algebra.Columns) → HasRow from row → IsTypedTable tables rows b
      → HasRow (record { sources = from.sources ++ record { name = b.name; columns = b.relation.columns; start = from.width } ∷ []; queries = from.queries ++ b.relation.query ∷ []; conds = from.conds; width = from.width + length b.relation.columns }) (row ++ columns_as b.relation.columns)
  with-base-has from b row h t =
      let cs : algebra.Columns = columns_as b.relation.columns in
      let s : Source = record { name = b.name; columns = b.relation.columns; start = from.width } in
      record {
        queries = ap (λ (fs : List QueryColumns). product_columns [] fs tables rows) (map-append query_columns from.queries (b.relation.query ∷ []))
            ∙ product-one-more (query_columns b.relation.query) cs row t (map query_columns from.queries) [] h.queries;
        width = omega (arith, h.width, length-append row cs, length-map b.relation.columns column_as);
        stand = λ more. subst (SourcesStand (from.sources ++ s ∷ [])) (sym (append_assoc row cs more))
            (put-stands from.sources s (row ++ (cs ++ more)) (h.stand (cs ++ more)) (stand-after b.relation.columns from.width row more h.width));
        conds = λ more. subst (λ (r : algebra.Columns). AreTyped tables (r ∷ rows) from.conds) (sym (append_assoc row cs more)) (h.conds (cs ++ more));
      }

  pub with-base-typed : (from : FromClause) (b : TableRef) → IsTypedFrom from → IsTypedTable tables rows b → IfOk (with_base from b) IsTypedFrom
  with-base-typed from b h t =
      if-ok IsTypedFrom (is_some (source_named b.name from.sources)) (Err (fault.DuplicateAlias b.name)) _ (λ is. tt) (h.0 ++ columns_as b.relation.columns, with-base-has from b h.0 h.1 t)

  pub with-cond-typed : (from : FromClause) (h : IsTypedFrom from) (c : Pred) → ((more : algebra.Columns) → IsTypedPred tables ((h.0 ++ more) ∷ rows) c) → IsTypedFrom (with_cond from c)
  with-cond-typed from h c t = (
    h.0,
    record { queries = h.1.queries; width = h.1.width; stand = h.1.stand; conds = λ more. put-typed tables ((h.0 ++ more) ∷ rows) from.conds c (h.1.conds more) (t more) },
  )

  -- ---- one SELECT

  pub select-of-typed : (from : FromClause) (list : SelectList) (row : algebra.Columns) → product_columns [] (map query_columns from.queries) tables rows ≡ Some row
      → AreTyped tables (row ∷ rows) from.conds → IsTypedList (row ∷ rows) list → IsTypedRelation tables rows (select_of from list)
  select-of-typed from list row e h l =
      columns-Project tables rows (selected (product_of from.queries) from.conds) list.exprs
      ∙ ap (option_and_then (λ cs. item_columns list.exprs (cs ∷ rows))) (selected-typed tables rows (product_of from.queries) from.conds row (product-of-typed tables rows from.queries row e) h)
      ∙ l
