-- What each operator becomes has just its columns.
use Rattle.std.proofs.Common.{◌≡◌, ◌∙◌, ℕ, ◌+◌, ◌-◌, Bool, true, false, List, [], ◌∷◌, ◌++◌, map, length, Option, Some, None, refl, sym, ap, ap₂, subst, arith, slice_get, max, length-append}
use Rattle.std.specs.Prelude.{if◌then◌else◌, is_some, replicate}
use Rattle.std.specs.Option.{option_and_then}
use Rattle.std.proofs.lemmas.List.{map-append}
use Rattle.rt_algebra.specs.Columns as algebra
use Rattle.rt_algebra.specs.Columns.{all_typed, column, column_at, column_of, comparable, item_columns, merged_column, merged_columns, pred_typed, query_columns, set_columns, with_column}
use Rattle.rt_algebra.specs.declared.expr.Expr.{Expr}
use Rattle.rt_algebra.specs.declared.expr.Expr.TheVariants as expr
use Rattle.rt_algebra.specs.declared.query.Pred.{Pred}
use Rattle.rt_algebra.specs.declared.query.Pred.TheVariants as p
use Rattle.rt_algebra.specs.declared.query.Query.{Query}
use Rattle.rt_algebra.specs.declared.query.Query.TheVariants as q
use Rattle.rt_schema.specs.Schema.{kind_eq}
use Rattle.rt_value.specs.declared.value.Op.TheVariants.{Eq}
use Rattle.rt_relation.specs.Columns.{common_fit, fits, further_columns, has, lacked, names, place}
use Rattle.rt_ra.specs.OperatorMeaning.{HasColumns, column_as, columns_as}
use Rattle.rt_relation.specs.Operators.{anti, filled, further, joined, matched, matching, missing, own, pairs_of, placed, product, quotient, rest_of, semi}
use Rattle.rt_algebra.specs.Parts.{selected}
use Rattle.rt_algebra.proofs.Combining.{selected-typed}
use Rattle.rt_relation.specs.declared.column.Column.{Column}
use Rattle.rt_relation.specs.declared.relation.Relation.{Relation}
use Rattle.rt_algebra.proofs.Columned.{column-Col, columns-Except, columns-Product, columns-Project, columns-Select, columns-Union, typed-Cmp, typed-Exists, typed-Not}
use Rattle.rt_algebra.proofs.Fitting.{and-left, and-right, and-true}
use Rattle.rt_ra.proofs.Typing.{Stand, first-stands, found, further-typed, items-append, merged-append, merged-nulls, merged-self, null_columns, nulls-typed, own-typed, rest-stand, stand-left, stand-own, stand-right}

module _ (tables : List algebra.Columns) where
  -- ---- conditions

  -- the first row is `up` rows outward, the other innermost from `start` on
  pub matching-typed : (up start at : ℕ) (cs os : List Column) (outer row : algebra.Columns) (scopes : algebra.Scopes) → slice_get scopes up ≡ Some outer → slice_get scopes 0 ≡ Some row
      → Stand at cs outer → Stand start os row → common_fit cs os ≡ true → all_typed (map pred_typed (matching up start at cs os)) tables scopes ≡ true
  matching-typed up start at [] os outer row scopes u z s t f = refl
  matching-typed up start at (c ∷ cs) os outer row scopes u z s t f =
      by (matching-typed up start (at + 1) cs os outer row scopes u z (rest-stand at c cs outer s) t (and-right (fits c (slice_get os (place c.name (names os)))) (common_fit cs os) f)) (has c.name (names os)) refl
    where
      fit-is : (d : Column) → slice_get os (place c.name (names os)) ≡ Some d → kind_eq c.kind d.kind ≡ true
      fit-is d h = subst (λ (o : Option Column). fits c o ≡ true) h (and-left (fits c (slice_get os (place c.name (names os)))) (common_fit cs os) f)

      one : (d : Column) → slice_get os (place c.name (names os)) ≡ Some d → pred_typed (p.Cmp Eq (expr.Col up at) (expr.Col 0 (start + place c.name (names os)))) tables scopes ≡ true
      one d h =
          typed-Cmp tables scopes Eq (expr.Col up at) (expr.Col 0 (start + place c.name (names os)))
          ∙ ap₂ comparable (column-Col scopes up at ∙ ap (λ o. column_at o at) u ∙ first-stands at c cs outer s)
          (column-Col scopes 0 (start + place c.name (names os)) ∙ ap (λ o. column_at o (start + place c.name (names os))) z ∙ t (place c.name (names os)) d h) ∙ fit-is d h

      by : all_typed (map pred_typed (matching up start (at + 1) cs os)) tables scopes ≡ true → (b : Bool) → has c.name (names os) ≡ b
          → all_typed (map pred_typed (if b then p.Cmp Eq (expr.Col up at) (expr.Col 0 (start + place c.name (names os))) ∷ matching up start (at + 1) cs os else matching up start (at + 1) cs os)) tables scopes ≡ true
      by rest true e = let d = found c.name os e in
          and-true (pred_typed (p.Cmp Eq (expr.Col up at) (expr.Col 0 (start + place c.name (names os)))) tables scopes) (all_typed (map pred_typed (matching up start (at + 1) cs os)) tables scopes) (one d.0 d.1) rest
      by rest false e = rest

  -- ---- products and joins

  pub product-typed : (a b : Query) (cs ds : algebra.Columns) (scopes : algebra.Scopes) → query_columns a tables scopes ≡ Some cs → query_columns b tables scopes ≡ Some ds
      → query_columns (product a b) tables scopes ≡ Some (cs ++ ds)
  product-typed a b cs ds scopes h k =
      columns-Product tables scopes (a ∷ b ∷ [])
      ∙ ap (option_and_then (λ cs. option_and_then (λ ds. Some (cs ++ ds)) (query_columns b tables scopes))) h ∙ ap (option_and_then (λ ds. Some (cs ++ ds))) k

  pub project-typed : (a : Query) (es : List Expr) (cs ds : algebra.Columns) (scopes : algebra.Scopes) → query_columns a tables scopes ≡ Some cs → item_columns es (cs ∷ scopes) ≡ Some ds
      → query_columns (q.Project a es) tables scopes ≡ Some ds
  project-typed a es cs ds scopes h k = columns-Project tables scopes a es ∙ ap (option_and_then (λ cs. item_columns es (cs ∷ scopes))) h ∙ k

  select-typed : (a : Query) (c : Pred) (cs : algebra.Columns) (scopes : algebra.Scopes) → query_columns a tables scopes ≡ Some cs → pred_typed c tables (cs ∷ scopes) ≡ true
      → query_columns (q.Select a c) tables scopes ≡ Some cs
  select-typed a c cs scopes h k =
      columns-Select tables scopes a c ∙ ap (option_and_then (λ cs. if pred_typed c tables (cs ∷ scopes) then Some cs else None)) h ∙ ap (λ b. if b then Some cs else None) k

  module _ (t u : Relation) (h : HasColumns tables t) (k : HasColumns tables u) where
    both-as : columns_as t.columns ++ columns_as u.columns ≡ columns_as (t.columns ++ u.columns)
    both-as = sym (map-append column_as t.columns u.columns)

    pub cross-typed : HasColumns tables (record { query = product t.query u.query; columns = t.columns ++ u.columns })
    cross-typed scopes = product-typed t.query u.query (columns_as t.columns) (columns_as u.columns) scopes (h scopes) (k scopes) ∙ ap (λ (cs : algebra.Columns). Some cs) both-as

    module _ (fit : common_fit t.columns u.columns ≡ true) where
      pub joined-typed : HasColumns tables (joined t u)
      joined-typed scopes =
          let row = columns_as t.columns ++ columns_as u.columns in
          let conds = matching 0 (length t.columns) 0 t.columns u.columns in
          project-typed (selected (product t.query u.query) conds) (own 0 t.columns ++ further (length t.columns) u.columns t.columns) row (columns_as (t.columns ++ further_columns u.columns t.columns)) scopes
          (selected-typed tables scopes (product t.query u.query) conds row (product-typed t.query u.query (columns_as t.columns) (columns_as u.columns) scopes (h scopes) (k scopes))
          (matching-typed 0 (length t.columns) 0 t.columns u.columns row row (row ∷ scopes) refl refl (stand-left t.columns (columns_as u.columns)) (stand-right t.columns u.columns) fit))
          (items-append (row ∷ scopes) (own 0 t.columns) (further (length t.columns) u.columns t.columns) (columns_as t.columns) (columns_as (further_columns u.columns t.columns))
          (own-typed scopes 0 t.columns row (stand-left t.columns (columns_as u.columns))) (further-typed scopes (length t.columns) u.columns t.columns row (stand-right t.columns u.columns))
          ∙ ap (λ (cs : algebra.Columns). Some cs) (sym (map-append column_as t.columns (further_columns u.columns t.columns))))

      matched-typed : (scopes : algebra.Scopes) → pred_typed (matched t.columns u) tables (columns_as t.columns ∷ scopes) ≡ true
      matched-typed scopes =
          let conds = matching 1 0 0 t.columns u.columns in
          let inner = columns_as u.columns ∷ (columns_as t.columns ∷ scopes) in
          typed-Exists tables (columns_as t.columns ∷ scopes) (selected u.query conds)
          ∙ ap is_some (selected-typed tables (columns_as t.columns ∷ scopes) u.query conds (columns_as u.columns) (k (columns_as t.columns ∷ scopes))
          (matching-typed 1 0 0 t.columns u.columns (columns_as t.columns) (columns_as u.columns) inner refl refl (stand-own t.columns) (stand-own u.columns) fit))

      pub semi-typed : HasColumns tables (semi t u)
      semi-typed scopes = select-typed t.query (matched t.columns u) (columns_as t.columns) scopes (h scopes) (matched-typed scopes)

      pub anti-typed : HasColumns tables (anti t u)
      anti-typed scopes = select-typed t.query (p.Not (matched t.columns u)) (columns_as t.columns) scopes (h scopes) (typed-Not tables (columns_as t.columns ∷ scopes) (matched t.columns u) ∙ matched-typed scopes)

      less : (a b c : ℕ) → c ≡ a + b → c - a ≡ b
      less a b c h = omega (arith, h)

      filled-nulls : length (joined t u).columns - length (anti t u).columns ≡ length (further_columns u.columns t.columns)
      filled-nulls = less (length t.columns) (length (further_columns u.columns t.columns)) (length (t.columns ++ further_columns u.columns t.columns)) (length-append t.columns (further_columns u.columns t.columns))

      filled-merged : merged_columns (columns_as (t.columns ++ further_columns u.columns t.columns)) (columns_as t.columns ++ null_columns (length (further_columns u.columns t.columns)))
          ≡ Some (columns_as (t.columns ++ further_columns u.columns t.columns))
      filled-merged =
          let fs = further_columns u.columns t.columns in
          ap (λ (cs : algebra.Columns). merged_columns cs (columns_as t.columns ++ null_columns (length fs))) (map-append column_as t.columns fs)
          ∙ merged-append (columns_as t.columns) (columns_as t.columns) (columns_as fs) (null_columns (length fs)) (columns_as t.columns) (columns_as fs) (merged-self t.columns) (merged-nulls fs)
          ∙ ap (λ (cs : algebra.Columns). Some cs) (sym (map-append column_as t.columns fs))

      pub filled-typed : HasColumns tables (filled (joined t u) (anti t u))
      filled-typed scopes =
          let fs = further_columns u.columns t.columns in
          columns-Union tables scopes (joined t u).query _
          ∙ ap₂ set_columns (joined-typed scopes)
          (project-typed (anti t u).query _ (columns_as t.columns) (columns_as t.columns ++ null_columns (length fs)) scopes (anti-typed scopes)
          (items-append (columns_as t.columns ∷ scopes) (own 0 t.columns) (replicate (length (joined t u).columns - length (anti t u).columns) expr.Null) (columns_as t.columns) (null_columns (length fs))
          (own-typed scopes 0 t.columns (columns_as t.columns) (stand-own t.columns))
          (ap (λ (n : ℕ). item_columns (replicate n expr.Null) (columns_as t.columns ∷ scopes)) filled-nulls ∙ nulls-typed (columns_as t.columns ∷ scopes) (length fs))))
          ∙ filled-merged

    -- ---- division

    -- the columns of the names that the divisor has
    placed-there : (us : List Column) → lacked us t.columns ≡ None → common_fit us t.columns ≡ true → (row : algebra.Columns) (scopes : algebra.Scopes) → Stand 0 t.columns row
        → (ds : algebra.Columns) × (item_columns (placed (names us) t.columns) (row ∷ scopes) ≡ Some ds) × ((ms : algebra.Columns) × (merged_columns (columns_as us) ds ≡ Some ms))
    placed-there [] l f row scopes s = ([], refl, ([], refl))
    placed-there (c ∷ us) l f row scopes s = by (λ l. placed-there us l (and-right (fits c (slice_get t.columns (place c.name (names t.columns)))) (common_fit us t.columns) f) row scopes s) (has c.name (names t.columns)) refl l
      where
        by : (lacked us t.columns ≡ None → (ds : algebra.Columns) × (item_columns (placed (names us) t.columns) (row ∷ scopes) ≡ Some ds) × ((ms : algebra.Columns) × (merged_columns (columns_as us) ds ≡ Some ms)))
            → (b : Bool) → has c.name (names t.columns) ≡ b → (if b then lacked us t.columns else Some c.name) ≡ None
            → (ds : algebra.Columns) × (item_columns (placed (names (c ∷ us)) t.columns) (row ∷ scopes) ≡ Some ds) × ((ms : algebra.Columns) × (merged_columns (columns_as (c ∷ us)) ds ≡ Some ms))
        by more false e l = cc l
        by more true e l =
            let d = found c.name t.columns e in
            let r = more l in
            let at : place c.name (names t.columns) ≡ 0 + place c.name (names t.columns) = omega arith in
            let there : column_of (expr.Col 0 (place c.name (names t.columns))) (row ∷ scopes) ≡ Some (column_as d.0) = column-Col (row ∷ scopes) 0 (place c.name (names t.columns)) ∙ ap (slice_get row) at ∙ s (place c.name (names t.columns)) d.0 d.1 in
            let kind : kind_eq c.kind d.0.kind ≡ true = subst (λ (o : Option Column). fits c o ≡ true) d.1 (and-left (fits c (slice_get t.columns (place c.name (names t.columns)))) (common_fit us t.columns) f) in
            let one : merged_column (column_as c) (column_as d.0) ≡ Some (column c.kind (max c.bound d.0.bound)) = rw kind refl in
            (column_as d.0 ∷ r.0, ap₂ with_column there r.1, (column c.kind (max c.bound d.0.bound) ∷ r.2.0, ap₂ with_column one r.2.1))

    pub quotient-typed : lacked u.columns t.columns ≡ None → common_fit u.columns t.columns ≡ true → HasColumns tables (quotient t u)
    quotient-typed l f scopes =
        let ts = columns_as t.columns in
        let fs = further_columns t.columns u.columns in
        let there = placed-there u.columns l f ts scopes (stand-own t.columns) in
        let rest : query_columns (rest_of t.query t.columns u.columns) tables scopes ≡ Some (columns_as fs) =
        project-typed t.query (further 0 t.columns u.columns) ts (columns_as fs) scopes (h scopes) (further-typed scopes 0 t.columns u.columns ts (stand-own t.columns)) in
        let pairs : query_columns (pairs_of t.query t.columns u.columns) tables scopes ≡ Some (columns_as fs ++ there.0) =
        project-typed t.query (further 0 t.columns u.columns ++ placed (names u.columns) t.columns) ts (columns_as fs ++ there.0) scopes (h scopes)
        (items-append (ts ∷ scopes) (further 0 t.columns u.columns) (placed (names u.columns) t.columns) (columns_as fs) there.0 (further-typed scopes 0 t.columns u.columns ts (stand-own t.columns)) there.1) in
        let none : query_columns (q.Except (product (rest_of t.query t.columns u.columns) u.query) (pairs_of t.query t.columns u.columns)) tables scopes ≡ Some (columns_as fs ++ there.2.0) =
        columns-Except tables scopes (product (rest_of t.query t.columns u.columns) u.query) (pairs_of t.query t.columns u.columns)
        ∙ ap₂ set_columns (product-typed (rest_of t.query t.columns u.columns) u.query (columns_as fs) (columns_as u.columns) scopes rest (k scopes)) pairs
        ∙ merged-append (columns_as fs) (columns_as fs) (columns_as u.columns) there.0 (columns_as fs) there.2.0 (merged-self fs) there.2.1 in
        columns-Except tables scopes (rest_of t.query t.columns u.columns) (missing (rest_of t.query t.columns u.columns) (pairs_of t.query t.columns u.columns) u.query fs)
        ∙ ap₂ set_columns rest (project-typed _ (own 0 fs) (columns_as fs ++ there.2.0) (columns_as fs) scopes none (own-typed scopes 0 fs (columns_as fs ++ there.2.0) (stand-left fs there.2.0)))
        ∙ merged-self fs
