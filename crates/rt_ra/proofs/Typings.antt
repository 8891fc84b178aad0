-- What each operator becomes over typed operands is typed.
use Rattle.std.proofs.Common.{◌≡◌, ◌∙◌, ℕ, ℤ, ◌+◌, Bool, true, false, List, [], ◌∷◌, ◌++◌, map, length, Option, Some, None, Result, Ok, Err, refl, sym, ap, ap₂, arith, slice_get, append_assoc, ◌==◌}
use Rattle.std.specs.Prelude.{IfOk, bytes_eq, if◌then◌else◌, is_some, unsigned_abs, nat_le, ◌^◌, ◌-◌}
use Rattle.std.proofs.lemmas.List.{append-nil}
use Rattle.rt_algebra.specs.Parts.{combined, selected}
use Rattle.rt_algebra.specs.Columns as algebra
use Rattle.rt_algebra.specs.Columns.{all_typed, column, column_of, comparable, item_columns, merged_columns, pred_typed, set_columns, with_column}
use Rattle.rt_algebra.specs.declared.expr.Expr.TheVariants as expr
use Rattle.rt_algebra.specs.declared.query.Pred.{Pred}
use Rattle.rt_algebra.specs.declared.query.Pred.TheVariants as p
use Rattle.rt_algebra.specs.declared.query.Query.TheVariants as q
use Rattle.rt_algebra.specs.declared.set_op.SetOp.{SetOp}
use Rattle.rt_algebra.specs.declared.set_op.SetOp.TheVariants as sets
use Rattle.rt_schema.specs.Schema.{kind_eq}
use Rattle.rt_schema.specs.declared.table.ColKind.TheVariants.{Whole}
use Rattle.rt_schema.specs.declared.table.Table.{Table}
use Rattle.rt_value.specs.declared.value.Op.{Op}
use Rattle.rt_relation.specs.Columns.{Text, bounded, column_at, common_fit, further_columns, if_fit, known, lacked, names, picked, place, renamed, same_kinds, shared, twice, united_columns, unless_twice, widened}
use Rattle.rt_relation.specs.Fault.{◌>>=◌}
use Rattle.rt_ra.specs.OperatorMeaning.{AreTables, HasColumns, column_as, columns_as}
use Rattle.rt_relation.specs.Operators.{if_further, placed, quotient, two, united, unless_lacked}
use Rattle.rt_ra.specs.Unary.{project, rename, select, table_columns, table_named}
use Rattle.rt_ra.specs.Numbers.{side_fits, test_fits, tests_fit}
use Rattle.rt_ra.specs.Conditions.{column_scalar, compared, negated, number, side, test, tests}
use Rattle.rt_relation.specs.declared.column.Column.{Column}
use Rattle.rt_relation.specs.declared.relation.Relation.{Relation}
use Rattle.rt_ra.specs.declared.scalar.Scalar.{Scalar}
use Rattle.rt_ra_tree.specs.declared.fault.RaFault.{RaFault}
use Rattle.rt_ra_tree.specs.declared.fault.RaFault.TheVariants as fault
use Rattle.rt_ra_tree.specs.declared.tree.RaOp.{RaOp}
use Rattle.rt_ra_tree.specs.declared.tree.RaOp.TheVariants as op
use Rattle.rt_ra_tree.specs.declared.tree.RaSide.{RaSide}
use Rattle.rt_ra_tree.specs.declared.tree.RaSide.TheVariants as side_
use Rattle.rt_ra_tree.specs.declared.tree.RaTest.{RaTest}
use Rattle.rt_ra_tree.specs.declared.tree.RaTest.TheVariants as test_
use Rattle.rt_ra_tree.specs.declared.tree.RaTests.{RaTests}
use Rattle.rt_algebra.proofs.Columned.{column-Col, column-Int, column-Text, column-minus, columns-Table, typed-Cmp, typed-IsNull, typed-Not}
use Rattle.rt_ra.proofs.ConditionLaws.{then-ok}
use Rattle.rt_ra.proofs.Relations.{anti-typed, cross-typed, filled-typed, joined-typed, project-typed, quotient-typed, semi-typed}
use Rattle.rt_algebra.proofs.Combining.{columns-combined, selected-typed}
use Rattle.rt_algebra.proofs.Fitting.{all-merged, and-left, and-right, and-true}
use Rattle.rt_ra.proofs.Typing.{get-as}

-- ---- columns that are found

known-typed : (n : Text) (cs : List Column) → IfOk (column_at n cs) (λ c. slice_get (columns_as cs) (place n (names cs)) ≡ Some (column_as c))
known-typed n cs = by (slice_get cs (place n (names cs))) refl
  where
    by : (o : Option Column) → slice_get cs (place n (names cs)) ≡ o → IfOk (known n o) (λ c. slice_get (columns_as cs) (place n (names cs)) ≡ Some (column_as c))
    by None e = tt
    by (Some c) e = get-as cs (place n (names cs)) c e

renamed-as : (ns : List Text) (cs : List Column) → length ns ≡ length cs → columns_as (renamed ns cs) ≡ columns_as cs
renamed-as [] [] h = refl
renamed-as [] (c ∷ cs) h = absurd (omega arith)
renamed-as (n ∷ ns) [] h = absurd (omega arith)
renamed-as (n ∷ ns) (c ∷ cs) h = ap (λ (cs : algebra.Columns). column_as c ∷ cs) (renamed-as ns cs (omega (arith, h)))

same-number : (m n : ℕ) → (m == n) ≡ true → m ≡ n
same-number m n h = grind (arith, h)

united-merged : (cs ds : List Column) → IfOk (united_columns cs ds) (λ es. merged_columns (columns_as cs) (columns_as ds) ≡ Some (columns_as es))
united-merged cs ds = by (length cs == length ds) refl (same_kinds cs ds) refl
  where
    by : (b : Bool) → (length cs == length ds) ≡ b → (c : Bool) → same_kinds cs ds ≡ c
        → IfOk (if b then (if c then Ok (widened cs ds) else Err fault.TypeMismatch) else Err fault.Columns) (λ es. merged_columns (columns_as cs) (columns_as ds) ≡ Some (columns_as es))
    by true e true f = all-merged Column (λ c. c.kind) (λ c. c.bound) bounded (λ n c. refl) (λ n c. refl) cs ds (same-number (length cs) (length ds) e) f
    by true e false f = tt
    by false e c f = tt

module _ (tables : List algebra.Columns) where
  -- ---- tests

  module _ (cs : List Column) where
    abbrev ScalarTyped : Scalar → Type 0
    ScalarTyped x = (scopes : algebra.Scopes) → (b : ℕ) × (column_of x.expr (columns_as cs ∷ scopes) ≡ Some (column x.kind b))

    number-typed : (m : Bool) (n : ℤ) → nat_le (unsigned_abs n) (2 ^ 127 - 1) ≡ true → ScalarTyped (record { expr = number m n; kind = Whole })
    number-typed true n h scopes = (unsigned_abs n, column-minus (columns_as cs ∷ scopes) n h)
    number-typed false n h scopes = (unsigned_abs n, column-Int (columns_as cs ∷ scopes) n)

    side-typed : (s : RaSide) → side_fits s ≡ true → IfOk (side cs s) ScalarTyped
    side-typed (side_.Col n) h = then-ok (λ c. slice_get (columns_as cs) (place n.text (names cs)) ≡ Some (column_as c)) ScalarTyped (column_at n.text cs) (λ c. Ok (column_scalar (place n.text (names cs)) c)) (known-typed n.text cs)
        (λ c k scopes. (c.bound, column-Col (columns_as cs ∷ scopes) 0 (place n.text (names cs)) ∙ k))
    side-typed (side_.Number m n) h = number-typed m n h
    side-typed (side_.Str t) h = λ scopes. (0, column-Text (columns_as cs ∷ scopes) t)

    abbrev TestTyped : Pred → Type 0
    TestTyped c = (scopes : algebra.Scopes) → pred_typed c tables (columns_as cs ∷ scopes) ≡ true

    compared-typed : (o : Op) (x y : Scalar) → ScalarTyped x → ScalarTyped y → IfOk (compared o x y) TestTyped
    compared-typed o x y h k = by (kind_eq x.kind y.kind) refl
      where
        by : (b : Bool) → kind_eq x.kind y.kind ≡ b → IfOk (if b then Ok (p.Cmp o x.expr y.expr) else Err fault.TypeMismatch) TestTyped
        by true e = λ scopes. typed-Cmp tables (columns_as cs ∷ scopes) o x.expr y.expr ∙ ap₂ comparable (h scopes).1 (k scopes).1 ∙ e
        by false e = tt

    negated-typed : (b : Bool) (c : Pred) → TestTyped c → TestTyped (negated b c)
    negated-typed true c h scopes = typed-Not tables (columns_as cs ∷ scopes) c ∙ h scopes
    negated-typed false c h scopes = h scopes

    test-typed : (t : RaTest) → test_fits t ≡ true → IfOk (test cs t) TestTyped
    test-typed (test_.Cmp o a b) h = then-ok ScalarTyped TestTyped (side cs a) (λ x. side cs b >>= λ y. compared o x y) (side-typed a (and-left (side_fits a) (side_fits b) h))
        (λ x k. then-ok ScalarTyped TestTyped (side cs b) (λ y. compared o x y) (side-typed b (and-right (side_fits a) (side_fits b) h)) (λ y l. compared-typed o x y k l))
    test-typed (test_.IsNull n b) h = then-ok (λ c. slice_get (columns_as cs) (place n.text (names cs)) ≡ Some (column_as c)) TestTyped (column_at n.text cs) (λ c. Ok (negated b (p.IsNull (expr.Col 0 (place n.text (names cs)))))) (known-typed n.text cs)
        (λ c k. negated-typed b (p.IsNull (expr.Col 0 (place n.text (names cs))))
        (λ scopes. typed-IsNull tables (columns_as cs ∷ scopes) (expr.Col 0 (place n.text (names cs))) ∙ ap is_some (column-Col (columns_as cs ∷ scopes) 0 (place n.text (names cs)) ∙ k)))

    abbrev TestsTyped : List Pred → Type 0
    TestsTyped ps = (scopes : algebra.Scopes) → all_typed (map pred_typed ps) tables (columns_as cs ∷ scopes) ≡ true

    put-typed : (ps : List Pred) (c : Pred) → TestsTyped ps → TestTyped c → TestsTyped (ps ++ c ∷ [])
    put-typed [] c h k scopes = and-true (pred_typed c tables (columns_as cs ∷ scopes)) true (k scopes) refl
    put-typed (d ∷ ps) c h k scopes =
        let row = columns_as cs ∷ scopes in
        and-true (pred_typed d tables row) (all_typed (map pred_typed (ps ++ c ∷ [])) tables row) (and-left (pred_typed d tables row) (all_typed (map pred_typed ps) tables row) (h scopes))
        (put-typed ps c (λ scopes. and-right (pred_typed d tables (columns_as cs ∷ scopes)) (all_typed (map pred_typed ps) tables (columns_as cs ∷ scopes)) (h scopes)) k scopes)

    tests-typed : (all : List Pred) (ts : List RaTest) → TestsTyped all → tests_fit ts ≡ true → IfOk (tests all cs ts) TestsTyped
    tests-typed all [] h f = h
    tests-typed all (t ∷ ts) h f = then-ok TestTyped TestsTyped (test cs t) (λ c. tests (all ++ c ∷ []) cs ts) (test-typed t (and-left (test_fits t) (tests_fit ts) f))
        (λ c k. tests-typed (all ++ c ∷ []) ts (put-typed all c h k) (and-right (test_fits t) (tests_fit ts) f))

    -- ---- the columns of names

    abbrev PickedTyped : List Column → List Text → List Column → Type 0
    PickedTyped all ns ds = (rest : List Column) × (ds ≡ all ++ rest) × ((scopes : algebra.Scopes) → item_columns (placed ns cs) (columns_as cs ∷ scopes) ≡ Some (columns_as rest))

    picked-typed : (all : List Column) (ns : List Text) → IfOk (picked all ns cs) (PickedTyped all ns)
    picked-typed all [] = ([], sym (append-nil all), λ scopes. refl)
    picked-typed all (n ∷ ns) = then-ok (λ c. slice_get (columns_as cs) (place n (names cs)) ≡ Some (column_as c)) (PickedTyped all (n ∷ ns)) (column_at n cs) (λ c. picked (all ++ c ∷ []) ns cs) (known-typed n cs)
        (λ c k. more c k (picked (all ++ c ∷ []) ns cs) (picked-typed (all ++ c ∷ []) ns))
      where
        more : (c : Column) → slice_get (columns_as cs) (place n (names cs)) ≡ Some (column_as c) → (m : Result (List Column) RaFault) → IfOk m (PickedTyped (all ++ c ∷ []) ns) → IfOk m (PickedTyped all (n ∷ ns))
        more c k (Ok ds) r = (c ∷ r.0, r.1 ∙ append_assoc all (c ∷ []) r.0, λ scopes. ap₂ with_column (column-Col (columns_as cs ∷ scopes) 0 (place n (names cs)) ∙ k) (r.2 scopes))
        more c k (Err e) r = tt

  -- ---- operators

  fit-ok : (cs ds : List Column) (r : Relation) → (common_fit cs ds ≡ true → HasColumns tables r) → IfOk (if_fit cs ds r) (HasColumns tables)
  fit-ok cs ds r h = by (common_fit cs ds) refl
    where
      by : (b : Bool) → common_fit cs ds ≡ b → IfOk (if b then Ok r else Err fault.TypeMismatch) (HasColumns tables)
      by true e = h e
      by false e = tt

  twice-ok : (o : Option Text) (r : Relation) → HasColumns tables r → IfOk (unless_twice o r) (HasColumns tables)
  twice-ok None r h = h
  twice-ok (Some n) r h = tt

  pub select-ok : (t : Relation) (ts : RaTests) → HasColumns tables t → tests_fit (ts.head ∷ ts.tail) ≡ true → IfOk (select t ts) (HasColumns tables)
  select-ok t ts h f = then-ok (TestsTyped t.columns) (HasColumns tables) (tests [] t.columns (ts.head ∷ ts.tail)) (λ cs. Ok (record { query = selected t.query cs; columns = t.columns }))
      (tests-typed t.columns [] (ts.head ∷ ts.tail) (λ scopes. refl) f) (λ cs k scopes. selected-typed tables scopes t.query cs (columns_as t.columns) (h scopes) (k scopes))

  pub project-ok : (t : Relation) (ns : List Text) → HasColumns tables t → IfOk (project t ns) (HasColumns tables)
  project-ok t ns h = then-ok (PickedTyped t.columns [] ns) (HasColumns tables) (picked [] ns t.columns) (λ cs. unless_twice (twice ns 0 ns) (record { query = q.Project t.query (placed ns t.columns); columns = cs })) (picked-typed t.columns [] ns)
      (λ cs k. twice-ok (twice ns 0 ns) _ (λ scopes. project-typed tables t.query (placed ns t.columns) (columns_as t.columns) (columns_as cs) scopes (h scopes) (k.2 scopes ∙ ap (λ (cs : List Column). Some (columns_as cs)) (sym k.1))))

  pub rename-ok : (t : Relation) (ns : List Text) → HasColumns tables t → IfOk (rename t ns) (HasColumns tables)
  rename-ok t ns h = by (length ns == length t.columns) refl
    where
      by : (b : Bool) → (length ns == length t.columns) ≡ b → IfOk (if b then unless_twice (twice ns 0 ns) (record { query = t.query; columns = renamed ns t.columns }) else Err fault.Columns) (HasColumns tables)
      by true e = twice-ok (twice ns 0 ns) _ (λ scopes. h scopes ∙ ap (λ (cs : algebra.Columns). Some cs) (sym (renamed-as ns t.columns (same-number (length ns) (length t.columns) e))))
      by false e = tt

  module _ (t u : Relation) (h : HasColumns tables t) (k : HasColumns tables u) where
    further-ok : lacked u.columns t.columns ≡ None → (cs : List Column) → IfOk (if_further cs t u) (HasColumns tables)
    further-ok l [] = tt
    further-ok l (c ∷ cs) = fit-ok u.columns t.columns (quotient t u) (λ f. quotient-typed tables t u h k l f)

    divide-ok : (o : Option Text) → lacked u.columns t.columns ≡ o → IfOk (unless_lacked o t u) (HasColumns tables)
    divide-ok None l = further-ok l (further_columns t.columns u.columns)
    divide-ok (Some n) l = tt

    united-ok : (o : SetOp) → IfOk (united o t u) (HasColumns tables)
    united-ok o = then-ok (λ es. merged_columns (columns_as t.columns) (columns_as u.columns) ≡ Some (columns_as es)) (HasColumns tables) (united_columns t.columns u.columns)
        (λ cs. Ok (record { query = combined o t.query u.query; columns = cs })) (united-merged t.columns u.columns) (λ cs m scopes. columns-combined tables scopes o t.query u.query ∙ ap₂ set_columns (h scopes) (k scopes) ∙ m)

    pub two-ok : (o : RaOp) → IfOk (two o t u) (HasColumns tables)
    two-ok op.Cross = twice-ok (shared u.columns t.columns) _ (cross-typed tables t u h k)
    two-ok op.Join = fit-ok t.columns u.columns _ (λ f. joined-typed tables t u h k f)
    two-ok op.Semi = fit-ok t.columns u.columns _ (λ f. semi-typed tables t u h k f)
    two-ok op.Anti = fit-ok t.columns u.columns _ (λ f. anti-typed tables t u h k f)
    two-ok op.LeftJoin = fit-ok t.columns u.columns _ (λ f. filled-typed tables t u h k f)
    two-ok op.Divide = divide-ok (lacked u.columns t.columns) refl
    two-ok op.Union = united-ok sets.Union
    two-ok op.Except = united-ok sets.Except
    two-ok op.Intersect = united-ok sets.Intersect

  -- ---- tables

  pub table-ok : (n : Text) (at : ℕ) (ts : List Table) → AreTables tables at ts → IfOk (table_named n at ts) (HasColumns tables)
  table-ok n at [] f = tt
  table-ok n at (t ∷ ts) f = by (table-ok n (at + 1) ts f.1) (bytes_eq t.name n)
    where
      by : IfOk (table_named n (at + 1) ts) (HasColumns tables) → (b : Bool) → IfOk (if b then Ok (record { query = q.Table at; columns = table_columns t.columns }) else table_named n (at + 1) ts) (HasColumns tables)
      by rest true = λ scopes. columns-Table tables scopes at ∙ f.0
      by rest false = rest
