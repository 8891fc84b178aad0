-- Each operator keeps the meaning.
use Rattle.std.proofs.Common.{◌≡◌, ◌∙◌, ℕ, suc, ◌+◌, Bool, true, false, not, List, [], ◌∷◌, ◌++◌, map, length, Option, Some, None, Result, Ok, Err, refl, sym, ap, ap₂, subst, arith, slice_get, ◌==◌}
use Rattle.std.specs.Prelude.{IfOk, bytes_eq, if◌then◌else◌}
use Rattle.std.specs.List.{filter}
use Rattle.std.proofs.lemmas.List.{append_assoc}
use Rattle.std.proofs.lemmas.Slice.Eq.{bytes_eq-Decides}
use Rattle.rt_algebra.specs.Answer.{answer, has_row, pairs}
use Rattle.rt_algebra.specs.Expression.{Env, row_of}
use Rattle.rt_algebra.specs.Parts.{combined, selected}
use Rattle.rt_algebra.specs.declared.query.Query.{Query}
use Rattle.rt_algebra.specs.declared.query.Query.TheVariants as q
use Rattle.rt_algebra.specs.declared.set_op.SetOp.{SetOp}
use Rattle.rt_algebra.specs.declared.set_op.SetOp.TheVariants as sets
use Rattle.rt_schema.specs.Given.{Rows, Tables, rows_at}
use Rattle.rt_schema.specs.declared.table.Column.{Column as TableColumn}
use Rattle.rt_schema.specs.declared.table.Table.{Table}
use Rattle.rt_value.specs.declared.value.Value.{Value}
use Rattle.rt_ra.specs.OperatorAnswers.{Named, all_yes, cells, table_rows}
use Rattle.rt_ra.specs.OperatorAnswers as answers
use Rattle.rt_relation.specs.Columns.{Text, column_at, common_fit, further_columns, if_fit, lacked, known, names, picked, place, renamed, same_kinds, shared, twice, united_columns, unless_twice, widened}
use Rattle.rt_relation.specs.Operators.{if_further, placed, product, quotient, two, united, unless_lacked}
use Rattle.rt_ra.specs.Unary.{project, rename, select, table_columns, table_named}
use Rattle.rt_ra.specs.OperatorMeaning.{Fit, Has, KeepsOne, Means, Wide}
use Rattle.rt_ra.specs.Conditions.{tests}
use Rattle.rt_relation.specs.declared.column.Column.{Column}
use Rattle.rt_relation.specs.declared.relation.Relation.{Relation}
use Rattle.rt_ra_tree.specs.declared.fault.RaFault.{RaFault}
use Rattle.rt_ra_tree.specs.declared.fault.RaFault.TheVariants as fault
use Rattle.rt_ra_tree.specs.declared.tree.RaOp.{RaOp}
use Rattle.rt_ra_tree.specs.declared.tree.RaOp.TheVariants as op
use Rattle.rt_ra_tree.specs.declared.tree.RaTests.{RaTests}
use Rattle.rt_ra.proofs.ConditionLaws.{all_hold, answer-selected, filter-same, tests-mean, then-ok}
use Rattle.rt_ra.proofs.Divided.{quotient-has}
use Rattle.rt_ra.proofs.Joined.{anti-has, filled-has, joined-has, placed-row, semi-has, under}
use Rattle.rt_ra.proofs.Layers.{answer-Except, answer-Intersect, answer-Project, answer-Table, answer-Union, answer-pairs}
use Rattle.rt_ra.proofs.Widths.{cells-length, names-append, names-further, names-length, wide-append, wide-filter, wide-map, wide-pairs}
use mathlib.Core.Path.{fun_ext}

-- ---- columns

named-so : (n : Text) (cs : List Column) → IfOk (column_at n cs) (λ c. c.name ≡ n)
named-so n [] = tt
named-so n (c ∷ cs) = by (named-so n cs) (bytes_eq c.name n) refl
  where
    by : IfOk (column_at n cs) (λ c. c.name ≡ n) → (b : Bool) → bytes_eq c.name n ≡ b → IfOk (known n (slice_get (c ∷ cs) (if b then 0 else place n (names cs) + 1))) (λ c. c.name ≡ n)
    by rest true e = (bytes_eq-Decides c.name n).0 e
    by rest false e = let f : place n (names cs) + 1 ≡ suc (place n (names cs)) = omega arith in
        subst (λ (k : ℕ). IfOk (known n (slice_get (c ∷ cs) k)) (λ c. c.name ≡ n)) (sym f) rest

picked-named : (all : List Column) (ns : List Text) (cs : List Column) → IfOk (picked all ns cs) (λ ds. names ds ≡ names all ++ ns)
picked-named all [] cs = none (names all)
  where
    none : (l : List Text) → l ≡ l ++ []
    none [] = refl
    none (x ∷ xs) = ap (λ (l : List Text). x ∷ l) (none xs)
picked-named all (n ∷ ns) cs = then-ok (λ c. c.name ≡ n) (λ ds. names ds ≡ names all ++ (n ∷ ns)) (column_at n cs) (λ c. picked (all ++ c ∷ []) ns cs) (named-so n cs)
    (λ c h. more c h (picked (all ++ c ∷ []) ns cs) (picked-named (all ++ c ∷ []) ns cs))
  where
    more : (c : Column) → c.name ≡ n → (m : Result (List Column) RaFault) → IfOk m (λ ds. names ds ≡ names (all ++ c ∷ []) ++ ns) → IfOk m (λ ds. names ds ≡ names all ++ (n ∷ ns))
    more c h (Ok ds) k = k ∙ ap (λ (l : List Text). l ++ ns) (names-append all (c ∷ []) ∙ ap (λ (m : Text). names all ++ m ∷ []) h) ∙ append_assoc (names all) (n ∷ []) ns
    more c h (Err e) k = tt

renamed-named : (ns : List Text) (cs : List Column) → length ns ≡ length cs → names (renamed ns cs) ≡ ns
renamed-named [] cs h = refl
renamed-named (n ∷ ns) [] h = absurd (omega arith)
renamed-named (n ∷ ns) (c ∷ cs) h = ap (λ (l : List Text). n ∷ l) (renamed-named ns cs (omega (arith, h)))

same-number : (m n : ℕ) → (m == n) ≡ true → m ≡ n
same-number m n h = grind (arith, h)

widened-named : (cs ds : List Column) → length cs ≡ length ds → names (widened cs ds) ≡ names cs
widened-named [] ds h = refl
widened-named (c ∷ cs) [] h = absurd (omega arith)
widened-named (c ∷ cs) (d ∷ ds) h = ap (λ (l : List Text). c.name ∷ l) (widened-named cs ds (omega (arith, h)))

united-named : (cs ds : List Column) → IfOk (united_columns cs ds) (λ es. (names es ≡ names cs) × (length ds ≡ length cs))
united-named cs ds = by (length cs == length ds) refl (same_kinds cs ds)
  where
    by : (b : Bool) → (length cs == length ds) ≡ b → (c : Bool) → IfOk (if b then (if c then Ok (widened cs ds) else Err fault.TypeMismatch) else Err fault.Columns) (λ es. (names es ≡ names cs) × (length ds ≡ length cs))
    by true e true = let h = same-number (length cs) (length ds) e in (widened-named cs ds h, sym h)
    by true e false = tt
    by false e c = tt

as-many : (cs ds : List Column) → names cs ≡ names ds → length cs ≡ length ds
as-many cs ds h = sym (names-length cs) ∙ ap length h ∙ names-length ds

-- ---- operators

module _ (db : Tables) where
  other-columns : (r s : Relation) (rows : Rows) → s.query ≡ r.query → length s.columns ≡ length r.columns → Has db r rows → Has db s rows
  other-columns r s rows e l h = record {
    same = λ env. ap (λ (a : Query). answer a db env) e ∙ h.same env;
    wide = subst (λ (n : ℕ). Wide n rows) (sym l) h.wide;
  }

  fit-ok : (cs ds : List Column) (m : Named) (r : Relation) → Means db m r → IfOk (if_fit cs ds r) (Means db m)
  fit-ok cs ds m r h = by (common_fit cs ds)
    where
      by : (b : Bool) → IfOk (if b then Ok r else Err fault.TypeMismatch) (Means db m)
      by true = h
      by false = tt

  twice-ok : (o : Option Text) (m : Named) (r : Relation) → Means db m r → IfOk (unless_twice o r) (Means db m)
  twice-ok None m r h = h
  twice-ok (Some n) m r h = tt

  module _ (t u : Relation) (L R : Rows) (h : Has db t L) (k : Has db u R) where
    with-further : names (t.columns ++ further_columns u.columns t.columns) ≡ (answers.two op.Join (under t.columns L) (under u.columns R)).names
    with-further = names-append t.columns (further_columns u.columns t.columns) ∙ ap (λ (l : List Text). names t.columns ++ l) (names-further u.columns t.columns)

    cross-ok : IfOk (two op.Cross t u) (Means db (answers.two op.Cross (under t.columns L) (under u.columns R)))
    cross-ok = twice-ok (shared u.columns t.columns) _ (record { query = product t.query u.query; columns = t.columns ++ u.columns }) (record {
      named_so = names-append t.columns u.columns;
      has = record {
        same = λ env. answer-pairs db env t.query u.query ∙ ap₂ pairs (h.same env) (k.same env);
        wide = subst (λ (n : ℕ). Wide n (pairs L R)) (sym (length-of t.columns u.columns)) (wide-pairs (length t.columns) (length u.columns) L R h.wide k.wide);
      };
    })
      where
        length-of : (cs ds : List Column) → length (cs ++ ds) ≡ length cs + length ds
        length-of [] ds = omega arith
        length-of (c ∷ cs) ds = omega (arith, length-of cs ds)

    further-ok : (cs : List Column) → IfOk (if_further cs t u) (Means db (answers.two op.Divide (under t.columns L) (under u.columns R)))
    further-ok [] = tt
    further-ok (c ∷ cs) = fit-ok u.columns t.columns _ (quotient t u) (record { named_so = names-further t.columns u.columns; has = quotient-has db t u L R h k })

    divide-ok : (o : Option Text) → IfOk (unless_lacked o t u) (Means db (answers.two op.Divide (under t.columns L) (under u.columns R)))
    divide-ok None = further-ok (further_columns t.columns u.columns)
    divide-ok (Some n) = tt

    united-ok : (o : SetOp) (rows : Rows) → ((env : Env) → answer (combined o t.query u.query) db env ≡ rows) → (length u.columns ≡ length t.columns → Wide (length t.columns) rows)
        → IfOk (united o t u) (Means db (record { names = names t.columns; rows = rows }))
    united-ok o rows s w = then-ok (λ es. (names es ≡ names t.columns) × (length u.columns ≡ length t.columns)) (Means db (record { names = names t.columns; rows = rows })) (united_columns t.columns u.columns)
        (λ es. Ok (record { query = combined o t.query u.query; columns = es })) (united-named t.columns u.columns)
        (λ es e. record { named_so = e.0; has = record { same = s; wide = subst (λ (n : ℕ). Wide n rows) (sym (as-many es t.columns e.0)) (w e.1) } })

    two-under : (o : RaOp) → IfOk (two o t u) (Means db (answers.two o (under t.columns L) (under u.columns R)))
    two-under op.Cross = cross-ok
    two-under op.Join = fit-ok t.columns u.columns _ _ (record { named_so = with-further; has = joined-has db t u L R h k })
    two-under op.Semi = fit-ok t.columns u.columns _ _ (record { named_so = refl; has = semi-has db t u L R h k })
    two-under op.Anti = fit-ok t.columns u.columns _ _ (record { named_so = refl; has = anti-has db t u L R h k })
    two-under op.LeftJoin = fit-ok t.columns u.columns _ _ (record { named_so = with-further; has = filled-has db t u L R h k })
    two-under op.Divide = divide-ok (lacked u.columns t.columns)
    two-under op.Union = united-ok sets.Union (L ++ R) (λ env. answer-Union db env t.query u.query ∙ ap₂ (λ (y : Rows) (z : Rows). y ++ z) (h.same env) (k.same env))
        (λ e. wide-append (length t.columns) L R h.wide (subst (λ (n : ℕ). Wide n R) e k.wide))
    two-under op.Except = united-ok sets.Except (filter (λ r. not (has_row R r)) L)
        (λ env. answer-Except db env t.query u.query ∙ ap₂ (λ (ys : Rows) (xs : Rows). filter (λ r. not (has_row ys r)) xs) (k.same env) (h.same env)) (λ e. wide-filter (length t.columns) _ L h.wide)
    two-under op.Intersect = united-ok sets.Intersect (filter (has_row R) L)
        (λ env. answer-Intersect db env t.query u.query ∙ ap₂ (λ (ys : Rows) (xs : Rows). filter (has_row ys) xs) (k.same env) (h.same env)) (λ e. wide-filter (length t.columns) _ L h.wide)

  pub two-ok : (o : RaOp) (t u : Relation) (m n : Named) → Means db m t → Means db n u → IfOk (two o t u) (Means db (answers.two o m n))
  two-ok o t u m n h k =
      subst (λ (ms : List Text). IfOk (two o t u) (Means db (answers.two o (record { names = ms; rows = m.rows }) n))) h.named_so
      (subst (λ (ns : List Text). IfOk (two o t u) (Means db (answers.two o (under t.columns m.rows) (record { names = ns; rows = n.rows })))) k.named_so
      (two-under t u m.rows n.rows h.has k.has o))

  pub select-ok : (t : Relation) (ts : RaTests) (rows : Rows) → Has db t rows → IfOk (select t ts) (Means db (record { names = names t.columns; rows = filter (all_yes (names t.columns) (ts.head ∷ ts.tail)) rows }))
  select-ok t ts rows h = then-ok (λ cs. (r : List Value) (env : Env) → all_hold db cs (r ∷ env) ≡ all_yes (names t.columns) (ts.head ∷ ts.tail) r) (Means db _) (tests [] t.columns (ts.head ∷ ts.tail))
      (λ cs. Ok (record { query = selected t.query cs; columns = t.columns })) (tests-mean db [] t.columns (ts.head ∷ ts.tail))
      (λ cs s. record {
        named_so = refl;
        has = record {
          same = λ env. answer-selected db t.query cs env ∙ ap (filter (λ r. all_hold db cs (r ∷ env))) (h.same env) ∙ filter-same (λ r. all_hold db cs (r ∷ env)) (all_yes (names t.columns) (ts.head ∷ ts.tail)) rows (λ r. s r env);
          wide = wide-filter (length t.columns) (all_yes (names t.columns) (ts.head ∷ ts.tail)) rows h.wide;
        };
      })

  map-same : (f g : List Value → List Value) (rows : Rows) → ((r : List Value) → f r ≡ g r) → map f rows ≡ map g rows
  map-same f g rows h = ap (λ (f : List Value → List Value). map f rows) (fun_ext h)

  pub project-ok : (t : Relation) (ns : List Text) (rows : Rows) → Has db t rows → IfOk (project t ns) (Means db (record { names = ns; rows = map (cells (names t.columns) ns) rows }))
  project-ok t ns rows h = then-ok (λ cs. names cs ≡ ns) (Means db _) (picked [] ns t.columns)
      (λ cs. unless_twice (twice ns 0 ns) (record { query = q.Project t.query (placed ns t.columns); columns = cs })) (picked-named [] ns t.columns)
      (λ cs e. twice-ok (twice ns 0 ns) _ _ (record {
        named_so = e;
        has = record {
          same = λ env. answer-Project db env t.query (placed ns t.columns) ∙ ap (map (λ r. row_of (placed ns t.columns) (r ∷ env))) (h.same env)
              ∙ map-same (λ r. row_of (placed ns t.columns) (r ∷ env)) (cells (names t.columns) ns) rows (λ r. placed-row ns t.columns r env);
          wide = wide-map (length t.columns) (length cs) (cells (names t.columns) ns) rows (λ r l. cells-length (names t.columns) ns r ∙ ap length (sym e) ∙ names-length cs) h.wide;
        };
      }))

  pub rename-ok : (t : Relation) (ns : List Text) (rows : Rows) → Has db t rows → IfOk (rename t ns) (Means db (record { names = ns; rows = rows }))
  rename-ok t ns rows h = by (length ns == length t.columns) refl
    where
      by : (b : Bool) → (length ns == length t.columns) ≡ b
          → IfOk (if b then unless_twice (twice ns 0 ns) (record { query = t.query; columns = renamed ns t.columns }) else Err fault.Columns) (Means db (record { names = ns; rows = rows }))
      by true e =
          let l = same-number (length ns) (length t.columns) e in
          let so = renamed-named ns t.columns l in
          twice-ok (twice ns 0 ns) _ _ (record {
            named_so = so;
            has = other-columns t (record { query = t.query; columns = renamed ns t.columns }) rows refl (sym (names-length (renamed ns t.columns)) ∙ ap length so ∙ l) h;
          })
      by false e = tt

  -- ---- tables

  table-names : (cs : List TableColumn) → names (table_columns cs) ≡ map (λ c. c.name) cs
  table-names [] = refl
  table-names (c ∷ cs) = ap (λ (l : List Text). c.name ∷ l) (table-names cs)

  table-length : (cs : List TableColumn) → length (table_columns cs) ≡ length cs
  table-length [] = refl
  table-length (c ∷ cs) = ap suc (table-length cs)

  pub table-ok : (n : Text) (at : ℕ) (ts : List Table) → Fit db at ts → IfOk (table_named n at ts) (Means db (table_rows n at ts db))
  table-ok n at [] f = tt
  table-ok n at (t ∷ ts) f = by (table-ok n (at + 1) ts f.1) (bytes_eq t.name n)
    where
      by : IfOk (table_named n (at + 1) ts) (Means db (table_rows n (at + 1) ts db)) → (b : Bool) → IfOk (if b then Ok (record { query = q.Table at; columns = table_columns t.columns }) else table_named n (at + 1) ts)
          (Means db (if b then record { names = map (λ c. c.name) t.columns; rows = rows_at db at } else table_rows n (at + 1) ts db))
      by rest true = record {
        named_so = table-names t.columns;
        has = record { same = λ env. answer-Table db env at; wide = subst (λ (n : ℕ). Wide n (rows_at db at)) (sym (table-length t.columns)) f.0 };
      }
      by rest false = rest

-- where the operand means rows under names, in the form of the law
of-named : (db : Tables) (m : Named) (t : Relation) (f : Relation → Result Relation RaFault) (P : List Text → Relation → Type 0) → Means db m t → ((t : Relation) → Has db t m.rows → IfOk (f t) (P (names t.columns))) → IfOk (f t) (P m.names)
of-named db m t f P h k = subst (λ (ns : List Text). IfOk (f t) (P ns)) h.named_so (k t h.has)

pub select-keeps : (t : Relation) (ts : RaTests) → KeepsOne (λ m. answers.select m (ts.head ∷ ts.tail)) t (select t ts)
select-keeps t ts db m h = of-named db m t (λ t. select t ts) (λ ns. Means db (record { names = ns; rows = filter (all_yes ns (ts.head ∷ ts.tail)) m.rows })) h (λ t k. select-ok db t ts m.rows k)

pub project-keeps : (t : Relation) (ns : List Text) → KeepsOne (λ m. answers.project m ns) t (project t ns)
project-keeps t ns db m h = of-named db m t (λ t. project t ns) (λ ms. Means db (record { names = ns; rows = map (cells ms ns) m.rows })) h (λ t k. project-ok db t ns m.rows k)

pub rename-keeps : (t : Relation) (ns : List Text) → KeepsOne (λ m. answers.rename m ns) t (rename t ns)
rename-keeps t ns db m h = rename-ok db t ns m.rows h.has
