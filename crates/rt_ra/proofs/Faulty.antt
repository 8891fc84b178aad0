-- A text's lowering has no error but those of the walk, by induction over the tree.
use Rattle.std.proofs.Common.{◌≡◌, ℕ, ◌+◌, Bool, true, false, List, [], ◌∷◌, ◌++◌, length, Option, Some, None, Result, Ok, Err, sym, subst, slice_get, ◌==◌}
use Rattle.std.specs.Prelude.{IfErr, bytes_eq, if◌then◌else◌}
use Rattle.rt_algebra.specs.declared.expr.Expr.TheVariants as expr
use Rattle.rt_algebra.specs.declared.query.Pred.{Pred}
use Rattle.rt_algebra.specs.declared.query.Pred.TheVariants as p
use Rattle.rt_algebra.specs.Parts.{combined, selected}
use Rattle.rt_algebra.specs.declared.set_op.SetOp.{SetOp}
use Rattle.rt_algebra.specs.declared.set_op.SetOp.TheVariants as sets
use Rattle.rt_algebra.specs.declared.query.Query.TheVariants as query
use Rattle.rt_algebra.specs.declared.typed.Typed.{Typed}
use Rattle.rt_relation.specs.Columns.{Text, column_at, common_fit, further_columns, if_fit, known, lacked, names, picked, place, renamed, same_kinds, shared, texts, twice, united_columns, unless_twice, widened}
use Rattle.rt_relation.specs.Fault.{◌>>=◌}
use Rattle.rt_relation.specs.Operators.{anti, filled, if_further, joined, placed, product, quotient, semi, two, typed_of, united, unless_lacked}
use Rattle.rt_ra.specs.Unary.{project, rename, select, table_columns, table_named}
use Rattle.rt_ra.specs.Conditions.{column_scalar, compared, negated, side, test, tests}
use Rattle.rt_relation.specs.declared.column.Column.{Column}
use Rattle.rt_relation.specs.declared.relation.Relation.{Relation}
use Rattle.rt_ra.specs.declared.scalar.Scalar.{Scalar}
use Rattle.rt_ra.specs.Faults.{IsWalkFault}
use Rattle.rt_ra.specs.Lowered.{Lowering, ra_lowered, relation}
use Rattle.rt_ra.specs.Lowered as lowered
use Rattle.rt_ra_tree.specs.Refusals.{is_memory}
use Rattle.rt_ra_tree.specs.declared.fault.RaFault.{RaFault}
use Rattle.rt_ra_tree.specs.declared.fault.RaFault.TheVariants as fault
use Rattle.rt_ra_tree.specs.declared.tree.Ra.{Ra}
use Rattle.rt_ra_tree.specs.declared.tree.Ra.TheFolds.{fold-roll-Ra, ind-Ra, map-Ra}
use Rattle.rt_ra_tree.specs.declared.tree.Ra.TheOpen as open_
use Rattle.rt_ra_tree.specs.declared.tree.Ra.TheViews.{roll-Ra}
use Rattle.rt_ra_tree.specs.declared.tree.RaOp.{RaOp}
use Rattle.rt_ra_tree.specs.declared.tree.RaOp.TheVariants as op
use Rattle.rt_ra_tree.specs.declared.tree.RaSide.{RaSide}
use Rattle.rt_ra_tree.specs.declared.tree.RaSide.TheVariants as side_
use Rattle.rt_ra_tree.specs.declared.tree.RaTest.{RaTest}
use Rattle.rt_ra_tree.specs.declared.tree.RaTest.TheVariants as test_
use Rattle.rt_ra_tree.specs.declared.tree.RaTests.{RaTests}
use Rattle.rt_ra_tree.specs.declared.tree.RaText.{RaText}
use Rattle.rt_schema.specs.Schema.{kind_eq}
use Rattle.rt_schema.specs.declared.table.Table.{Table}
use Rattle.rt_value.specs.Gives.{Gives}
use Rattle.rt_value.specs.declared.value.Op.{Op}

abbrev Walks : {A : Type 0} → Result A RaFault → Type 0
Walks m = IfErr m IsWalkFault

then-walks : {A B : Type 0} (m : Result A RaFault) (f : A → Result B RaFault) → Walks m → ((x : A) → Walks (f x)) → Walks (m >>= f)
then-walks (Ok x) f h k = k x
then-walks (Err e) f h k = h

-- ---- columns

known-walks : (n : Text) (o : Option Column) → Walks (known n o)
known-walks n None = tt
known-walks n (Some c) = tt

picked-walks : (all : List Column) (ns : List Text) (cs : List Column) → Walks (picked all ns cs)
picked-walks all [] cs = tt
picked-walks all (n ∷ ns) cs = then-walks (column_at n cs) (λ c. picked (all ++ c ∷ []) ns cs) (known-walks n (slice_get cs (place n (names cs)))) (λ c. picked-walks (all ++ c ∷ []) ns cs)

twice-walks : (o : Option Text) (r : Relation) → Walks (unless_twice o r)
twice-walks None r = tt
twice-walks (Some n) r = tt

fit-walks : (cs ds : List Column) (r : Relation) → Walks (if_fit cs ds r)
fit-walks cs ds r = by (common_fit cs ds)
  where
    by : (b : Bool) → Walks (if b then Ok r else Err fault.TypeMismatch)
    by true = tt
    by false = tt

united-walks : (cs ds : List Column) → Walks (united_columns cs ds)
united-walks cs ds = by (length cs == length ds) (same_kinds cs ds)
  where
    by : (b c : Bool) → Walks (if b then (if c then Ok (widened cs ds) else Err fault.TypeMismatch) else Err fault.Columns)
    by true true = tt
    by true false = tt
    by false c = tt

-- ---- tests

side-walks : (cs : List Column) (s : RaSide) → Walks (side cs s)
side-walks cs (side_.Col n) = then-walks (column_at n.text cs) (λ c. Ok (column_scalar (place n.text (names cs)) c)) (known-walks n.text (slice_get cs (place n.text (names cs)))) (λ c. tt)
side-walks cs (side_.Number m n) = tt
side-walks cs (side_.Str t) = tt

compared-walks : (o : Op) (x y : Scalar) → Walks (compared o x y)
compared-walks o x y = by (kind_eq x.kind y.kind)
  where
    by : (b : Bool) → Walks (if b then Ok (p.Cmp o x.expr y.expr) else Err fault.TypeMismatch)
    by true = tt
    by false = tt

test-walks : (cs : List Column) (t : RaTest) → Walks (test cs t)
test-walks cs (test_.Cmp o a b) = then-walks (side cs a) (λ x. side cs b >>= λ y. compared o x y) (side-walks cs a) (λ x. then-walks (side cs b) (λ y. compared o x y) (side-walks cs b) (λ y. compared-walks o x y))
test-walks cs (test_.IsNull n b) = then-walks (column_at n.text cs) (λ c. Ok (negated b (p.IsNull (expr.Col 0 (place n.text (names cs)))))) (known-walks n.text (slice_get cs (place n.text (names cs)))) (λ c. tt)

tests-walk : (all : List Pred) (cs : List Column) (ts : List RaTest) → Walks (tests all cs ts)
tests-walk all cs [] = tt
tests-walk all cs (t ∷ ts) = then-walks (test cs t) (λ c. tests (all ++ c ∷ []) cs ts) (test-walks cs t) (λ c. tests-walk (all ++ c ∷ []) cs ts)

-- ---- operators

table-walks : (n : Text) (at : ℕ) (ts : List Table) → Walks (table_named n at ts)
table-walks n at [] = tt
table-walks n at (t ∷ ts) = by (table-walks n (at + 1) ts) (bytes_eq t.name n)
  where
    by : Walks (table_named n (at + 1) ts) → (b : Bool) → Walks (if b then Ok (record { query = query.Table at; columns = table_columns t.columns }) else table_named n (at + 1) ts)
    by rest true = tt
    by rest false = rest

select-walks : (t : Relation) (ts : RaTests) → Walks (select t ts)
select-walks t ts = then-walks (tests [] t.columns (ts.head ∷ ts.tail)) (λ cs. Ok (record { query = selected t.query cs; columns = t.columns })) (tests-walk [] t.columns (ts.head ∷ ts.tail)) (λ cs. tt)

project-walks : (t : Relation) (ns : List Text) → Walks (project t ns)
project-walks t ns = then-walks (picked [] ns t.columns) (λ cs. unless_twice (twice ns 0 ns) (record { query = query.Project t.query (placed ns t.columns); columns = cs })) (picked-walks [] ns t.columns) (λ cs. twice-walks (twice ns 0 ns) _)

rename-walks : (t : Relation) (ns : List Text) → Walks (rename t ns)
rename-walks t ns = by (length ns == length t.columns)
  where
    by : (b : Bool) → Walks {A = Relation} (if b then unless_twice (twice ns 0 ns) (record { query = t.query; columns = renamed ns t.columns }) else Err fault.Columns)
    by true = twice-walks (twice ns 0 ns) _
    by false = tt

further-walks : (cs : List Column) (t u : Relation) → Walks (if_further cs t u)
further-walks [] t u = tt
further-walks (c ∷ cs) t u = fit-walks u.columns t.columns (quotient t u)

divide-walks : (o : Option Text) (t u : Relation) → Walks (unless_lacked o t u)
divide-walks None t u = further-walks (further_columns t.columns u.columns) t u
divide-walks (Some n) t u = tt

set-walks : (o : SetOp) (t u : Relation) → Walks (united o t u)
set-walks o t u = then-walks (united_columns t.columns u.columns) (λ cs. Ok (record { query = combined o t.query u.query; columns = cs })) (united-walks t.columns u.columns) (λ cs. tt)

two-walks : (o : RaOp) (t u : Relation) → Walks (two o t u)
two-walks op.Cross t u = twice-walks (shared u.columns t.columns) (record { query = product t.query u.query; columns = t.columns ++ u.columns })
two-walks op.Join t u = fit-walks t.columns u.columns (joined t u)
two-walks op.Semi t u = fit-walks t.columns u.columns (semi t u)
two-walks op.Anti t u = fit-walks t.columns u.columns (anti t u)
two-walks op.LeftJoin t u = fit-walks t.columns u.columns (filled (joined t u) (anti t u))
two-walks op.Divide t u = divide-walks (lacked u.columns t.columns) t u
two-walks op.Union t u = set-walks sets.Union t u
two-walks op.Except t u = set-walks sets.Except t u
two-walks op.Intersect t u = set-walks sets.Intersect t u

-- ---- the induction

module _ (db : List Table) where
  abbrev RaLaw : Ra → Type 0
  RaLaw a = Walks (relation a db)

  abbrev Such : Type 0
  Such = (a : Ra) × RaLaw a

  abbrev inner : open_.Ra-F Such → open_.Ra-F Ra
  inner y = map-Ra Such Ra (λ t. t.0) y

  ra-layer : (y : open_.Ra-F Such) → Walks (lowered.ra_step (map-Ra Ra Lowering relation (inner y)) db)
  ra-layer (open_.Table n) = table-walks n.text 0 db
  ra-layer (open_.Select a ts) = then-walks (relation a.0 db) (λ t. select t ts) a.1 (λ t. select-walks t ts)
  ra-layer (open_.Project a ns) = then-walks (relation a.0 db) (λ t. project t (texts ns)) a.1 (λ t. project-walks t (texts ns))
  ra-layer (open_.Rename a ns) = then-walks (relation a.0 db) (λ t. rename t (texts ns)) a.1 (λ t. rename-walks t (texts ns))
  ra-layer (open_.Two o a b) = then-walks (relation a.0 db) (λ t. relation b.0 db >>= λ u. two o t u) a.1 (λ t. then-walks (relation b.0 db) (λ u. two o t u) b.1 (λ u. two-walks o t u))

  ra-rolls : (x : open_.Ra-F Ra) → Walks (lowered.ra_step (map-Ra Ra Lowering relation x) db) → RaLaw (roll-Ra x)
  ra-rolls x h = subst (λ (g : Lowering). Walks (g db)) (sym (fold-roll-Ra Lowering lowered.ra_step x)) h

  ra-walks : (a : Ra) → RaLaw a
  ra-walks = ind-Ra RaLaw (λ x y is. subst (λ z. RaLaw (roll-Ra z)) is (ra-rolls (inner y) (ra-layer y)))

lowered-walks : (text : RaText) (db : List Table) → Walks (ra_lowered text db)
lowered-walks text db = then-walks (relation text.of db) (λ r. Ok (typed_of r)) (ra-walks db text.of) (λ r. tt)

pub given-walks : (text : RaText) (db : List Table) (r : Result Typed RaFault) → Gives is_memory r (ra_lowered text db) → Walks r
given-walks text db (Ok q) g = tt
given-walks text db (Err e) g = by e g
  where
    same : (e : RaFault) → ra_lowered text db ≡ Err e → IsWalkFault e
    same e h = subst (λ (m : Result Typed RaFault). Walks m) h (lowered-walks text db)

    by : (e : RaFault) → Gives is_memory (Err e) (ra_lowered text db) → IsWalkFault e
    by fault.NoMemory g = tt
    by (fault.Lex f) g = same (fault.Lex f) g
    by fault.TooDeep g = same fault.TooDeep g
    by (fault.Syntax at) g = same (fault.Syntax at) g
    by (fault.UnknownTable n) g = tt
    by (fault.UnknownColumn n) g = tt
    by (fault.DuplicateColumn n) g = tt
    by fault.TypeMismatch g = tt
    by fault.Columns g = tt
