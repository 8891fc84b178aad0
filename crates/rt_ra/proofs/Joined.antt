-- Joins mean in the algebra what they mean on rows.
use Rattle.std.proofs.Common.{◌≡◌, ◌∙◌, ℕ, zero, suc, ◌+◌, ◌-◌, ◌<◌, Bool, true, false, not, cond, ◌||◌, List, [], ◌∷◌, ◌++◌, map, length, refl, sym, ap, ap₂, subst, arith, length-append}
use Rattle.std.specs.Prelude.{if◌then◌else◌, replicate, slice_index_or}
use Rattle.std.specs.List.{filter, flat_map, list_any}
use Rattle.std.proofs.lemmas.List.{append-nil, map-append}
use Rattle.rt_algebra.specs.Answer.{answer, is_yes, join_each, pairs, pred, some_truth}
use Rattle.rt_algebra.specs.Expression.{Env, row_of, value_of}
use Rattle.rt_algebra.specs.declared.expr.Expr.{Expr}
use Rattle.rt_algebra.specs.declared.expr.Expr.TheVariants as expr
use Rattle.rt_algebra.specs.declared.query.Pred.TheVariants as p
use Rattle.rt_schema.specs.Given.{Rows, Tables}
use Rattle.rt_value.specs.Truth.{truth_not}
use Rattle.rt_value.specs.declared.value.Value.{Value}
use Rattle.rt_value.specs.declared.value.Value.TheVariants as v
use Rattle.rt_ra.specs.OperatorAnswers.{Named, cells, further_cells, meets, met}
use Rattle.rt_ra.specs.OperatorAnswers as answers
use Rattle.rt_relation.specs.Columns.{Text, further_columns, further_names, has, names, place}
use Rattle.rt_ra.specs.OperatorMeaning.{Has, Wide}
use Rattle.rt_relation.specs.Operators.{anti, filled, further, joined, matched, matching, own, placed, product, semi}
use Rattle.rt_algebra.specs.Parts.{selected}
use Rattle.rt_relation.specs.declared.column.Column.{Column}
use Rattle.rt_relation.specs.declared.relation.Relation.{Relation}
use Rattle.rt_ra.proofs.ConditionLaws.{all_hold, answer-selected, index-at, long, matching-meets, shift}
use Rattle.rt_ra.proofs.Layers.{answer-Project, answer-Select, answer-Union, answer-pairs, pred-Exists, pred-Not, value-Col, value-Null}
use Rattle.rt_ra.proofs.Widths.{filter-wide, further-length, map-wide, names-further, names-length, wide-append, wide-each, wide-filter, wide-map}

-- rows under the names of the columns
abbrev pub under : List Column → Rows → Named
under cs rows = record { names = names cs; rows = rows }

index-left : (r s : List Value) (k : ℕ) → k < length r → slice_index_or (r ++ s) k v.Null ≡ slice_index_or r k v.Null
index-left [] s k h = absurd (omega arith)
index-left (x ∷ r) s zero h = refl
index-left (x ∷ r) s (suc k) h = index-left r s k (omega arith)

index-right : (r s : List Value) (w k : ℕ) → length r ≡ w → slice_index_or (r ++ s) (w + k) v.Null ≡ slice_index_or s k v.Null
index-right [] s zero k h = let e : 0 + k ≡ k = omega arith in ap (λ (k : ℕ). slice_index_or s k v.Null) e
index-right [] s (suc w) k h = absurd (omega arith)
index-right (x ∷ r) s zero k h = absurd (omega arith)
index-right (x ∷ r) s (suc w) k h =
    let e : suc w + k ≡ suc (w + k) = omega arith in
    ap (λ (k : ℕ). slice_index_or (x ∷ (r ++ s)) k v.Null) e ∙ index-right r s w k (omega arith)

-- ---- rows of columns

pub row-append : (es fs : List Expr) (env : Env) → row_of (es ++ fs) env ≡ row_of es env ++ row_of fs env
row-append [] fs env = refl
row-append (e ∷ es) fs env = ap (λ (r : List Value). value_of e env ∷ r) (row-append es fs env)

-- a row with its columns before others: these give the row
own-from : (at : ℕ) (cs : List Column) (front r s : List Value) (env : Env) → length front ≡ at → length r ≡ length cs → row_of (own at cs) ((front ++ (r ++ s)) ∷ env) ≡ r
own-from at [] front [] s env f l = refl
own-from at [] front (x ∷ r) s env f l = absurd (omega arith)
own-from at (c ∷ cs) front [] s env f l = absurd (omega arith)
own-from at (c ∷ cs) front (x ∷ r) s env f l =
    ap₂ (λ (y : Value) (z : List Value). y ∷ z) (value-Col ((front ++ (x ∷ (r ++ s))) ∷ env) 0 at ∙ index-at front x (r ++ s) at f)
    (ap (λ (row : List Value). row_of (own (at + 1) cs) (row ∷ env)) (shift front x (r ++ s)) ∙ own-from (at + 1) cs (front ++ x ∷ []) r s env (long front x at f) (omega (arith, l)))

pub own-row : (cs : List Column) (r s : List Value) (env : Env) → length r ≡ length cs → row_of (own 0 cs) ((r ++ s) ∷ env) ≡ r
own-row cs r s env l = own-from 0 cs [] r s env refl l

pub own-alone : (cs : List Column) (r : List Value) (env : Env) → length r ≡ length cs → row_of (own 0 cs) (r ∷ env) ≡ r
own-alone cs r env l = subst (λ (row : List Value). row_of (own 0 cs) (row ∷ env) ≡ r) (append-nil r) (own-row cs r [] env l)

further-from : (at : ℕ) (cs os : List Column) (front r : List Value) (env : Env) → length front ≡ at → length r ≡ length cs → row_of (further at cs os) ((front ++ r) ∷ env) ≡ further_cells (names cs) (names os) r
further-from at [] os front r env f l = refl
further-from at (c ∷ cs) os front [] env f l = absurd (omega arith)
further-from at (c ∷ cs) os front (x ∷ r) env f l = by (further-from (at + 1) cs os (front ++ x ∷ []) r env (long front x at f) (omega (arith, l))) (has c.name (names os))
  where
    here : value_of (expr.Col 0 at) ((front ++ x ∷ r) ∷ env) ≡ x
    here = value-Col ((front ++ x ∷ r) ∷ env) 0 at ∙ index-at front x r at f

    by : row_of (further (at + 1) cs os) (((front ++ x ∷ []) ++ r) ∷ env) ≡ further_cells (names cs) (names os) r → (b : Bool) → row_of (if b then further (at + 1) cs os else expr.Col 0 at ∷ further (at + 1) cs os) ((front ++ x ∷ r) ∷ env)
        ≡ (if b then further_cells (names cs) (names os) r else x ∷ further_cells (names cs) (names os) r)
    by rest true = ap (λ (row : List Value). row_of (further (at + 1) cs os) (row ∷ env)) (shift front x r) ∙ rest
    by rest false = ap₂ (λ (y : Value) (z : List Value). y ∷ z) here (ap (λ (row : List Value). row_of (further (at + 1) cs os) (row ∷ env)) (shift front x r) ∙ rest)

pub further-row : (cs os : List Column) (front r : List Value) (env : Env) → length r ≡ length cs → row_of (further (length front) cs os) ((front ++ r) ∷ env) ≡ further_cells (names cs) (names os) r
further-row cs os front r env l = further-from (length front) cs os front r env refl l

pub placed-row : (ns : List Text) (cs : List Column) (r : List Value) (env : Env) → row_of (placed ns cs) (r ∷ env) ≡ cells (names cs) ns r
placed-row [] cs r env = refl
placed-row (n ∷ ns) cs r env = ap₂ (λ (y : Value) (z : List Value). y ∷ z) (value-Col (r ∷ env) 0 (place n (names cs))) (placed-row ns cs r env)

nulls-row : (k : ℕ) (env : Env) → row_of (replicate k expr.Null) env ≡ replicate k v.Null
nulls-row zero env = refl
nulls-row (suc k) env = ap₂ (λ (y : Value) (z : List Value). y ∷ z) (value-Null env) (nulls-row k env)

less : (a b c : ℕ) → c ≡ a + b → c - a ≡ b
less a b c h = omega (arith, h)

-- ---- pairs

filter-append : (f : List Value → Bool) (xs ys : Rows) → filter f (xs ++ ys) ≡ filter f xs ++ filter f ys
filter-append f [] ys = refl
filter-append f (x ∷ xs) ys = by (filter-append f xs ys) (f x)
  where
    by : filter f (xs ++ ys) ≡ filter f xs ++ filter f ys → (b : Bool) → cond b (x ∷ filter f (xs ++ ys)) (filter f (xs ++ ys)) ≡ cond b (x ∷ filter f xs) (filter f xs) ++ filter f ys
    by rest true = ap (λ (rows : Rows). x ∷ rows) rest
    by rest false = rest

module _ (test : List Value → Bool) (made : List Value → List Value) (meet : List Value → List Value → Bool) (put : List Value → List Value → List Value) (m n : ℕ)
    (same_test : (r s : List Value) → length r ≡ m → length s ≡ n → test (r ++ s) ≡ meet r s) (same_made : (r s : List Value) → length r ≡ m → length s ≡ n → made (r ++ s) ≡ put r s) where
  each-joined : (r : List Value) (ys : Rows) → length r ≡ m → Wide n ys → map made (filter test (join_each r ys)) ≡ map (put r) (filter (meet r) ys)
  each-joined r [] l w = refl
  each-joined r (s ∷ ss) l w = ap (λ b. map made (cond b ((r ++ s) ∷ filter test (join_each r ss)) (filter test (join_each r ss)))) (same_test r s l w.0) ∙ by (each-joined r ss l w.1) (meet r s)
    where
      by : map made (filter test (join_each r ss)) ≡ map (put r) (filter (meet r) ss) → (b : Bool) → map made (cond b ((r ++ s) ∷ filter test (join_each r ss)) (filter test (join_each r ss))) ≡ map (put r) (cond b (s ∷ filter (meet r) ss) (filter (meet r) ss))
      by rest true = ap₂ (λ (y : List Value) (z : Rows). y ∷ z) (same_made r s l w.0) rest
      by rest false = rest

  -- the pairs that pass, row by row
  pub pairs-joined : (xs ys : Rows) → Wide m xs → Wide n ys → map made (filter test (pairs xs ys)) ≡ flat_map (λ r. map (put r) (filter (meet r) ys)) xs
  pairs-joined [] ys v w = refl
  pairs-joined (r ∷ rs) ys v w =
      ap (map made) (filter-append test (join_each r ys) (pairs rs ys)) ∙ map-append made (filter test (join_each r ys)) (filter test (pairs rs ys))
      ∙ ap₂ (λ (y : Rows) (z : Rows). y ++ z) (each-joined r ys v.0 w) (pairs-joined rs ys v.1 w)

some-any : (f : List Value → Bool) (rows : Rows) → is_yes (some_truth (filter f rows)) ≡ list_any f rows
some-any f [] = refl
some-any f (r ∷ rs) = by (some-any f rs) (f r)
  where
    by : is_yes (some_truth (filter f rs)) ≡ list_any f rs → (b : Bool) → is_yes (some_truth (cond b (r ∷ filter f rs) (filter f rs))) ≡ (b || list_any f rs)
    by rest true = refl
    by rest false = rest

not-some : (rows : Rows) → is_yes (truth_not (some_truth rows)) ≡ not (is_yes (some_truth rows))
not-some [] = refl
not-some (r ∷ rs) = refl

any-wide : (n : ℕ) (f g : List Value → Bool) (rows : Rows) → ((s : List Value) → length s ≡ n → f s ≡ g s) → Wide n rows → list_any f rows ≡ list_any g rows
any-wide n f g [] h w = refl
any-wide n f g (s ∷ ss) h w = ap₂ ◌||◌ (h s w.0) (any-wide n f g ss h w.1)

module _ (db : Tables) where
  module _ (t u : Relation) (L R : Rows) (h : Has db t L) (k : Has db u R) where
    -- ---- the join

    pair-meets : (env : Env) (r s : List Value) → length r ≡ length t.columns → length s ≡ length u.columns
        → all_hold db (matching 0 (length t.columns) 0 t.columns u.columns) ((r ++ s) ∷ env) ≡ meets (names t.columns) (names u.columns) r s
    pair-meets env r s l m = matching-meets db 0 (length t.columns) t.columns u.columns r s ((r ++ s) ∷ env) (sym l) ((λ i b. index-left r s i b), (λ i. index-right r s (length t.columns) i l))

    pair-made : (env : Env) (r s : List Value) → length r ≡ length t.columns → length s ≡ length u.columns
        → row_of (own 0 t.columns ++ further (length t.columns) u.columns t.columns) ((r ++ s) ∷ env) ≡ r ++ further_cells (names u.columns) (names t.columns) s
    pair-made env r s l m =
        row-append (own 0 t.columns) (further (length t.columns) u.columns t.columns) ((r ++ s) ∷ env)
        ∙ ap₂ (λ (y : List Value) (z : List Value). y ++ z) (own-row t.columns r s env l)
        (ap (λ (w : ℕ). row_of (further w u.columns t.columns) ((r ++ s) ∷ env)) (sym l) ∙ further-row u.columns t.columns r s env m)

    joined-same : (env : Env) → answer (joined t u).query db env ≡ answers.joined (under t.columns L) (under u.columns R)
    joined-same env =
        let conds = matching 0 (length t.columns) 0 t.columns u.columns in
        let items = own 0 t.columns ++ further (length t.columns) u.columns t.columns in
        answer-Project db env (selected (product t.query u.query) conds) items
        ∙ ap (map (λ r. row_of items (r ∷ env))) (answer-selected db (product t.query u.query) conds env
        ∙ ap (filter (λ r. all_hold db conds (r ∷ env))) (answer-pairs db env t.query u.query ∙ ap₂ pairs (h.same env) (k.same env)))
        ∙ pairs-joined (λ r. all_hold db conds (r ∷ env)) (λ r. row_of items (r ∷ env)) (meets (names t.columns) (names u.columns)) (λ r s. r ++ further_cells (names u.columns) (names t.columns) s)
        (length t.columns) (length u.columns) (pair-meets env) (pair-made env) L R h.wide k.wide

    put-length : (r s : List Value) → length r ≡ length t.columns → length s ≡ length u.columns → length (r ++ further_cells (names u.columns) (names t.columns) s) ≡ length (t.columns ++ further_columns u.columns t.columns)
    put-length r s l m = omega (arith, length-append r (further_cells (names u.columns) (names t.columns) s), length-append t.columns (further_columns u.columns t.columns), l, further-length u.columns t.columns s m)

    joined-wide : Wide (length (joined t u).columns) (answers.joined (under t.columns L) (under u.columns R))
    joined-wide = wide-each (length t.columns) (length (joined t u).columns) (λ r. map (λ s. r ++ further_cells (names u.columns) (names t.columns) s) (filter (meets (names t.columns) (names u.columns) r) R)) L
        (λ r l. wide-map (length u.columns) (length (joined t u).columns) (λ s. r ++ further_cells (names u.columns) (names t.columns) s) (filter (meets (names t.columns) (names u.columns) r) R)
        (λ s m. put-length r s l m) (wide-filter (length u.columns) (meets (names t.columns) (names u.columns) r) R k.wide)) h.wide

    pub joined-has : Has db (joined t u) (answers.joined (under t.columns L) (under u.columns R))
    joined-has = record { same = joined-same; wide = joined-wide }

    -- ---- rows with and without a match

    outer-meets : (env : Env) (r s : List Value) → length r ≡ length t.columns → length s ≡ length u.columns
        → all_hold db (matching 1 0 0 t.columns u.columns) (s ∷ (r ∷ env)) ≡ meets (names t.columns) (names u.columns) r s
    outer-meets env r s l m = matching-meets db 1 0 t.columns u.columns r s (s ∷ (r ∷ env)) (sym l)
        ((λ i b. refl), (λ i. let e : 0 + i ≡ i = omega arith in ap (λ (i : ℕ). slice_index_or s i v.Null) e))

    abbrev matched-rows : Env → List Value → Rows
    matched-rows env r = answer (selected u.query (matching 1 0 0 t.columns u.columns)) db (r ∷ env)

    matched-met : (env : Env) (r : List Value) → length r ≡ length t.columns → is_yes (some_truth (matched-rows env r)) ≡ met (under t.columns L) (under u.columns R) r
    matched-met env r l =
        let conds = matching 1 0 0 t.columns u.columns in
        ap (λ (rows : Rows). is_yes (some_truth rows)) (answer-selected db u.query conds (r ∷ env) ∙ ap (filter (λ s. all_hold db conds (s ∷ (r ∷ env)))) (k.same (r ∷ env)))
        ∙ some-any (λ s. all_hold db conds (s ∷ (r ∷ env))) R
        ∙ any-wide (length u.columns) (λ s. all_hold db conds (s ∷ (r ∷ env))) (meets (names t.columns) (names u.columns) r) R (λ s m. outer-meets env r s l m) k.wide

    pub semi-has : Has db (semi t u) (answers.semi (under t.columns L) (under u.columns R))
    semi-has = record {
      same = λ env.
          answer-Select db env t.query (matched t.columns u) ∙ ap (filter (λ r. is_yes (pred (matched t.columns u) db (r ∷ env)))) (h.same env)
          ∙ filter-wide (length t.columns) (λ r. is_yes (pred (matched t.columns u) db (r ∷ env))) (met (under t.columns L) (under u.columns R)) L
          (λ r l. ap is_yes (pred-Exists db (r ∷ env) (selected u.query (matching 1 0 0 t.columns u.columns))) ∙ matched-met env r l) h.wide;
      wide = wide-filter (length t.columns) (met (under t.columns L) (under u.columns R)) L h.wide;
    }

    anti-same : (env : Env) → answer (anti t u).query db env ≡ answers.anti (under t.columns L) (under u.columns R)
    anti-same env =
        let c = matched t.columns u in
        answer-Select db env t.query _ ∙ ap (filter (λ r. is_yes (pred (p.Not c) db (r ∷ env)))) (h.same env)
        ∙ filter-wide (length t.columns) _ (λ r. not (met (under t.columns L) (under u.columns R) r)) L
        (λ r l. ap is_yes (pred-Not db (r ∷ env) c ∙ ap truth_not (pred-Exists db (r ∷ env) (selected u.query (matching 1 0 0 t.columns u.columns)))) ∙ not-some (matched-rows env r) ∙ ap not (matched-met env r l)) h.wide

    pub anti-has : Has db (anti t u) (answers.anti (under t.columns L) (under u.columns R))
    anti-has = record { same = anti-same; wide = wide-filter (length t.columns) (λ r. not (met (under t.columns L) (under u.columns R) r)) L h.wide }

    -- ---- the left join

    abbrev fill : ℕ
    fill = length (further_names (names u.columns) (names t.columns))

    fill-is : length (joined t u).columns - length (anti t u).columns ≡ fill
    fill-is = less (length t.columns) (length (further_columns u.columns t.columns)) (length (t.columns ++ further_columns u.columns t.columns)) (length-append t.columns (further_columns u.columns t.columns))
        ∙ sym (names-length (further_columns u.columns t.columns)) ∙ ap length (names-further u.columns t.columns)

    filled-row : (env : Env) (r : List Value) → length r ≡ length t.columns
        → row_of (own 0 (anti t u).columns ++ replicate (length (joined t u).columns - length (anti t u).columns) expr.Null) (r ∷ env) ≡ r ++ replicate fill v.Null
    filled-row env r l =
        row-append (own 0 t.columns) (replicate (length (joined t u).columns - length (anti t u).columns) expr.Null) (r ∷ env)
        ∙ ap₂ (λ (y : List Value) (z : List Value). y ++ z) (own-alone t.columns r env l)
        (ap (λ (n : ℕ). row_of (replicate n expr.Null) (r ∷ env)) fill-is ∙ nulls-row fill (r ∷ env))

    replicate-length : (n : ℕ) → length (replicate n v.Null) ≡ n
    replicate-length zero = refl
    replicate-length (suc n) = ap suc (replicate-length n)

    pub filled-has : Has db (filled (joined t u) (anti t u)) (answers.joined (under t.columns L) (under u.columns R) ++ answers.filled (under t.columns L) (under u.columns R))
    filled-has = record {
      same = λ env.
          answer-Union db env (joined t u).query _
          ∙ ap₂ (λ (y : Rows) (z : Rows). y ++ z) (joined-same env)
          (answer-Project db env (anti t u).query _ ∙ ap (map (λ r. row_of (own 0 (anti t u).columns ++ replicate (length (joined t u).columns - length (anti t u).columns) expr.Null) (r ∷ env))) (anti-same env)
          ∙ map-wide (length t.columns) _ (λ r. r ++ replicate fill v.Null) (answers.anti (under t.columns L) (under u.columns R)) (filled-row env) anti-has.wide);
      wide = wide-append (length (joined t u).columns) (answers.joined (under t.columns L) (under u.columns R)) (answers.filled (under t.columns L) (under u.columns R)) joined-wide
          (wide-map (length t.columns) (length (joined t u).columns) (λ r. r ++ replicate fill v.Null) (answers.anti (under t.columns L) (under u.columns R))
          (λ r l. omega (arith, length-append r (replicate fill v.Null), replicate-length fill, l, length-append t.columns (further_columns u.columns t.columns), names-length (further_columns u.columns t.columns), ap length (names-further u.columns t.columns))) anti-has.wide);
    }
