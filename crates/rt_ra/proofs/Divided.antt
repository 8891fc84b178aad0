-- Division means in the algebra what it means on rows.
use Rattle.std.proofs.Common.{◌≡◌, ◌∙◌, ℕ, Bool, true, false, not, cond, ◌&&◌, ◌||◌, List, [], ◌∷◌, ◌++◌, map, length, refl, sym, ap, ap₂, subst, arith}
use Rattle.std.specs.List.{filter, flat_map, list_all, list_any}
use Rattle.std.proofs.lemmas.Bool.Decides.{Decides-int_eq}
use Rattle.std.proofs.lemmas.Slice.Eq.{bytes_eq-Decides}
use Rattle.rt_algebra.specs.Answer.{answer, has_row, pairs}
use Rattle.rt_algebra.specs.Expression.{Env, row_of}
use Rattle.rt_schema.specs.Given.{Rows, Tables}
use Rattle.rt_value.specs.Order.{row_eq_equiv}
use Rattle.rt_value.specs.Row.{row_eq}
use Rattle.rt_value.specs.Value.{value_eq}
use Rattle.rt_value.specs.declared.value.Value.{Value}
use Rattle.rt_value.specs.declared.value.Value.TheVariants as v
use Rattle.rt_ra.specs.OperatorAnswers.{cells, divided, further_cells, paired}
use Rattle.rt_relation.specs.Columns.{further_columns, names}
use Rattle.rt_ra.specs.OperatorMeaning.{Has, Wide}
use Rattle.rt_relation.specs.Operators.{further, missing, own, pairs_of, placed, product, quotient, rest_of}
use Rattle.rt_relation.specs.declared.relation.Relation.{Relation}
use Rattle.rt_ra.proofs.ConditionLaws.{and-assoc}
use Rattle.rt_ra.proofs.Joined.{further-row, own-row, pairs-joined, placed-row, row-append, under}
use Rattle.rt_ra.proofs.Layers.{answer-Except, answer-Project, answer-pairs}
use Rattle.rt_ra.proofs.Widths.{further-length, map-wide, wide-filter, wide-map}

-- ---- sameness of rows

value-is : (a b : Value) → value_eq a b ≡ true → a ≡ b
value-is v.Null v.Null e = refl
value-is v.Null (v.Int n) e = cc e
value-is v.Null (v.Text t) e = cc e
value-is (v.Int n) v.Null e = cc e
value-is (v.Int n) (v.Int m) e = ap (λ n. v.Int n) ((Decides-int_eq n m).0 e)
value-is (v.Int n) (v.Text t) e = cc e
value-is (v.Text t) v.Null e = cc e
value-is (v.Text t) (v.Int n) e = cc e
value-is (v.Text s) (v.Text t) e = ap (λ s. v.Text s) ((bytes_eq-Decides s t).0 e)

both : (a b : Bool) → (a && b) ≡ true → (a ≡ true) × (b ≡ true)
both true b e = (refl, e)
both false b e = cc e

pub row-is : (r s : List Value) → row_eq r s ≡ true → r ≡ s
row-is [] [] e = refl
row-is [] (y ∷ s) e = cc e
row-is (x ∷ r) [] e = cc e
row-is (x ∷ r) (y ∷ s) e = let b = both (value_eq x y) (row_eq r s) e in ap₂ (λ (z : Value) (t : List Value). z ∷ t) (value-is x y b.0) (row-is r s b.1)

row-append-same : (x a y b : List Value) → length x ≡ length a → row_eq (x ++ y) (a ++ b) ≡ (row_eq x a && row_eq y b)
row-append-same [] [] y b h = refl
row-append-same [] (w ∷ a) y b h = absurd (omega arith)
row-append-same (z ∷ x) [] y b h = absurd (omega arith)
row-append-same (z ∷ x) (w ∷ a) y b h = ap (λ e. value_eq z w && e) (row-append-same x a y b (omega (arith, h))) ∙ sym (and-assoc (value_eq z w) (row_eq x a) (row_eq y b))

-- ---- membership

abbrev AllIn : Rows → Rows → Type 0
AllIn all [] = Unit {0}
AllIn all (x ∷ xs) = (has_row all x ≡ true) × AllIn all xs

or-true : (b : Bool) → (b || true) ≡ true
or-true true = refl
or-true false = refl

in-middle : (front : Rows) (x : List Value) (xs : Rows) → has_row (front ++ x ∷ xs) x ≡ true
in-middle [] x xs = ap (λ b. b || has_row xs x) (row_eq_equiv.refl x)
in-middle (y ∷ front) x xs = ap (λ b. row_eq x y || b) (in-middle front x xs) ∙ or-true (row_eq x y)

shift-rows : (front : Rows) (x : List Value) (xs : Rows) → front ++ x ∷ xs ≡ (front ++ x ∷ []) ++ xs
shift-rows [] x xs = refl
shift-rows (y ∷ front) x xs = ap (λ (l : Rows). y ∷ l) (shift-rows front x xs)

all-in : (front xs : Rows) → AllIn (front ++ xs) xs
all-in front [] = tt
all-in front (x ∷ xs) = (in-middle front x xs, subst (λ (l : Rows). AllIn l xs) (sym (shift-rows front x xs)) (all-in (front ++ x ∷ []) xs))

filter-among : (n : ℕ) (f g : List Value → Bool) (all xs : Rows) → ((x : List Value) → length x ≡ n → has_row all x ≡ true → f x ≡ g x) → Wide n xs → AllIn all xs → filter f xs ≡ filter g xs
filter-among n f g all [] h w i = refl
filter-among n f g all (x ∷ xs) h w i = ap₂ (λ (b : Bool) (rest : Rows). cond b (x ∷ rest) rest) (h x w.0 i.0) (filter-among n f g all xs h w.1 i.1)

any-append : (f : List Value → Bool) (xs ys : Rows) → list_any f (xs ++ ys) ≡ (list_any f xs || list_any f ys)
any-append f [] ys = refl
any-append f (x ∷ xs) ys = by (any-append f xs ys) (f x)
  where
    by : list_any f (xs ++ ys) ≡ (list_any f xs || list_any f ys) → (b : Bool) → (b || list_any f (xs ++ ys)) ≡ ((b || list_any f xs) || list_any f ys)
    by rest true = refl
    by rest false = rest

-- ---- the rows that are missing

-- a row, once for each row of the divisor that it is not with
once : (c : List Value → Bool) (z x : List Value) (ys : Rows) → has_row (map (λ s. z) (filter (λ y. not (c y)) ys)) x ≡ (row_eq x z && list_any (λ y. not (c y)) ys)
once c z x [] = and-false (row_eq x z)
  where
    and-false : (b : Bool) → false ≡ (b && false)
    and-false true = refl
    and-false false = refl
once c z x (y ∷ ys) = by (once c z x ys) (not (c y))
  where
    absorb : (a b : Bool) → (a || (a && b)) ≡ (a && true)
    absorb true b = refl
    absorb false b = refl

    by : has_row (map (λ s. z) (filter (λ y. not (c y)) ys)) x ≡ (row_eq x z && list_any (λ y. not (c y)) ys) → (b : Bool) → has_row (map (λ s. z) (cond b (y ∷ filter (λ y. not (c y)) ys) (filter (λ y. not (c y)) ys))) x ≡ (row_eq x z && (b || list_any (λ y. not (c y)) ys))
    by rest true = ap (λ b. row_eq x z || b) rest ∙ absorb (row_eq x z) (list_any (λ y. not (c y)) ys)
    by rest false = rest

-- what holds of an equal row holds of the row
same-test : (f : List Value → Bool) (x z : List Value) → (row_eq x z && f z) ≡ (row_eq x z && f x)
same-test f x z = by (row_eq x z) refl
  where
    by : (b : Bool) → row_eq x z ≡ b → (b && f z) ≡ (b && f x)
    by true e = ap f (sym (row-is x z e))
    by false e = refl

spread : (a b n : Bool) → ((a && n) || (b && n)) ≡ ((a || b) && n)
spread true true true = refl
spread true true false = refl
spread true false true = refl
spread true false false = refl
spread false b n = refl

module _ (c : List Value → List Value → Bool) (R : Rows) where
  abbrev lacks : List Value → Bool
  lacks x = list_any (λ y. not (c x y)) R

  missing-has : (xs : Rows) (x : List Value) → has_row (flat_map (λ z. map (λ s. z) (filter (λ y. not (c z y)) R)) xs) x ≡ (has_row xs x && lacks x)
  missing-has [] x = refl
  missing-has (z ∷ zs) x =
      any-append (row_eq x) (map (λ s. z) (filter (λ y. not (c z y)) R)) (flat_map (λ z. map (λ s. z) (filter (λ y. not (c z y)) R)) zs)
      ∙ ap₂ ◌||◌ (once (c z) z x R ∙ same-test lacks x z) (missing-has zs x) ∙ spread (row_eq x z) (has_row zs x) (lacks x)

not-any : (f g : List Value → Bool) (ys : Rows) → ((y : List Value) → f y ≡ g y) → not (list_any (λ y. not (f y)) ys) ≡ list_all g ys
not-any f g [] h = refl
not-any f g (y ∷ ys) h = ap (λ b. not (not b || list_any (λ y. not (f y)) ys)) (h y) ∙ by (not-any f g ys h) (g y)
  where
    by : not (list_any (λ y. not (f y)) ys) ≡ list_all g ys → (b : Bool) → not (not b || list_any (λ y. not (f y)) ys) ≡ (b && list_all g ys)
    by rest true = rest
    by rest false = refl

module _ (db : Tables) (t u : Relation) (L R : Rows) (h : Has db t L) (k : Has db u R) where
  rest-same : (env : Env) → answer (rest_of t.query t.columns u.columns) db env ≡ map (further_cells (names t.columns) (names u.columns)) L
  rest-same env =
      answer-Project db env t.query (further 0 t.columns u.columns) ∙ ap (map (λ r. row_of (further 0 t.columns u.columns) (r ∷ env))) (h.same env)
      ∙ map-wide (length t.columns) (λ r. row_of (further 0 t.columns u.columns) (r ∷ env)) (further_cells (names t.columns) (names u.columns)) L (λ r l. further-row t.columns u.columns [] r env l) h.wide

  firsts-wide : Wide (length (further_columns t.columns u.columns)) (map (further_cells (names t.columns) (names u.columns)) L)
  firsts-wide = wide-map (length t.columns) (length (further_columns t.columns u.columns)) (further_cells (names t.columns) (names u.columns)) L (λ r l. further-length t.columns u.columns r l) h.wide

  whole-same : (env : Env) → answer (pairs_of t.query t.columns u.columns) db env ≡ map (λ r. further_cells (names t.columns) (names u.columns) r ++ cells (names t.columns) (names u.columns) r) L
  whole-same env =
      let items = further 0 t.columns u.columns ++ placed (names u.columns) t.columns in
      answer-Project db env t.query items ∙ ap (map (λ r. row_of items (r ∷ env))) (h.same env)
      ∙ map-wide (length t.columns) (λ r. row_of items (r ∷ env)) (λ r. further_cells (names t.columns) (names u.columns) r ++ cells (names t.columns) (names u.columns) r) L
      (λ r l. row-append (further 0 t.columns u.columns) (placed (names u.columns) t.columns) (r ∷ env)
      ∙ ap₂ (λ (y : List Value) (z : List Value). y ++ z) (further-row t.columns u.columns [] r env l) (placed-row (names u.columns) t.columns r env)) h.wide

  -- a row of both parts is among the whole ones where the two are paired
  whole-paired : (x y : List Value) → length x ≡ length (further_columns t.columns u.columns) → has_row (map (λ r. further_cells (names t.columns) (names u.columns) r ++ cells (names t.columns) (names u.columns) r) L) (x ++ y)
      ≡ paired (under t.columns L) (under u.columns R) x y
  whole-paired x y l = go L h.wide
    where
      go : (rows : Rows) → Wide (length t.columns) rows → has_row (map (λ r. further_cells (names t.columns) (names u.columns) r ++ cells (names t.columns) (names u.columns) r) rows) (x ++ y)
          ≡ list_any (λ r. row_eq x (further_cells (names t.columns) (names u.columns) r) && row_eq y (cells (names t.columns) (names u.columns) r)) rows
      go [] w = refl
      go (r ∷ rs) w = ap₂ ◌||◌ (row-append-same x (further_cells (names t.columns) (names u.columns) r) y (cells (names t.columns) (names u.columns) r) (l ∙ sym (further-length t.columns u.columns r w.0))) (go rs w.1)

  missing-same : (env : Env) → answer (missing (rest_of t.query t.columns u.columns) (pairs_of t.query t.columns u.columns) u.query (further_columns t.columns u.columns)) db env
      ≡ flat_map (λ z. map (λ s. z) (filter (λ y. not (has_row (map (λ r. further_cells (names t.columns) (names u.columns) r ++ cells (names t.columns) (names u.columns) r) L) (z ++ y))) R)) (map (further_cells (names t.columns) (names u.columns)) L)
  missing-same env =
      let fs = further_columns t.columns u.columns in
      let X = map (further_cells (names t.columns) (names u.columns)) L in
      let Y = map (λ r. further_cells (names t.columns) (names u.columns) r ++ cells (names t.columns) (names u.columns) r) L in
      let all = product (rest_of t.query t.columns u.columns) u.query in
      answer-Project db env _ (own 0 fs)
      ∙ ap (map (λ r. row_of (own 0 fs) (r ∷ env))) (answer-Except db env all (pairs_of t.query t.columns u.columns)
      ∙ ap₂ (λ (ys : Rows) (xs : Rows). filter (λ r. not (has_row ys r)) xs) (whole-same env) (answer-pairs db env (rest_of t.query t.columns u.columns) u.query ∙ ap₂ pairs (rest-same env) (k.same env)))
      ∙ pairs-joined (λ r. not (has_row Y r)) (λ r. row_of (own 0 fs) (r ∷ env)) (λ z y. not (has_row Y (z ++ y))) (λ z y. z) (length fs) (length u.columns)
      (λ r s l m. refl) (λ r s l m. own-row fs r s env l) X R firsts-wide k.wide

  pub quotient-has : Has db (quotient t u) (divided (under t.columns L) (under u.columns R))
  quotient-has = record {
    same = λ env.
        let X = map (further_cells (names t.columns) (names u.columns)) L in
        let Y = map (λ r. further_cells (names t.columns) (names u.columns) r ++ cells (names t.columns) (names u.columns) r) L in
        let M = flat_map (λ z. map (λ s. z) (filter (λ y. not (has_row Y (z ++ y))) R)) X in
        answer-Except db env (rest_of t.query t.columns u.columns) _
        ∙ ap₂ (λ (ys : Rows) (xs : Rows). filter (λ r. not (has_row ys r)) xs) (missing-same env) (rest-same env)
        ∙ filter-among (length (further_columns t.columns u.columns)) (λ x. not (has_row M x)) (λ x. list_all (paired (under t.columns L) (under u.columns R) x) R) X X
        (λ x l i. ap not (missing-has (λ z y. has_row Y (z ++ y)) R X x ∙ ap (λ b. b && list_any (λ y. not (has_row Y (x ++ y))) R) i)
        ∙ not-any (λ y. has_row Y (x ++ y)) (paired (under t.columns L) (under u.columns R) x) R (λ y. whole-paired x y l)) firsts-wide (all-in [] X);
    wide = wide-filter (length (further_columns t.columns u.columns)) (λ x. list_all (paired (under t.columns L) (under u.columns R) x) R) (map (further_cells (names t.columns) (names u.columns)) L) firsts-wide;
  }
