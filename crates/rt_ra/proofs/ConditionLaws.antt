-- Tests and conditions on common columns mean in the algebra what they mean on rows.
use Rattle.std.proofs.Common.{◌≡◌, ◌∙◌, ℕ, zero, suc, ℤ, ◌+◌, ◌<◌, Bool, true, false, ◌&&◌, List, [], ◌∷◌, ◌++◌, map, length, Result, Ok, Err, refl, sym, ap, ap₂, subst, arith}
use Rattle.std.specs.Prelude.{IfOk, if◌then◌else◌, slice_index_or}
use Rattle.std.specs.List.{filter}
use Rattle.rt_algebra.specs.Answer.{all_of as all_true, answer, is_yes, pred}
use Rattle.rt_algebra.specs.Parts.{all_of, selected}
use Rattle.rt_algebra.specs.Expression.{Env, cell_of, value_of}
use Rattle.rt_algebra.specs.declared.expr.Expr.TheVariants as expr
use Rattle.rt_algebra.specs.declared.query.Pred.{Pred}
use Rattle.rt_algebra.specs.declared.query.Pred.TheVariants as p
use Rattle.rt_algebra.specs.declared.query.Query.{Query}
use Rattle.rt_schema.specs.Given.{Rows, Tables}
use Rattle.rt_schema.specs.Schema.{kind_eq}
use Rattle.rt_value.specs.Truth.{truth_and, truth_not}
use Rattle.rt_value.specs.Value.{null_truth, value_truth}
use Rattle.rt_value.specs.declared.truth.Truth.{Truth}
use Rattle.rt_value.specs.declared.truth.Truth.TheVariants.{Yes, No, Unknown}
use Rattle.rt_value.specs.declared.value.Op.{Op}
use Rattle.rt_value.specs.declared.value.Op.TheVariants.{Eq}
use Rattle.rt_value.specs.declared.value.Value.{Value}
use Rattle.rt_value.specs.declared.value.Value.TheVariants as v
use Rattle.rt_ra.specs.OperatorAnswers.{all_yes, cell, meets, side_value, test_truth}
use Rattle.rt_ra.specs.OperatorAnswers as answers
use Rattle.rt_relation.specs.Columns.{Text, column_at, has, names, place}
use Rattle.rt_relation.specs.Fault.{◌>>=◌}
use Rattle.rt_relation.specs.Operators.{matching}
use Rattle.rt_ra.specs.Conditions.{column_scalar, compared, negated, number, side, test, tests}
use Rattle.rt_relation.specs.declared.column.Column.{Column}
use Rattle.rt_ra.specs.declared.scalar.Scalar.{Scalar}
use Rattle.rt_ra_tree.specs.declared.fault.RaFault.{RaFault}
use Rattle.rt_ra_tree.specs.declared.tree.RaSide.{RaSide}
use Rattle.rt_ra_tree.specs.declared.tree.RaSide.TheVariants as side_
use Rattle.rt_ra_tree.specs.declared.tree.RaTest.{RaTest}
use Rattle.rt_ra_tree.specs.declared.tree.RaTest.TheVariants as test_
use Rattle.rt_ra.proofs.Layers.{answer-Select, pred-And, pred-Cmp, pred-IsNull, pred-Not, value-Col, value-Int, value-Text, value-minus}
use mathlib.Core.Path.{fun_ext}

pub then-ok : {A B : Type 0} (P : A → Type 0) (Q : B → Type 0) (m : Result A RaFault) (f : A → Result B RaFault) → IfOk m P → ((x : A) → P x → IfOk (f x) Q) → IfOk (m >>= f) Q
then-ok P Q (Ok x) f h k = k x h
then-ok P Q (Err e) f h k = tt

pub any-ok : {A : Type 0} (m : Result A RaFault) → IfOk m (λ x. Unit {0})
any-ok (Ok x) = tt
any-ok (Err e) = tt

pub filter-same : (f g : List Value → Bool) (rows : Rows) → ((r : List Value) → f r ≡ g r) → filter f rows ≡ filter g rows
filter-same f g rows h = ap (λ (t : List Value → Bool). filter t rows) (fun_ext h)

filter-all : (rows : Rows) → filter (λ r. true) rows ≡ rows
filter-all [] = refl
filter-all (r ∷ rs) = ap (λ (rows : Rows). r ∷ rows) (filter-all rs)

yes-and : (t u : Truth) → is_yes (truth_and t u) ≡ (is_yes t && is_yes u)
yes-and Yes Yes = refl
yes-and Yes No = refl
yes-and Yes Unknown = refl
yes-and No Yes = refl
yes-and No No = refl
yes-and No Unknown = refl
yes-and Unknown Yes = refl
yes-and Unknown No = refl
yes-and Unknown Unknown = refl

and-true : (b : Bool) → (b && true) ≡ b
and-true true = refl
and-true false = refl

pub and-assoc : (a b c : Bool) → ((a && b) && c) ≡ (a && (b && c))
and-assoc true b c = refl
and-assoc false b c = refl

pub index-at : (front : List Value) (x : Value) (r : List Value) (at : ℕ) → length front ≡ at → slice_index_or (front ++ x ∷ r) at v.Null ≡ x
index-at [] x r zero h = refl
index-at [] x r (suc at) h = absurd (omega arith)
index-at (y ∷ front) x r zero h = absurd (omega arith)
index-at (y ∷ front) x r (suc at) h = index-at front x r at (omega arith)

pub shift : (front : List Value) (x : Value) (r : List Value) → front ++ x ∷ r ≡ (front ++ x ∷ []) ++ r
shift [] x r = refl
shift (y ∷ front) x r = ap (λ (l : List Value). y ∷ l) (shift front x r)

pub long : (front : List Value) (x : Value) (at : ℕ) → length front ≡ at → length (front ++ x ∷ []) ≡ at + 1
long [] x at h = omega (arith, h)
long (y ∷ front) x zero h = absurd (omega arith)
long (y ∷ front) x (suc at) h = let e = long front x at (omega arith) in omega (arith, e)

pub inside : (front : List Value) (x : Value) (r : List Value) (at : ℕ) → length front ≡ at → at < length (front ++ x ∷ r)
inside [] x r at h = omega (arith, h)
inside (y ∷ front) x r zero h = absurd (omega arith)
inside (y ∷ front) x r (suc at) h = let e = inside front x r at (omega arith) in omega (arith, e)

module _ (db : Tables) where
  -- every condition is Yes
  abbrev pub all_hold : List Pred → Env → Bool
  all_hold [] env = true
  all_hold (c ∷ cs) env = is_yes (pred c db env) && all_hold cs env

  pub hold-append : (cs ds : List Pred) (env : Env) → all_hold (cs ++ ds) env ≡ (all_hold cs env && all_hold ds env)
  hold-append [] ds env = refl
  hold-append (c ∷ cs) ds env = ap (λ b. is_yes (pred c db env) && b) (hold-append cs ds env) ∙ sym (and-assoc (is_yes (pred c db env)) (all_hold cs env) (all_hold ds env))

  hold-and : (cs : List Pred) (env : Env) → is_yes (all_true (map pred cs) db env) ≡ all_hold cs env
  hold-and [] env = refl
  hold-and (c ∷ cs) env = yes-and (pred c db env) (all_true (map pred cs) db env) ∙ ap (λ b. is_yes (pred c db env) && b) (hold-and cs env)

  hold-of : (c : Pred) (cs : List Pred) (env : Env) → is_yes (pred (all_of (c ∷ cs)) db env) ≡ all_hold (c ∷ cs) env
  hold-of c [] env = sym (and-true (is_yes (pred c db env)))
  hold-of c (d ∷ cs) env = ap is_yes (pred-And db env (c ∷ d ∷ cs)) ∙ hold-and (c ∷ d ∷ cs) env

  pub answer-selected : (a : Query) (cs : List Pred) (env : Env) → answer (selected a cs) db env ≡ filter (λ r. all_hold cs (r ∷ env)) (answer a db env)
  answer-selected a [] env = sym (filter-all (answer a db env))
  answer-selected a (c ∷ cs) env = answer-Select db env a (all_of (c ∷ cs)) ∙ filter-same _ _ (answer a db env) (λ r. hold-of c cs (r ∷ env))

  -- ---- tests

  abbrev SideMeans : List Text → RaSide → Scalar → Type 0
  SideMeans ns s x = (r : List Value) (env : Env) → value_of x.expr (r ∷ env) ≡ side_value ns s r

  number-means : (m : Bool) (n : ℤ) (env : Env) → value_of (number m n) env ≡ answers.number m n
  number-means true n env = value-minus env n
  number-means false n env = value-Int env n

  side-means : (cs : List Column) (s : RaSide) → IfOk (side cs s) (SideMeans (names cs) s)
  side-means cs (side_.Col n) = then-ok (λ c. Unit {0}) (SideMeans (names cs) (side_.Col n)) (column_at n.text cs) (λ c. Ok (column_scalar (place n.text (names cs)) c)) (any-ok (column_at n.text cs))
      (λ c h r env. value-Col (r ∷ env) 0 (place n.text (names cs)))
  side-means cs (side_.Number m n) = λ r env. number-means m n (r ∷ env)
  side-means cs (side_.Str t) = λ r env. value-Text (r ∷ env) t

  abbrev TestMeans : List Text → RaTest → Pred → Type 0
  TestMeans ns t c = (r : List Value) (env : Env) → pred c db (r ∷ env) ≡ test_truth ns t r

  if-ok : {A : Type 0} (P : A → Type 0) (b : Bool) (x : A) (e : RaFault) → P x → IfOk (if b then Ok x else Err e) P
  if-ok P true x e h = h
  if-ok P false x e h = tt

  compared-means : (ns : List Text) (o : Op) (a b : RaSide) (x y : Scalar) → SideMeans ns a x → SideMeans ns b y → IfOk (compared o x y) (TestMeans ns (test_.Cmp o a b))
  compared-means ns o a b x y h k = if-ok (TestMeans ns (test_.Cmp o a b)) (kind_eq x.kind y.kind) (p.Cmp o x.expr y.expr) _
      (λ r env. pred-Cmp db (r ∷ env) o x.expr y.expr ∙ ap₂ (value_truth o) (h r env) (k r env))

  negated-means : (b : Bool) (c : Pred) (env : Env) (t : Truth) → pred c db env ≡ t → pred (negated b c) db env ≡ answers.negated b t
  negated-means true c env t h = pred-Not db env c ∙ ap truth_not h
  negated-means false c env t h = h

  test-means : (cs : List Column) (t : RaTest) → IfOk (test cs t) (TestMeans (names cs) t)
  test-means cs (test_.Cmp o a b) = then-ok (SideMeans (names cs) a) (TestMeans (names cs) (test_.Cmp o a b)) (side cs a) (λ x. side cs b >>= λ y. compared o x y) (side-means cs a)
      (λ x h. then-ok (SideMeans (names cs) b) (TestMeans (names cs) (test_.Cmp o a b)) (side cs b) (λ y. compared o x y) (side-means cs b) (λ y k. compared-means (names cs) o a b x y h k))
  test-means cs (test_.IsNull n b) = then-ok (λ c. Unit {0}) (TestMeans (names cs) (test_.IsNull n b)) (column_at n.text cs) (λ c. Ok (negated b (p.IsNull (expr.Col 0 (place n.text (names cs)))))) (any-ok (column_at n.text cs))
      (λ c h r env. negated-means b (p.IsNull (expr.Col 0 (place n.text (names cs)))) (r ∷ env) (null_truth (cell (names cs) n.text r))
      (pred-IsNull db (r ∷ env) (expr.Col 0 (place n.text (names cs))) ∙ ap null_truth (value-Col (r ∷ env) 0 (place n.text (names cs)))))

  abbrev TestsMean : List Pred → List Text → List RaTest → List Pred → Type 0
  TestsMean all ns ts ps = (r : List Value) (env : Env) → all_hold ps (r ∷ env) ≡ (all_hold all (r ∷ env) && all_yes ns ts r)

  pub tests-mean : (all : List Pred) (cs : List Column) (ts : List RaTest) → IfOk (tests all cs ts) (TestsMean all (names cs) ts)
  tests-mean all cs [] = λ r env. sym (and-true (all_hold all (r ∷ env)))
  tests-mean all cs (t ∷ ts) = then-ok (TestMeans (names cs) t) (TestsMean all (names cs) (t ∷ ts)) (test cs t) (λ c. tests (all ++ c ∷ []) cs ts) (test-means cs t)
      (λ c h. more c h (tests (all ++ c ∷ []) cs ts) (tests-mean (all ++ c ∷ []) cs ts))
    where
      step : (c : Pred) → TestMeans (names cs) t c → (r : List Value) (env : Env) → (all_hold (all ++ c ∷ []) (r ∷ env) && all_yes (names cs) ts r) ≡ (all_hold all (r ∷ env) && all_yes (names cs) (t ∷ ts) r)
      step c h r env =
          ap (λ b. b && all_yes (names cs) ts r) (hold-append all (c ∷ []) (r ∷ env) ∙ ap (λ b. all_hold all (r ∷ env) && b) (and-true (is_yes (pred c db (r ∷ env))) ∙ ap is_yes (h r env)))
          ∙ and-assoc (all_hold all (r ∷ env)) (is_yes (test_truth (names cs) t r)) (all_yes (names cs) ts r)

      more : (c : Pred) → TestMeans (names cs) t c → (m : Result (List Pred) RaFault) → IfOk m (TestsMean (all ++ c ∷ []) (names cs) ts) → IfOk m (TestsMean all (names cs) (t ∷ ts))
      more c h (Ok ps) k = λ r env. k r env ∙ step c h r env
      more c h (Err e) k = tt

  -- ---- common columns

  -- the first row is `up` rows outward with its cells from `at` on, and the other's from `start`
  abbrev pub Stands : ℕ → ℕ → Env → List Value → List Value → Type 0
  Stands up start env r s = ((k : ℕ) → k < length r → cell_of env up k ≡ slice_index_or r k v.Null) × ((k : ℕ) → cell_of env 0 (start + k) ≡ slice_index_or s k v.Null)

  -- the conditions on the columns from `at` on, before which `front` comes
  matching-from : (up start at : ℕ) (cs os : List Column) (front r s : List Value) (env : Env) → length front ≡ at → length cs ≡ length r → Stands up start env (front ++ r) s
      → all_hold (matching up start at cs os) env ≡ meets (names cs) (names os) r s
  matching-from up start at [] os front r s env f l h = refl
  matching-from up start at (c ∷ cs) os front [] s env f l h = absurd (omega arith)
  matching-from up start at (c ∷ cs) os front (x ∷ r) s env f l h =
      by (matching-from up start (at + 1) cs os (front ++ x ∷ []) r s env (long front x at f) (omega arith) (subst (λ (l : List Value). Stands up start env l s) (shift front x r) h)) (has c.name (names os))
    where
      here : cell_of env up at ≡ x
      here = h.0 at (inside front x r at f) ∙ index-at front x r at f

      one : is_yes (pred (p.Cmp Eq (expr.Col up at) (expr.Col 0 (start + place c.name (names os)))) db env) ≡ is_yes (value_truth Eq x (cell (names os) c.name s))
      one = ap is_yes (pred-Cmp db env Eq (expr.Col up at) (expr.Col 0 (start + place c.name (names os)))
          ∙ ap₂ (value_truth Eq) (value-Col env up at ∙ here) (value-Col env 0 (start + place c.name (names os)) ∙ h.1 (place c.name (names os))))

      by : all_hold (matching up start (at + 1) cs os) env ≡ meets (names cs) (names os) r s → (b : Bool) → all_hold (if b then p.Cmp Eq (expr.Col up at) (expr.Col 0 (start + place c.name (names os))) ∷ matching up start (at + 1) cs os else matching up start (at + 1) cs os) env
          ≡ (if b then is_yes (value_truth Eq x (cell (names os) c.name s)) && meets (names cs) (names os) r s else meets (names cs) (names os) r s)
      by rest true = ap₂ ◌&&◌ one rest
      by rest false = rest

  pub matching-meets : (up start : ℕ) (cs os : List Column) (r s : List Value) (env : Env) → length cs ≡ length r → Stands up start env r s
      → all_hold (matching up start 0 cs os) env ≡ meets (names cs) (names os) r s
  matching-meets up start cs os r s env l h = matching-from up start 0 cs os [] r s env refl l h
