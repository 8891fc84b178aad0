-- What one step of a walk over terms, factors or members gives, or its error.
use Rattle.std.proofs.Common.{◌≡◌, ◌∙◌, ℕ, ◌+◌, ◌<◌, Bool, true, false, List, ◌∷◌, length, map, drop, get_or, sym, ap, ap₂, add-one, Option, Result, Ok, Err}
use Rattle.std.proofs.Math.Seq.{drop-cons}
use Rattle.std.proofs.lemmas.Result.{err_from_is_err_and}
use Rattle.std.specs.Prelude.{IsErrAnd, MatchBool, if◌then◌else◌}
use Rattle.rt_algebra.specs.declared.expr.Expr.{Expr}
use Rattle.rt_schema.specs.declared.table.ColKind.{ColKind}
use Rattle.rt_scope.specs.Compare.{listed, listed_one}
use Rattle.rt_scope.specs.Fault.{◌>>=◌, is_memory}
use Rattle.rt_scope.specs.Lookup.{Scopes}
use Rattle.rt_scope.specs.Sums.{Link, Meaning, added, added_all, factor, factor_step, has_more, leaf, leaf_step, link, link_step, mul, mul_step, multiplied, multiplied_all, product_more, signed, sum, sum_more, sum_step}
use Rattle.rt_scope.specs.declared.fault.NameFault.{NameFault}
use Rattle.rt_scope.specs.declared.scalar.Scalar.{Scalar}
use Rattle.rt_scope.specs.declared.sums.Factors.{Factors}
use Rattle.rt_scope.specs.declared.sums.Terms.{Terms}
use Rattle.rt_tree.specs.declared.tree.Factor.{Factor}
use Rattle.rt_tree.specs.declared.tree.Leaf.TheFolds.{fold_out-Factor, fold_out-Mul, fold_out-Sum, fold_out-SumLink}
use Rattle.rt_tree.specs.declared.tree.Leaf.TheViews.{out-Factor, out-Mul, out-Sum, out-SumLink}
use Rattle.rt_tree.specs.declared.tree.Mul.{Mul}
use Rattle.rt_tree.specs.declared.tree.Sum.{Sum}
use Rattle.rt_tree.specs.declared.tree.SumLink.{SumLink}
use Rattle.rt_value.specs.Gives.{Gives}

-- ---- an error ends all

-- an error other than out of memory is the definition's
abbrev Fails : {A : Type 0} → NameFault → Result A NameFault → Type 0
Fails e d = MatchBool (is_memory e) (Unit {0}) (d ≡ Err e)

begun : {A B : Type 0} (b : Bool) (e : NameFault) (d : Result B NameFault) (m : Result A NameFault) (f : A → Result B NameFault)
    → d ≡ (m >>= f) → MatchBool b (Unit {0}) (m ≡ Err e) → MatchBool b (Unit {0}) (d ≡ Err e)
begun true e d m f p h = tt
begun false e d m f p h = p ∙ ap (λ r. r >>= f) h

-- the error that `?` returns is that of the step that the whole begins with
fails : {A B : Type 0} (r : Result B NameFault) (e : NameFault) (d : Result B NameFault) (m : Result A NameFault) (f : A → Result B NameFault)
    → IsErrAnd r (λ x. x ≡ e) → d ≡ (m >>= f) → Fails e m → Gives is_memory r d
fails r e d m f g p h = let q = err_from_is_err_and r g in rw (q.1, q.2) (begun (is_memory e) e d m f p h)

-- a whole whose first step is done goes on with the second
goes : {A B : Type 0} (d : Result B NameFault) (m : Result A NameFault) (f : A → Result B NameFault) (x : A) → d ≡ (m >>= f) → m ≡ Ok x → d ≡ f x
goes d m f x p h = p ∙ ap (λ r. r >>= f) h

-- what is left of a loop, with its next item in front
left : {X S : Type 0} (run : List X → Result S NameFault) (xs : List X) (i : ℕ) (x : X) (whole : Result S NameFault)
    → i < length xs → x ≡ get_or xs i x → run (drop i xs) ≡ whole → whole ≡ run (x ∷ drop (i + 1) xs)
left run xs i x whole l e h = sym h ∙ ap run (drop-cons xs i x l ∙ ap₂ ◌∷◌ (sym e) (ap (λ k. drop k xs) (sym (add-one i))))

-- ---- factors

module _ (xs : List Factor) (i : ℕ) (x : Factor) (scopes : Scopes) (t : Factors) (whole : Result Factors NameFault)
    (l : i < length xs) (e : x ≡ get_or xs i x) (h : multiplied_all t (map factor (drop i xs)) scopes ≡ whole) where
  abbrev rest : Factors → Result Factors NameFault
  rest more = multiplied_all more (map factor (drop (i + 1) xs)) scopes

  front : whole ≡ (factor x scopes >>= λ y. multiplied t y >>= rest)
  front = left (λ ys. multiplied_all t (map factor ys) scopes) xs i x whole l e h

  pub next_multiplied : (y : Scalar) (more : Factors) → factor x scopes ≡ Ok y → multiplied t y ≡ Ok more → multiplied_all more (map factor (drop (i + 1) xs)) scopes ≡ whole
  next_multiplied y more p q = sym (goes whole (multiplied t y) rest more (goes whole (factor x scopes) (λ y. multiplied t y >>= rest) y front p) q)

  pub factor_fails : (r : Result Factors NameFault) (fault : NameFault) → IsErrAnd r (λ z. z ≡ fault) → Fails fault (factor x scopes) → Gives is_memory r whole
  factor_fails r fault g k = fails r fault whole (factor x scopes) (λ y. multiplied t y >>= rest) g front k

  pub multiplied_fails : (y : Scalar) (r : Result Factors NameFault) (fault : NameFault) → factor x scopes ≡ Ok y → IsErrAnd r (λ z. z ≡ fault) → Fails fault (multiplied t y) → Gives is_memory r whole
  multiplied_fails y r fault p g k = fails r fault whole (multiplied t y) rest g (goes whole (factor x scopes) (λ y. multiplied t y >>= rest) y front p) k

-- ---- terms

link_is : (x : SumLink) → link x ≡ ((out-SumLink x).minus, mul (out-SumLink x).of)
link_is x = fold_out-SumLink Meaning Meaning Meaning Meaning Link leaf_step factor_step mul_step sum_step link_step x

module _ (xs : List SumLink) (i : ℕ) (x : SumLink) (scopes : Scopes) (t : Terms) (whole : Result Terms NameFault)
    (l : i < length xs) (e : x ≡ get_or xs i x) (h : added_all t (map link (drop i xs)) scopes ≡ whole) where
  abbrev later : Terms → Result Terms NameFault
  later more = added_all more (map link (drop (i + 1) xs)) scopes

  one : whole ≡ (mul (out-SumLink x).of scopes >>= λ y. added t (out-SumLink x).minus y >>= later)
  one = left (λ ys. added_all t (map link ys) scopes) xs i x whole l e h ∙ ap (λ (o : Link). o.1 scopes >>= λ y. added t o.0 y >>= later) (link_is x)

  pub next_added : (y : Scalar) (more : Terms) → mul (out-SumLink x).of scopes ≡ Ok y → added t (out-SumLink x).minus y ≡ Ok more → added_all more (map link (drop (i + 1) xs)) scopes ≡ whole
  next_added y more p q =
      sym (goes whole (added t (out-SumLink x).minus y) later more (goes whole (mul (out-SumLink x).of scopes) (λ y. added t (out-SumLink x).minus y >>= later) y one p) q)

  pub term_fails : (r : Result Terms NameFault) (fault : NameFault) → IsErrAnd r (λ z. z ≡ fault) → Fails fault (mul (out-SumLink x).of scopes) → Gives is_memory r whole
  term_fails r fault g k = fails r fault whole (mul (out-SumLink x).of scopes) (λ y. added t (out-SumLink x).minus y >>= later) g one k

  pub added_fails : (y : Scalar) (r : Result Terms NameFault) (fault : NameFault) → mul (out-SumLink x).of scopes ≡ Ok y → IsErrAnd r (λ z. z ≡ fault) → Fails fault (added t (out-SumLink x).minus y)
      → Gives is_memory r whole
  added_fails y r fault p g k =
      fails r fault whole (added t (out-SumLink x).minus y) later g (goes whole (mul (out-SumLink x).of scopes) (λ y. added t (out-SumLink x).minus y >>= later) y one p) k

-- ---- parts whose head fails

pub leaf_fails : (x : Factor) (scopes : Scopes) (r : Result Scalar NameFault) (fault : NameFault)
    → IsErrAnd r (λ z. z ≡ fault) → Fails fault (leaf (out-Factor x).of scopes) → Gives is_memory r (factor x scopes)
leaf_fails x scopes r fault g k =
    fails r fault (factor x scopes) (leaf (out-Factor x).of scopes) (signed (out-Factor x).minuses) g
    (ap (λ (f : Meaning). f scopes) (fold_out-Factor Meaning Meaning Meaning Meaning Link leaf_step factor_step mul_step sum_step link_step x)) k

pub mul_head_fails : (x : Mul) (scopes : Scopes) (r : Result Scalar NameFault) (fault : NameFault)
    → IsErrAnd r (λ z. z ≡ fault) → Fails fault (factor (out-Mul x).head scopes) → Gives is_memory r (mul x scopes)
mul_head_fails x scopes r fault g k =
    fails r fault (mul x scopes) (factor (out-Mul x).head scopes)
    (λ y. if has_more (map factor (out-Mul x).tail) then product_more y (map factor (out-Mul x).tail) scopes else Ok y) g
    (ap (λ (f : Meaning). f scopes) (fold_out-Mul Meaning Meaning Meaning Meaning Link leaf_step factor_step mul_step sum_step link_step x)) k

pub sum_head_fails : (x : Sum) (scopes : Scopes) (r : Result Scalar NameFault) (fault : NameFault)
    → IsErrAnd r (λ z. z ≡ fault) → Fails fault (mul (out-Sum x).head scopes) → Gives is_memory r (sum x scopes)
sum_head_fails x scopes r fault g k =
    fails r fault (sum x scopes) (mul (out-Sum x).head scopes)
    (λ y. if has_more (map link (out-Sum x).tail) then sum_more y (map link (out-Sum x).tail) scopes else Ok y) g
    (ap (λ (f : Meaning). f scopes) (fold_out-Sum Meaning Meaning Meaning Meaning Link leaf_step factor_step mul_step sum_step link_step x)) k

-- ---- members of a list

module _ (kind : Option ColKind) (xs : List Sum) (i : ℕ) (x : Sum) (scopes : Scopes) (t : List Expr) (whole : Result (List Expr) NameFault)
    (l : i < length xs) (e : x ≡ get_or xs i x) (h : listed kind t (drop i xs) scopes ≡ whole) where
  abbrev others : List Expr → Result (List Expr) NameFault
  others more = listed kind more (drop (i + 1) xs) scopes

  first : whole ≡ (sum x scopes >>= λ y. listed_one kind t y >>= others)
  first = left (λ ys. listed kind t ys scopes) xs i x whole l e h

  pub next_listed : (y : Scalar) (more : List Expr) → sum x scopes ≡ Ok y → listed_one kind t y ≡ Ok more → listed kind more (drop (i + 1) xs) scopes ≡ whole
  next_listed y more p q = sym (goes whole (listed_one kind t y) others more (goes whole (sum x scopes) (λ y. listed_one kind t y >>= others) y first p) q)

  pub member_fails : (r : Result (List Expr) NameFault) (fault : NameFault) → IsErrAnd r (λ z. z ≡ fault) → Fails fault (sum x scopes) → Gives is_memory r whole
  member_fails r fault g k = fails r fault whole (sum x scopes) (λ y. listed_one kind t y >>= others) g first k

  pub listed_fails : (y : Scalar) (r : Result (List Expr) NameFault) (fault : NameFault) → sum x scopes ≡ Ok y → IsErrAnd r (λ z. z ≡ fault) → Fails fault (listed_one kind t y) → Gives is_memory r whole
  listed_fails y r fault p g k = fails r fault whole (listed_one kind t y) others g (goes whole (sum x scopes) (λ y. listed_one kind t y >>= others) y first p) k
