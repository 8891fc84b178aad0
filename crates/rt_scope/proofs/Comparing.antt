-- Each comparison and each list that has a meaning is typed under the rows in scope.
use Rattle.std.proofs.Common.{◌≡◌, ◌∙◌, ℕ, Bool, true, false, List, [], ◌∷◌, ◌++◌, Option, Some, Ok, Err, refl, ap}
use Rattle.std.specs.Prelude.{IfOk}
use Rattle.rt_algebra.specs.Columns as algebra
use Rattle.rt_schema.specs.Schema.{kinds_match}
use Rattle.rt_algebra.specs.Columns.{all_comparable, comparable, column_of, pred_typed}
use Rattle.rt_algebra.specs.declared.expr.Expr.{Expr}
use Rattle.rt_algebra.specs.declared.query.Pred.{Pred}
use Rattle.rt_algebra.specs.declared.query.Pred.TheVariants as pred
use Rattle.rt_algebra.proofs.Columned.{typed-Cmp, typed-Not}
use Rattle.rt_algebra.proofs.Fitting.{and-left, and-right, and-true}
use Rattle.rt_schema.specs.declared.table.ColKind.{ColKind}
use Rattle.rt_scope.specs.Compare.{compared, listed, listed_one, negated}
use Rattle.rt_scope.specs.Fault.{◌>>=◌}
use Rattle.rt_scope.specs.Lookup.{Scopes}
use Rattle.rt_scope.specs.Sums.{sum}
use Rattle.rt_scope.specs.declared.fault.NameFault.TheVariants.{TypeMismatch}
use Rattle.rt_scope.specs.declared.scalar.Scalar.{Scalar}
use Rattle.rt_scope.proofs.Standing.{kinded, ScopesStand, IsTypedScalar}
use Rattle.rt_scope.proofs.Steps.{then-ok, if-ok}
use Rattle.rt_scope.proofs.Summing.{sum-typed}
use Rattle.rt_tree.specs.declared.tree.Sum.{Sum}
use Rattle.rt_value.specs.declared.value.Op.{Op}

-- ---- the types of conditions

abbrev pub IsTypedPred : List algebra.Columns → algebra.Scopes → Pred → Type 0
IsTypedPred tables rows c = pred_typed c tables rows ≡ true

pub negated-typed : (tables : List algebra.Columns) (rows : algebra.Scopes) (n : Bool) (c : Pred) → IsTypedPred tables rows c → IsTypedPred tables rows (negated n c)
negated-typed tables rows true c h = typed-Not tables rows c ∙ h
negated-typed tables rows false c h = h

pub compared-typed : (tables : List algebra.Columns) (rows : algebra.Scopes) (op : Op) (x y : Scalar) → IsTypedScalar rows x → IsTypedScalar rows y
    → IfOk (compared op x y) (IsTypedPred tables rows)
compared-typed tables rows op x y h k =
    if-ok (IsTypedPred tables rows) (kinds_match x.kind y.kind) (Ok (pred.Cmp op x.expr y.expr)) (Err TypeMismatch)
    (λ fit. typed-Cmp tables rows op x.expr y.expr ∙ ap (λ o. comparable o (column_of y.expr rows)) h ∙ ap (comparable (Some (kinded x.kind x.bound))) k ∙ fit) tt

-- ---- lists

abbrev pub AreComparable : algebra.Scopes → Option ColKind → ℕ → List Expr → Type 0
AreComparable rows k n es = all_comparable (Some (kinded k n)) es rows ≡ true

one-more-comparable : (c : Option algebra.Column) (es : List Expr) (e : Expr) (rows : algebra.Scopes) → all_comparable c es rows ≡ true → comparable c (column_of e rows) ≡ true
    → all_comparable c (es ++ e ∷ []) rows ≡ true
one-more-comparable c [] e rows h k = and-true (comparable c (column_of e rows)) true k refl
one-more-comparable c (d ∷ es) e rows h k =
    and-true (comparable c (column_of d rows)) (all_comparable c (es ++ e ∷ []) rows) (and-left (comparable c (column_of d rows)) (all_comparable c es rows) h)
    (one-more-comparable c es e rows (and-right (comparable c (column_of d rows)) (all_comparable c es rows) h) k)

listed-one-typed : (rows : algebra.Scopes) (k : Option ColKind) (n : ℕ) (es : List Expr) (y : Scalar) → AreComparable rows k n es → IsTypedScalar rows y
    → IfOk (listed_one k es y) (AreComparable rows k n)
listed-one-typed rows k n es y h t =
    if-ok (AreComparable rows k n) (kinds_match k y.kind) (Ok (es ++ y.expr ∷ [])) (Err TypeMismatch)
    (λ fit. one-more-comparable (Some (kinded k n)) es y.expr rows h (ap (comparable (Some (kinded k n))) t ∙ fit)) tt

pub listed-typed : (rows : algebra.Scopes) (scopes : Scopes) → ScopesStand scopes rows → (k : Option ColKind) (n : ℕ) (es : List Expr) (ss : List Sum) → AreComparable rows k n es
    → IfOk (listed k es ss scopes) (AreComparable rows k n)
listed-typed rows scopes s k n es [] h = h
listed-typed rows scopes s k n es (t ∷ ts) h =
    then-ok (IsTypedScalar rows) (AreComparable rows k n) (sum t scopes) (λ y. listed_one k es y >>= λ more. listed k more ts scopes) (sum-typed t scopes rows s)
    (λ y q. then-ok (AreComparable rows k n) (AreComparable rows k n) (listed_one k es y) (λ more. listed k more ts scopes) (listed-one-typed rows k n es y h q) (λ more m. listed-typed rows scopes s k n more ts m))
