-- Each condition without a subquery, and each list of typed conditions, is typed.
use Rattle.std.proofs.Common.{◌≡◌, ◌∙◌, Bool, true, ◌&&◌, List, [], ◌∷◌, ◌++◌, map, Some, Ok, Err, refl, ap}
use Rattle.std.specs.Prelude.{IfOk, is_some}
use Rattle.rt_algebra.specs.Columns as algebra
use Rattle.rt_schema.specs.Schema.{kinds_match}
use Rattle.rt_algebra.specs.Columns.{all_comparable, all_typed, comparable_member, pred_typed, query_columns}
use Rattle.rt_algebra.specs.declared.expr.Expr.{Expr}
use Rattle.rt_algebra.specs.declared.query.Pred.{Pred}
use Rattle.rt_algebra.specs.declared.query.Pred.TheVariants as pred
use Rattle.rt_algebra.specs.declared.query.Query.{Query}
use Rattle.rt_algebra.proofs.Columned.{typed-And, typed-Exists, typed-IsNull, typed-Member, typed-OneOf}
use Rattle.rt_algebra.proofs.Fitting.{and-left, and-right, and-true}
use Rattle.rt_scope.specs.Conditions.{between, between_test, both, comparison, list_test, member, member_in, null_test, only, op_of}
use Rattle.rt_scope.specs.declared.relation.Relation.{Relation}
use Rattle.rt_scope.proofs.Sets.{IsTypedRelation}
use Rattle.rt_scope.specs.Compare.{compared, listed, negated}
use Rattle.rt_scope.specs.Fault.{◌>>=◌}
use Rattle.rt_scope.specs.Lookup.{Scopes}
use Rattle.rt_scope.specs.Sums.{sum}
use Rattle.rt_scope.specs.declared.column.Column.{Column}
use Rattle.rt_scope.specs.declared.fault.NameFault.TheVariants as fault
use Rattle.rt_scope.specs.declared.scalar.Scalar.{Scalar}
use Rattle.rt_scope.proofs.Comparing.{AreComparable, IsTypedPred, compared-typed, listed-typed, negated-typed}
use Rattle.rt_scope.proofs.Standing.{IsTypedScalar, ScopesStand, columns_as, kinded}
use Rattle.rt_scope.proofs.Steps.{then-ok, if-ok}
use Rattle.rt_scope.proofs.Summing.{sum-typed}
use Rattle.rt_tree.specs.declared.tree.Op.{Op as OpTree}
use Rattle.rt_tree.specs.declared.tree.Sum.{Sum}
use Rattle.rt_value.specs.declared.value.Op.TheVariants as op

module _ (tables : List algebra.Columns) (rows : algebra.Scopes) where
  -- ---- lists of conditions

  abbrev pub AreTyped : List Pred → Type 0
  AreTyped ps = all_typed (map pred_typed ps) tables rows ≡ true

  pub put-typed : (ps : List Pred) (p : Pred) → AreTyped ps → IsTypedPred tables rows p → AreTyped (ps ++ p ∷ [])
  put-typed [] p h k = and-true (pred_typed p tables rows) true k refl
  put-typed (c ∷ ps) p h k =
      and-true (pred_typed c tables rows) (all_typed (map pred_typed (ps ++ p ∷ [])) tables rows) (and-left (pred_typed c tables rows) (all_typed (map pred_typed ps) tables rows) h)
      (put-typed ps p (and-right (pred_typed c tables rows) (all_typed (map pred_typed ps) tables rows) h) k)

  pub only-typed : (p : Pred) → IsTypedPred tables rows p → AreTyped (only p).conds
  only-typed p k = and-true (pred_typed p tables rows) true k refl

  -- ---- tests

  abbrev Typed : Pred → Type 0
  Typed p = IsTypedPred tables rows p

  both-typed : (p q : Pred) → Typed p → Typed q → Typed (both p q)
  both-typed p q h k = typed-And tables rows (p ∷ q ∷ []) ∙ put-typed (p ∷ []) q (only-typed p h) k

  pub exists-typed : (t : Relation) → IsTypedRelation tables rows t → Typed (pred.Exists t.query)
  exists-typed t h = typed-Exists tables rows t.query ∙ ap is_some h

  member-in-typed : (x : Scalar) (q : Query) (cs : List Column) → IsTypedScalar rows x → query_columns q tables rows ≡ Some (columns_as cs) → IfOk (member_in x q cs) Typed
  member-in-typed x q [] h k = tt
  member-in-typed x q (c ∷ []) h k =
      if-ok Typed (kinds_match x.kind (Some c.kind)) (Ok (pred.Member x.expr q)) (Err fault.TypeMismatch)
      (λ fit. typed-Member tables rows x.expr q ∙ ap (λ o. comparable_member o (query_columns q tables rows)) h ∙ ap (comparable_member (Some (kinded x.kind x.bound))) k ∙ fit) tt
  member-in-typed x q (c ∷ d ∷ cs) h k = tt

  pub member-typed : (x : Scalar) (t : Relation) → IsTypedScalar rows x → IsTypedRelation tables rows t → IfOk (member x t) Typed
  member-typed x t h k = member-in-typed x t.query t.columns h k

  module _ (scopes : Scopes) (s : ScopesStand scopes rows) where
    pub comparison-typed : (a : Sum) (o : OpTree) (b : Sum) → IfOk (comparison a o b scopes) Typed
    comparison-typed a o b =
        then-ok (IsTypedScalar rows) Typed (sum a scopes) (λ x. sum b scopes >>= λ y. compared (op_of o) x y) (sum-typed a scopes rows s)
        (λ x h. then-ok (IsTypedScalar rows) Typed (sum b scopes) (λ y. compared (op_of o) x y) (sum-typed b scopes rows s) (λ y k. compared-typed tables rows (op_of o) x y h k))

    pub null-test-typed : (a : Sum) (n : Bool) → IfOk (null_test a n scopes) Typed
    null-test-typed a n =
        then-ok (IsTypedScalar rows) Typed (sum a scopes) (λ x. Ok (negated n (pred.IsNull x.expr))) (sum-typed a scopes rows s)
        (λ x h. negated-typed tables rows n (pred.IsNull x.expr) (typed-IsNull tables rows x.expr ∙ ap is_some h))

    one-of-typed : (x : Scalar) (es : List Expr) → IsTypedScalar rows x → AreComparable rows x.kind x.bound es → Typed (pred.OneOf x.expr es)
    one-of-typed x es h k = typed-OneOf tables rows x.expr es ∙ ap (λ o. is_some o && all_comparable o es rows) h ∙ k

    pub list-test-typed : (a : Sum) (n : Bool) (head : Sum) (tail : List Sum) → IfOk (list_test a n head tail scopes) Typed
    list-test-typed a n head tail =
        then-ok (IsTypedScalar rows) Typed (sum a scopes) (λ x. listed x.kind [] (head ∷ tail) scopes >>= λ es. Ok (negated n (pred.OneOf x.expr es))) (sum-typed a scopes rows s)
        (λ x h. then-ok (AreComparable rows x.kind x.bound) Typed (listed x.kind [] (head ∷ tail) scopes) (λ es. Ok (negated n (pred.OneOf x.expr es)))
        (listed-typed rows scopes s x.kind x.bound [] (head ∷ tail) refl) (λ es k. negated-typed tables rows n (pred.OneOf x.expr es) (one-of-typed x es h k)))

    between-typed : (x y z : Scalar) → IsTypedScalar rows x → IsTypedScalar rows y → IsTypedScalar rows z → IfOk (between x y z) Typed
    between-typed x y z h k m =
        then-ok Typed Typed (compared op.Ge x y) (λ a. compared op.Le x z >>= λ b. Ok (both a b)) (compared-typed tables rows op.Ge x y h k)
        (λ a p. then-ok Typed Typed (compared op.Le x z) (λ b. Ok (both a b)) (compared-typed tables rows op.Le x z h m) (λ b q. both-typed a b p q))

    pub between-test-typed : (a : Sum) (n : Bool) (b c : Sum) → IfOk (between_test a n b c scopes) Typed
    between-test-typed a n b c =
        then-ok (IsTypedScalar rows) Typed (sum a scopes) (λ x. sum b scopes >>= λ y. sum c scopes >>= λ z. between x y z >>= λ p. Ok (negated n p)) (sum-typed a scopes rows s)
        (λ x h. then-ok (IsTypedScalar rows) Typed (sum b scopes) (λ y. sum c scopes >>= λ z. between x y z >>= λ p. Ok (negated n p)) (sum-typed b scopes rows s)
        (λ y k. then-ok (IsTypedScalar rows) Typed (sum c scopes) (λ z. between x y z >>= λ p. Ok (negated n p)) (sum-typed c scopes rows s)
        (λ z m. then-ok Typed Typed (between x y z) (λ p. Ok (negated n p)) (between-typed x y z h k m) (λ p q. negated-typed tables rows n p q))))
