-- What is made of typed parts is typed, with the columns of the parts.
use Rattle.std.proofs.Common.{◌≡◌, ◌∙◌, Bool, true, List, [], ◌∷◌, map, Option, None, Some, refl, ap}
use Rattle.std.specs.Prelude.{if◌then◌else◌}
use Rattle.std.specs.Option.{option_and_then}
use Rattle.rt_algebra.specs.Columns.{Columns, Scopes, all_typed, pred_typed, product_columns, query_columns, set_columns}
use Rattle.rt_algebra.specs.Parts.{all_of, any_of, combined, product_of, selected}
use Rattle.rt_algebra.specs.declared.query.Pred.{Pred}
use Rattle.rt_algebra.specs.declared.query.Query.{Query}
use Rattle.rt_algebra.specs.declared.set_op.SetOp.{SetOp}
use Rattle.rt_algebra.specs.declared.set_op.SetOp.TheVariants as op
use Rattle.rt_algebra.proofs.Columned.{columns-Except, columns-Intersect, columns-Product, columns-Select, columns-Union, typed-And, typed-Or}
use Rattle.rt_algebra.proofs.Fitting.{and-left}

module _ (tables : List Columns) (scopes : Scopes) where
  pub all-of-typed : (ps : List Pred) → all_typed (map pred_typed ps) tables scopes ≡ true → pred_typed (all_of ps) tables scopes ≡ true
  all-of-typed [] h = typed-And tables scopes []
  all-of-typed (p ∷ []) h = and-left (pred_typed p tables scopes) true h
  all-of-typed (p ∷ q ∷ ps) h = typed-And tables scopes (p ∷ q ∷ ps) ∙ h

  pub any-of-typed : (ps : List Pred) → all_typed (map pred_typed ps) tables scopes ≡ true → pred_typed (any_of ps) tables scopes ≡ true
  any-of-typed [] h = typed-Or tables scopes []
  any-of-typed (p ∷ []) h = and-left (pred_typed p tables scopes) true h
  any-of-typed (p ∷ q ∷ ps) h = typed-Or tables scopes (p ∷ q ∷ ps) ∙ h

  pub columns-combined : (o : SetOp) (a b : Query) → query_columns (combined o a b) tables scopes ≡ set_columns (query_columns a tables scopes) (query_columns b tables scopes)
  columns-combined op.Union a b = columns-Union tables scopes a b
  columns-combined op.Except a b = columns-Except tables scopes a b
  columns-combined op.Intersect a b = columns-Intersect tables scopes a b

  only-product : (o : Option Columns) (row : Columns) → option_and_then (λ cs. Some cs) o ≡ Some row → o ≡ Some row
  only-product None row e = cc
  only-product (Some cs) row e = e

  pub product-of-typed : (qs : List Query) (row : Columns) → product_columns [] (map query_columns qs) tables scopes ≡ Some row → query_columns (product_of qs) tables scopes ≡ Some row
  product-of-typed [] row e = columns-Product tables scopes [] ∙ e
  product-of-typed (q ∷ []) row e = only-product (query_columns q tables scopes) row e
  product-of-typed (q ∷ r ∷ qs) row e = columns-Product tables scopes (q ∷ r ∷ qs) ∙ e

chosen : (cs : Columns) (b : Bool) → b ≡ true → (if b then Some cs else None) ≡ Some cs
chosen cs b h = rw h refl

pub selected-typed : (tables : List Columns) (scopes : Scopes) (q : Query) (ps : List Pred) (row : Columns) → query_columns q tables scopes ≡ Some row
    → all_typed (map pred_typed ps) tables (row ∷ scopes) ≡ true → query_columns (selected q ps) tables scopes ≡ Some row
selected-typed tables scopes q [] row e h = e
selected-typed tables scopes q (p ∷ ps) row e h =
    columns-Select tables scopes q (all_of (p ∷ ps)) ∙ ap (option_and_then (λ cs. if pred_typed (all_of (p ∷ ps)) tables (cs ∷ scopes) then Some cs else None)) e
    ∙ chosen row (pred_typed (all_of (p ∷ ps)) tables (row ∷ scopes)) (all-of-typed tables (row ∷ scopes) (p ∷ ps) h)
