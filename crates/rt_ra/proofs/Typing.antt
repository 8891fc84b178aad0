-- What the operators become is typed, with the columns that they say.
use Rattle.std.proofs.Common.{◌≡◌, ◌∙◌, ℕ, zero, suc, ◌+◌, Bool, true, false, List, [], ◌∷◌, ◌++◌, length, Option, Some, None, refl, ap, ap₂, subst, arith, slice_get, max}
use Rattle.std.specs.Prelude.{if◌then◌else◌, nat_lt, option_map, replicate}
use Rattle.std.proofs.lemmas.List.{length-map}
use Rattle.std.proofs.lemmas.Option.{slice_get-map}
use Rattle.rt_algebra.specs.Columns as algebra
use Rattle.rt_algebra.specs.Columns.{column_of, item_columns, merged_column, merged_columns, with_column}
use Rattle.rt_algebra.specs.declared.expr.Expr.{Expr}
use Rattle.rt_algebra.specs.declared.expr.Expr.TheVariants as expr
use Rattle.rt_relation.specs.Columns.{Text, further_columns, has, names, place}
use Rattle.rt_ra.specs.OperatorMeaning.{column_as, columns_as}
use Rattle.rt_relation.specs.Operators.{further, own}
use Rattle.rt_relation.specs.declared.column.Column.{Column}
use Rattle.rt_algebra.proofs.Columned.{column-Col, column-Null}
use Rattle.rt_algebra.proofs.Fitting.{kind-self}
use Rattle.rt_ra.proofs.Widths.{names-length}

-- the columns are in the row, from a place on
abbrev pub Stand : ℕ → List Column → algebra.Columns → Type 0
Stand at cs row = (k : ℕ) (c : Column) → slice_get cs k ≡ Some c → slice_get row (at + k) ≡ Some (column_as c)

pub first-stands : (at : ℕ) (c : Column) (cs : List Column) (row : algebra.Columns) → Stand at (c ∷ cs) row → slice_get row at ≡ Some (column_as c)
first-stands at c cs row s = let e : at ≡ at + 0 = omega arith in ap (slice_get row) e ∙ s 0 c refl

pub rest-stand : (at : ℕ) (c : Column) (cs : List Column) (row : algebra.Columns) → Stand at (c ∷ cs) row → Stand (at + 1) cs row
rest-stand at c cs row s k d h = let e : at + 1 + k ≡ at + suc k = omega arith in ap (slice_get row) e ∙ s (suc k) d h

pub get-as : (cs : List Column) (k : ℕ) (c : Column) → slice_get cs k ≡ Some c → slice_get (columns_as cs) k ≡ Some (column_as c)
get-as cs k c h = slice_get-map column_as cs k ∙ ap (option_map column_as) h

get-left : (xs more : algebra.Columns) (k : ℕ) (x : algebra.Column) → slice_get xs k ≡ Some x → slice_get (xs ++ more) k ≡ Some x
get-left [] more k x h = cc h
get-left (y ∷ xs) more zero x h = h
get-left (y ∷ xs) more (suc k) x h = get-left xs more k x h

get-right : (xs ys : algebra.Columns) (w k : ℕ) → length xs ≡ w → slice_get (xs ++ ys) (w + k) ≡ slice_get ys k
get-right [] ys zero k h = let e : 0 + k ≡ k = omega arith in ap (slice_get ys) e
get-right [] ys (suc w) k h = absurd (omega arith)
get-right (x ∷ xs) ys zero k h = absurd (omega arith)
get-right (x ∷ xs) ys (suc w) k h = let e : suc w + k ≡ suc (w + k) = omega arith in ap (slice_get (x ∷ (xs ++ ys))) e ∙ get-right xs ys w k (omega arith)

pub stand-left : (cs : List Column) (more : algebra.Columns) → Stand 0 cs (columns_as cs ++ more)
stand-left cs more k c h = let e : 0 + k ≡ k = omega arith in ap (slice_get (columns_as cs ++ more)) e ∙ get-left (columns_as cs) more k (column_as c) (get-as cs k c h)

pub stand-own : (cs : List Column) → Stand 0 cs (columns_as cs)
stand-own cs k c h = let e : 0 + k ≡ k = omega arith in ap (slice_get (columns_as cs)) e ∙ get-as cs k c h

pub stand-right : (cs ds : List Column) → Stand (length cs) ds (columns_as cs ++ columns_as ds)
stand-right cs ds k d h = get-right (columns_as cs) (columns_as ds) (length cs) k (length-map cs column_as) ∙ get-as ds k d h

within : (cs : List Column) (k : ℕ) → nat_lt k (length cs) ≡ true → (c : Column) × (slice_get cs k ≡ Some c)
within [] k h = absurd (grind (arith, h))
within (c ∷ cs) zero h = (c, refl)
within (c ∷ cs) (suc k) h = within cs k (grind (arith, h))

pub found : (n : Text) (os : List Column) → has n (names os) ≡ true → (d : Column) × (slice_get os (place n (names os)) ≡ Some d)
found n os h = within os (place n (names os)) (subst (λ (m : ℕ). nat_lt (place n (names os)) m ≡ true) (names-length os) h)

-- ---- items

module _ (scopes : algebra.Scopes) where
  column-there : (at : ℕ) (row : algebra.Columns) (c : algebra.Column) → slice_get row at ≡ Some c → column_of (expr.Col 0 at) (row ∷ scopes) ≡ Some c
  column-there at row c h = column-Col (row ∷ scopes) 0 at ∙ h

  pub items-append : (es fs : List Expr) (xs ys : algebra.Columns) → item_columns es scopes ≡ Some xs → item_columns fs scopes ≡ Some ys → item_columns (es ++ fs) scopes ≡ Some (xs ++ ys)
  items-append [] fs xs ys h k = let e : [] ≡ xs = cc in subst (λ (xs : algebra.Columns). item_columns fs scopes ≡ Some (xs ++ ys)) e k
  items-append (e ∷ es) fs xs ys h k = by (λ zs s. items-append es fs zs ys s k) (column_of e scopes) (item_columns es scopes) refl h
    where
      by : ((zs : algebra.Columns) → item_columns es scopes ≡ Some zs → item_columns (es ++ fs) scopes ≡ Some (zs ++ ys)) → (c : Option algebra.Column) (o : Option algebra.Columns) → item_columns es scopes ≡ o → with_column c o ≡ Some xs → with_column c (item_columns (es ++ fs) scopes) ≡ Some (xs ++ ys)
      by more None o s h = cc h
      by more (Some c) None s h = cc h
      by more (Some c) (Some zs) s h =
          let e : c ∷ zs ≡ xs = cc in
          ap (with_column (Some c)) (more zs s) ∙ ap (λ (xs : algebra.Columns). Some (xs ++ ys)) e

  pub own-typed : (at : ℕ) (cs : List Column) (row : algebra.Columns) → Stand at cs row → item_columns (own at cs) (row ∷ scopes) ≡ Some (columns_as cs)
  own-typed at [] row s = refl
  own-typed at (c ∷ cs) row s = ap₂ with_column (column-there at row (column_as c) (first-stands at c cs row s)) (own-typed (at + 1) cs row (rest-stand at c cs row s))

  pub further-typed : (at : ℕ) (cs os : List Column) (row : algebra.Columns) → Stand at cs row → item_columns (further at cs os) (row ∷ scopes) ≡ Some (columns_as (further_columns cs os))
  further-typed at [] os row s = refl
  further-typed at (c ∷ cs) os row s = by (further-typed (at + 1) cs os row (rest-stand at c cs row s)) (has c.name (names os))
    where
      by : item_columns (further (at + 1) cs os) (row ∷ scopes) ≡ Some (columns_as (further_columns cs os)) → (b : Bool)
          → item_columns (if b then further (at + 1) cs os else expr.Col 0 at ∷ further (at + 1) cs os) (row ∷ scopes) ≡ Some (columns_as (if b then further_columns cs os else c ∷ further_columns cs os))
      by rest true = rest
      by rest false = ap₂ with_column (column-there at row (column_as c) (first-stands at c cs row s)) rest

-- columns of NULL alone
abbrev pub null_columns : ℕ → algebra.Columns
null_columns n = replicate n (record { kind = None; bound = 0 })

pub nulls-typed : (scopes : algebra.Scopes) (n : ℕ) → item_columns (replicate n expr.Null) scopes ≡ Some (null_columns n)
nulls-typed scopes zero = refl
nulls-typed scopes (suc n) = ap₂ with_column (column-Null scopes) (nulls-typed scopes n)

-- ---- columns that are put together

merged-one : (c : Column) → merged_column (column_as c) (column_as c) ≡ Some (column_as c)
merged-one c = let e : max c.bound c.bound ≡ c.bound = omega arith in rw (kind-self c.kind, e) refl

merged-null : (c : Column) → merged_column (column_as c) (record { kind = None; bound = 0 }) ≡ Some (column_as c)
merged-null c = let e : max c.bound 0 ≡ c.bound = omega arith in rw e refl

pub merged-self : (cs : List Column) → merged_columns (columns_as cs) (columns_as cs) ≡ Some (columns_as cs)
merged-self [] = refl
merged-self (c ∷ cs) = ap₂ with_column (merged-one c) (merged-self cs)

pub merged-nulls : (cs : List Column) → merged_columns (columns_as cs) (null_columns (length cs)) ≡ Some (columns_as cs)
merged-nulls [] = refl
merged-nulls (c ∷ cs) = ap₂ with_column (merged-null c) (merged-nulls cs)

pub merged-append : (es bs cs ds : algebra.Columns) (xs ys : algebra.Columns) → merged_columns es bs ≡ Some xs → merged_columns cs ds ≡ Some ys → merged_columns (es ++ cs) (bs ++ ds) ≡ Some (xs ++ ys)
merged-append [] [] cs ds xs ys h k = let e : [] ≡ xs = cc in subst (λ (xs : algebra.Columns). merged_columns cs ds ≡ Some (xs ++ ys)) e k
merged-append [] (b ∷ bs) cs ds xs ys h k = cc h
merged-append (a ∷ es) [] cs ds xs ys h k = cc h
merged-append (a ∷ es) (b ∷ bs) cs ds xs ys h k = by (λ zs s. merged-append es bs cs ds zs ys s k) (merged_column a b) (merged_columns es bs) refl h
  where
    by : ((zs : algebra.Columns) → merged_columns es bs ≡ Some zs → merged_columns (es ++ cs) (bs ++ ds) ≡ Some (zs ++ ys)) → (c : Option algebra.Column) (o : Option algebra.Columns) → merged_columns es bs ≡ o → with_column c o ≡ Some xs → with_column c (merged_columns (es ++ cs) (bs ++ ds)) ≡ Some (xs ++ ys)
    by more None o s h = cc h
    by more (Some c) None s h = cc h
    by more (Some c) (Some zs) s h =
        let e : c ∷ zs ≡ xs = cc in
        ap (with_column (Some c)) (more zs s) ∙ ap (λ (xs : algebra.Columns). Some (xs ++ ys)) e
