-- Columns of whatever type are typed as the algebra counts them.
use Rattle.std.proofs.Common.{◌≡◌, ℕ, Bool, true, false, ◌&&◌, List, [], ◌∷◌, map, length, Some, refl, ap₂, arith, nat_eq}
use Rattle.rt_algebra.specs.Columns as algebra
use Rattle.rt_algebra.specs.Columns.{merged_column, merged_columns, with_column}
use Rattle.rt_algebra.specs.Typed.{are_columns}
use Rattle.rt_algebra.specs.TextColumns.{columns_as, same_kinds, table_columns, widened, wider}
use Rattle.rt_schema.specs.Schema.{kind_eq, kinds_of}
use Rattle.rt_schema.specs.declared.table.ColKind.{ColKind}
use Rattle.rt_schema.specs.declared.table.ColKind.TheVariants.{Whole, Text as Texts}
use Rattle.rt_schema.specs.declared.table.Column.{Column as TableColumn}

pub kind-self : (k : ColKind) → kind_eq k k ≡ true
kind-self Whole = refl
kind-self Texts = refl

same-bound : (n : ℕ) → nat_eq n n ≡ true
same-bound n = grind (arith)

pub and-left : (a b : Bool) → (a && b) ≡ true → a ≡ true
and-left true b h = refl
and-left false b h = cc h

pub and-right : (a b : Bool) → (a && b) ≡ true → b ≡ true
and-right true b h = h
and-right false b h = cc h

pub and-true : (a b : Bool) → a ≡ true → b ≡ true → (a && b) ≡ true
and-true a b p q = rw (p, q) refl

module _ (C : Type 0) (kind : C → ColKind) (bound : C → ℕ) where
  pub all-fit : (cs : List C) → are_columns (map kind cs) (map bound cs) (columns_as kind bound cs) ≡ true
  all-fit [] = refl
  all-fit (c ∷ cs) = rw (kind-self (kind c), same-bound (bound c), all-fit cs) refl

  module _ (named : List ℕ → ColKind → ℕ → C) (kind-named : (n : List ℕ) (k : ColKind) (b : ℕ) → kind (named n k b) ≡ k) (bound-named : (n : List ℕ) (k : ColKind) (b : ℕ) → bound (named n k b) ≡ b) where
    of-kind : (k : ColKind) → algebra.table_column k ≡ algebra.column k (algebra.table_column k).bound
    of-kind Whole = refl
    of-kind Texts = refl

    -- the columns of a table are those that the algebra gives it
    pub table-as : (cs : List TableColumn) → map algebra.table_column (kinds_of cs) ≡ columns_as kind bound (table_columns named cs)
    table-as [] = refl
    table-as (c ∷ cs) =
        let b : ℕ = (algebra.table_column c.kind).bound in
        let one : algebra.table_column c.kind ≡ algebra.column (kind (named c.name c.kind b)) (bound (named c.name c.kind b)) = rw (kind-named c.name c.kind b, bound-named c.name c.kind b) (of-kind c.kind) in
        ap₂ (λ (x : algebra.Column) (xs : algebra.Columns). x ∷ xs) one (table-as cs)

  module _ (bounded : ℕ → C → C) (kind-bounded : (n : ℕ) (c : C) → kind (bounded n c) ≡ kind c) (bound-bounded : (n : ℕ) (c : C) → bound (bounded n c) ≡ n) where
    one-merged : (c d : C) → kind_eq (kind c) (kind d) ≡ true
        → merged_column (algebra.column (kind c) (bound c)) (algebra.column (kind d) (bound d)) ≡ Some (algebra.column (kind (wider bound bounded c d)) (bound (wider bound bounded c d)))
    one-merged c d h = rw (h, kind-bounded, bound-bounded) refl

    -- the columns of two operands that fit are those that the algebra gives a set operator
    pub all-merged : (cs ds : List C) → length cs ≡ length ds → same_kinds kind cs ds ≡ true
        → merged_columns (columns_as kind bound cs) (columns_as kind bound ds) ≡ Some (columns_as kind bound (widened bound bounded cs ds))
    all-merged [] [] n h = refl
    all-merged [] (d ∷ ds) n h = absurd (omega arith)
    all-merged (c ∷ cs) [] n h = absurd (omega arith)
    all-merged (c ∷ cs) (d ∷ ds) n h =
        ap₂ with_column (one-merged c d (and-left (kind_eq (kind c) (kind d)) (same_kinds kind cs ds) h)) (all-merged cs ds (omega (arith, n)) (and-right (kind_eq (kind c) (kind d)) (same_kinds kind cs ds) h))
