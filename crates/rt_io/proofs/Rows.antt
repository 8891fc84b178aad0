-- What the rows of the matches hold of an argument.
use Rattle.std.proofs.Common.{◌≡◌, List, [], ◌∷◌, ◌++◌, ap, sym, subst, refl, Bool, true, false, arith}
use Rattle.std.proofs.lemmas.Bool.Decides.{nat_tests}
use Rattle.std.specs.Prelude.{◌&&◌, if◌then◌else◌, not}
use Rattle.std.specs.List.{list_all}
use Rattle.std.specs.Str.{bytes_eq}
use Rattle.std.proofs.lemmas.Slice.Eq.{bytes_eq-Decides}
use Rattle.clap.specs.Walk.{Row, Text, has_row, is_empty, with_values, without}
use Rattle.clap.specs.declared.parser.matches.ValueSource.{ValueSource}
use Rattle.rt_io.specs.App.{values_in}
use Rattle.clap.specs.declared.builder.value_parser.Reading.{Reading}

-- no row is without values
abbrev pub are_full : List Row → Bool
are_full rows = list_all (λ r. not (is_empty r.values)) rows

pub same_id : (a b : Text) → bytes_eq a b ≡ true → a ≡ b
same_id a b e = (bytes_eq-Decides a b).0 e

pub self_id : (a : Text) → bytes_eq a a ≡ true
self_id a = (bytes_eq-Decides a a).1 refl

and-left : (a b : Bool) → (a && b) ≡ true → a ≡ true
and-left true b h = refl
and-left false b h = h

and-right : (a b : Bool) → (a && b) ≡ true → b ≡ true
and-right true b h = h
and-right false b h = cc h

and-both : (a b : Bool) → a ≡ true → b ≡ true → (a && b) ≡ true
and-both a b e f = rw (e, f) refl

full-one-more : (xs : List Text) (v : Text) → not (is_empty (xs ++ v ∷ [])) ≡ true
full-one-more [] v = refl
full-one-more (x ∷ xs) v = grind (arith, nat_tests)

module _ (id : Text) (how : Reading) (s : ValueSource) (v : Text) where
  abbrev with_one : List Row → List Row
  with_one rows = with_values id how s (v ∷ []) rows

  -- the row of the id has one value more
  values-with-at : (r : Row) (rest : List Row) → values_in id (with_one rest) ≡ values_in id rest ++ v ∷ []
      → (b : Bool) → bytes_eq r.id id ≡ b → values_in id (with_one (r ∷ rest)) ≡ values_in id (r ∷ rest) ++ v ∷ []
  values-with-at r rest ih true e = rw (e, e) refl
  values-with-at r rest ih false e = rw (e, e) ih

  pub values-with : (rows : List Row) → values_in id (with_one rows) ≡ values_in id rows ++ v ∷ []
  values-with [] = rw (self_id id) refl
  values-with (r ∷ rest) = values-with-at r rest (values-with rest) (bytes_eq r.id id) refl

  -- another row stays as it is
  others-with-at : (other : Text) (r : Row) (rest : List Row) → bytes_eq id other ≡ false → values_in other (with_one rest) ≡ values_in other rest
      → (b : Bool) → bytes_eq r.id id ≡ b → values_in other (with_one (r ∷ rest)) ≡ values_in other (r ∷ rest)
  others-with-at other r rest d ih true e =
      let d2 : bytes_eq r.id other ≡ false = subst (λ (x : Text). bytes_eq x other ≡ false) (sym (same_id r.id id e)) d in
      rw (e, d2) refl
  others-with-at other r rest d ih false e = rw e (ap (λ (x : List Text). if bytes_eq r.id other then r.values else x) ih)

  pub others-with : (other : Text) → bytes_eq id other ≡ false → (rows : List Row) → values_in other (with_one rows) ≡ values_in other rows
  others-with other d [] = rw d refl
  others-with other d (r ∷ rest) = others-with-at other r rest d (others-with other d rest) (bytes_eq r.id id) refl

  full-at : (r : Row) (rest : List Row) → (are_full rest ≡ true → are_full (with_one rest) ≡ true)
      → (b : Bool) → bytes_eq r.id id ≡ b → are_full (r ∷ rest) ≡ true → are_full (with_one (r ∷ rest)) ≡ true
  full-at r rest ih true e full = rw e (and-both _ _ (full-one-more r.values v) (and-right (not (is_empty r.values)) (are_full rest) full))
  full-at r rest ih false e full = rw e (and-both _ _ (and-left (not (is_empty r.values)) (are_full rest) full) (ih (and-right (not (is_empty r.values)) (are_full rest) full)))

  pub full-with : (rows : List Row) → are_full rows ≡ true → are_full (with_one rows) ≡ true
  full-with [] full = refl
  full-with (r ∷ rest) full = full-at r rest (full-with rest) (bytes_eq r.id id) refl full

-- an id that no row has
without-none-at : (id : Text) (r : Row) (rest : List Row) → (has_row id rest ≡ false → without id rest ≡ rest)
    → (b : Bool) → bytes_eq r.id id ≡ b → has_row id (r ∷ rest) ≡ false → without id (r ∷ rest) ≡ r ∷ rest
without-none-at id r rest ih true e none = let bad : true ≡ false = rw e at none in cc bad
without-none-at id r rest ih false e none = rw e (ap (λ (rs : List Row). r ∷ rs) (ih (rw e at none)))

pub without-none : (id : Text) (rows : List Row) → has_row id rows ≡ false → without id rows ≡ rows
without-none id [] none = refl
without-none id (r ∷ rest) none = without-none-at id r rest (without-none id rest) (bytes_eq r.id id) refl none

-- a row of the id has a value
has-values-at : (id : Text) (r : Row) (rest : List Row) → (are_full rest ≡ true → has_row id rest ≡ not (is_empty (values_in id rest)))
    → (b : Bool) → bytes_eq r.id id ≡ b → are_full (r ∷ rest) ≡ true → has_row id (r ∷ rest) ≡ not (is_empty (values_in id (r ∷ rest)))
has-values-at id r rest ih true e full = rw e (sym (and-left (not (is_empty r.values)) (are_full rest) full))
has-values-at id r rest ih false e full = rw e (ih (and-right (not (is_empty r.values)) (are_full rest) full))

pub has-values : (id : Text) (rows : List Row) → are_full rows ≡ true → has_row id rows ≡ not (is_empty (values_in id rows))
has-values id [] full = refl
has-values id (r ∷ rest) full = has-values-at id r rest (has-values id rest) (bytes_eq r.id id) refl full
