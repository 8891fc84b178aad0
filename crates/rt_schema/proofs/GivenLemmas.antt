-- Lemmas on given rows: their places, and what filling a table keeps.
use Rattle.std.proofs.Common.{◌≡◌, ℕ, zero, suc, ◌+◌, ◌<◌, ◌≤◌, Bool, true, false, ◌&&◌, IsTrue, List, [], ◌∷◌, length, Some, slice_get, slice_index_or, slice_set, replicate, nat_le, refl, arith}
use Rattle.std.proofs.lemmas.Bool.Decides.{nat_tests}
use Rattle.std.proofs.lemmas.Option.{slice_get_read}
use Rattle.rt_schema.specs.declared.table.ColKind.{ColKind}
use Rattle.rt_schema.specs.declared.table.Table.{Table}
use Rattle.rt_value.specs.declared.value.Value.{Value}
use Rattle.rt_schema.specs.Given.{Instance, is_instance, Rows, Tables, rows_at, rows_suit, tables_suit, places, base_of}
use Rattle.rt_schema.specs.Schema.{schema_kinds}

pub base_of-le : (n : ℕ) (tables : Tables) → base_of n tables ≤ places tables
base_of-le n [] = omega arith
base_of-le zero (rows ∷ tables) = omega arith
base_of-le (suc n) (rows ∷ tables) = omega (arith, base_of-le n tables)

-- the place of a row is one of the places
pub place-below : (n at : ℕ) (tables : Tables) → at < length (rows_at tables n) → base_of n tables + at < places tables
place-below n at [] h = absurd (omega arith)
place-below zero at (rows ∷ tables) h = omega arith
place-below (suc n) at (rows ∷ tables) h = omega (arith, place-below n at tables h)

and-true : (a b : Bool) → IsTrue a → IsTrue b → IsTrue (a && b)
and-true true b p q = q
and-true false b p q = absurd (cc)

and-left : (a b : Bool) → IsTrue (a && b) → IsTrue a
and-left true b p = refl
and-left false b p = absurd (cc)

and-right : (a b : Bool) → IsTrue (a && b) → IsTrue b
and-right true b p = p
and-right false b p = absurd (cc)

pub tables_suit-set : (n : ℕ) (rows : Rows) (kinds : List (List ColKind)) (tables : Tables) → IsTrue (tables_suit kinds tables)
    → IsTrue (rows_suit (slice_index_or kinds n []) rows) → IsTrue (tables_suit kinds (slice_set tables n rows))
tables_suit-set n rows [] [] p q = p
tables_suit-set n rows [] (t ∷ tables) p q = absurd (cc)
tables_suit-set n rows (ks ∷ kinds) [] p q = absurd (cc)
tables_suit-set zero rows (ks ∷ kinds) (t ∷ tables) p q = and-true _ _ q (and-right (rows_suit ks t) _ p)
tables_suit-set (suc n) rows (ks ∷ kinds) (t ∷ tables) p q = and-true _ _ (and-left _ (tables_suit kinds tables) p) (tables_suit-set n rows kinds tables (and-right (rows_suit ks t) _ p) q)

pub places-set : (n : ℕ) (rows : Rows) (tables : Tables) → n < length tables → length (rows_at tables n) ≡ 0
    → places (slice_set tables n rows) ≡ places tables + length rows
places-set n rows [] r h = absurd (omega arith)
places-set zero rows (t ∷ tables) r h = omega arith
places-set (suc n) rows (t ∷ tables) r h = omega (arith, places-set n rows tables (omega arith) h)

-- tables without rows
pub no_rows-suit : (schema : List Table) → IsTrue (tables_suit (schema_kinds schema) (replicate (length schema) []))
no_rows-suit [] = refl
no_rows-suit (t ∷ schema) = no_rows-suit schema

pub no_rows-places : (n : ℕ) → places (replicate n []) ≡ 0
no_rows-places zero = refl
no_rows-places (suc n) = omega (arith, no_rows-places n)

pub no_rows-instance : (schema : List Table) → IsTrue (is_instance (record { kinds = schema_kinds schema; tables = replicate (length schema) [] }))
no_rows-instance schema = let e = no_rows-places (length schema) in and-true _ _ (no_rows-suit schema) (rw e refl)

pub instance-small : (given : Instance) → IsTrue (is_instance given) → places given.tables ≤ 2000
instance-small given p = let h = and-right (tables_suit given.kinds given.tables) _ p in grind (arith, nat_tests)

pub instance-set : (given : Instance) (n : ℕ) (rows : Rows) → IsTrue (is_instance given) → n < length given.tables
    → length (rows_at given.tables n) ≡ 0 → IsTrue (rows_suit (slice_index_or given.kinds n []) rows) → places given.tables + length rows ≤ 2000
    → IsTrue (is_instance (record { kinds = given.kinds; tables = slice_set given.tables n rows }))
instance-set given n rows p in_range empty suit room =
    let e = places-set n rows given.tables in_range empty in
    let small : IsTrue (nat_le (places given.tables + length rows) 2000) = grind (arith, nat_tests) in
    and-true _ _ (tables_suit-set n rows given.kinds given.tables (and-left _ (nat_le (places given.tables) 2000) p) suit) (rw e small)

-- a row that was read by its table and its number
pub row-read : (tables : Tables) (n at : ℕ) (rows : Rows) (row : List Value) → at < length (rows_at tables n) → rows ≡ slice_index_or tables n rows
    → row ≡ slice_index_or rows at row → slice_get (rows_at tables n) at ≡ Some row
row-read [] n at rows row h p q = absurd (omega arith)
row-read (t ∷ tables) zero at rows row h p q = slice_get_read t (length t) at row refl h (rw p at q)
row-read (t ∷ tables) (suc n) at rows row h p q = row-read tables n at rows row h p q

-- what `Given::new` makes
pub new_instance : (schema : List Table) (kinds : List (List ColKind)) (tables : Tables) → kinds ≡ schema_kinds schema
    → tables ≡ replicate (length schema) [] → IsTrue (is_instance (record { kinds = kinds; tables = tables }))
new_instance schema kinds tables k t = rw (k, t) (no_rows-instance schema)
