-- A selection from a product, member by member: each member's rows are chosen by its own conditions
-- and joined by its keys.
use Rattle.std.specs.Prelude.{◌≡◌, ℕ, ℤ, ◌+◌, Bool, IsTrue, true, false, cond, ◌&&◌, nat_eq, List, [], ◌∷◌, ◌++◌, map, length, slice_index_or}
use Rattle.std.specs.List.{filter, list_all, list_any}
use Rattle.rt_value.specs.declared.value.Value.{Value}
use Rattle.rt_value.specs.declared.value.Value.TheVariants as v
use Rattle.rt_schema.specs.Cells.{is_null}
use Rattle.rt_schema.specs.Given.{Rows, Tables}
use Rattle.rt_algebra.specs.Expression.{Env}
use Rattle.rt_algebra.specs.Answer.{join_each, pairs, is_yes, pred_by}
use Rattle.rt_split.specs.Split.{all_yes, all_simple, keys_yes, first, later}
use Rattle.rt_algebra.specs.declared.query.Pred.{Pred}
use Rattle.rt_split.specs.declared.parts.KeyPair.{KeyPair}
use Rattle.rt_split.specs.declared.parts.Split.{Split}

-- the places of the rows that pass a test, that of the first row being `at`
abbrev pub places_where : (List Value → Bool) → ℕ → Rows → List ℕ
places_where test at [] = []
places_where test at (row ∷ rows) = cond (test row) (at ∷ places_where test (at + 1) rows) (places_where test (at + 1) rows)

-- the places of the rows of a member that match each of the rows before it by the keys
abbrev pub matches : List KeyPair → Rows → Rows → List (List ℕ)
matches ks befores rows = map (λ before. places_where (keys_yes ks before) 0 rows) befores

-- each of the rows before each row of a member that matches it by the keys
abbrev pub matched : List KeyPair → Rows → Rows → Rows
matched ks [] rows = []
matched ks (before ∷ befores) rows = join_each before (filter (keys_yes ks before) rows) ++ matched ks befores rows

-- each concatenation of a row of `front` and a row of each member
abbrev pub product_rows : Rows → List Rows → Rows
product_rows front [] = front
product_rows front (rows ∷ members) = product_rows (pairs front rows) members

-- those on which each member's own conditions and keys hold
abbrev pub joined_rows : (ℤ → ℤ) → List (List Pred) → List (List KeyPair) → Rows → List Rows → Env → Rows
joined_rows fit own keys front [] env = front
joined_rows fit own keys front (rows ∷ members) env =
    joined_rows fit (later own) (later keys) (matched (first keys) front (filter (λ row. all_simple fit (first own) (row ∷ env)) rows)) members env

-- each row of each member is as long as the width says
abbrev pub are_wide : List ℕ → List Rows → Bool
are_wide [] [] = true
are_wide [] (rows ∷ members) = false
are_wide (width ∷ widths) [] = false
are_wide (width ∷ widths) (rows ∷ members) = list_all (λ row. nat_eq (length row) width) rows && are_wide widths members

-- the values of a row's key columns, and of the columns before it
abbrev pub own_key : List KeyPair → List Value → List Value
own_key ks row = map (λ k. slice_index_or row k.own v.Null) ks

abbrev pub before_key : List KeyPair → List Value → List Value
before_key ks before = map (λ k. slice_index_or before k.before v.Null) ks

abbrev pub has_null : List Value → Bool
has_null key = list_any is_null key

-- the own conditions hold no subquery
abbrev pub AreSimple : List Pred → Type 0
AreSimple ps = (fit : ℤ → ℤ) (db : Tables) (env : Env) → all_yes fit ps db env ≡ all_simple fit ps env

abbrev pub EachSimple : List (List Pred) → Type 0
EachSimple [] = Unit {0}
EachSimple (ps ∷ own) = AreSimple ps × EachSimple own

-- over members of these widths the selection from the product is that from the rows on which the
-- own conditions and keys hold
abbrev pub Joins : Pred → List ℕ → Split → Type 0
Joins p widths s = (fit : ℤ → ℤ) (db : Tables) (env : Env) (members : List Rows) → IsTrue (are_wide widths members)
    → filter (λ row. is_yes (pred_by fit p db (row ∷ env))) (joined_rows fit s.own s.keys ([] ∷ []) members env)
    ≡ filter (λ row. is_yes (pred_by fit p db (row ∷ env))) (product_rows ([] ∷ []) members)

-- and it is all of those rows where the own conditions and keys are all of the condition
abbrev pub JoinsWhole : Pred → List ℕ → Split → Type 0
JoinsWhole p widths s = (fit : ℤ → ℤ) (db : Tables) (env : Env) (members : List Rows) → IsTrue (are_wide widths members) → IsTrue s.is_whole
    → joined_rows fit s.own s.keys ([] ∷ []) members env ≡ filter (λ row. is_yes (pred_by fit p db (row ∷ env))) (product_rows ([] ∷ []) members)
