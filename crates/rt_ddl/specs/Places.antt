-- Names in an order, each found at its first place.
use Rattle.std.specs.Prelude.{◌≡◌, ℕ, suc, Bool, List, [], ◌∷◌, map, Option, Some, None, option_map, if◌then◌else◌, bytes_eq}
use Rattle.std.specs.BTreeMap.{is_at}
use Rattle.std.specs.Cmp.Lexicographic.{slice_cmp}
use Rattle.std.specs.Map.{lookup}
use Rattle.std.specs.Ordering.{nat_cmp}
use Rattle.rt_token.specs.Terminals.{Word}
use Rattle.rt_schema.specs.declared.table.Column.{Column}
use Rattle.rt_ddl.specs.Meaning.{columns_of, has_primary, primary_of}
use Rattle.rt_ddl.specs.declared.parts.Part.{Part}
use Rattle.rt_ddl.specs.declared.parts.TableText.{TableText}

-- the first place of a name
abbrev pub place_of : List Word → Word → Option ℕ
place_of [] n = None
place_of (m ∷ ms) n = if bytes_eq m n then Some 0 else option_map (λ (i : ℕ). suc i) (place_of ms n)

-- names in their own order, each with a place
abbrev pub Placed : Type 0
Placed = List (Word × ℕ)

abbrev pub placed_at : Placed → Word → Option ℕ
placed_at placed n = lookup (is_at (slice_cmp nat_cmp n)) placed

-- the places are just the first ones of the names
abbrev pub ArePlacesOf : List Word → Placed → Type 0
ArePlacesOf names placed = (n : Word) → placed_at placed n ≡ place_of names n

abbrev pub column_names : List Part → List Word
column_names ps = map (λ c. c.name) (columns_of ps)

abbrev pub table_names : List TableText → List Word
table_names ts = map (λ t. t.name) ts

-- what is kept with the parts of a table
pub record IsKnown (parts : List Part) (columns : List Column) (names : List Word) (has : Bool) (primary : List Word) : Type 0 where
  pub columns_are : columns ≡ columns_of parts
  pub names_are : names ≡ column_names parts
  pub has_it : has ≡ has_primary parts
  pub primary_is : primary ≡ primary_of parts
