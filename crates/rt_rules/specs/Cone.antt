-- Which rows can matter to a formula at lawful choices: those that it names, and with each row
-- those that it refers to by a foreign key.
use Rattle.std.specs.Prelude.{◌≡◌, ℕ, zero, suc, ◌+◌, Bool, true, cond, List, [], ◌∷◌, ◌++◌, map, length, slice_set}
use Rattle.rt_value.specs.declared.value.Value.{Value}
use Rattle.rt_schema.specs.Given.{Rows, Tables, rows_at, base_of}
use Rattle.rt_schema.specs.Cells.{agree}
use Rattle.rt_schema.specs.declared.table.Rule.{Rule}
use Rattle.rt_schema.specs.declared.table.Rule.TheVariants.{NotNull, Key, Foreign, Check, Depend}
use Rattle.rt_schema.specs.declared.table.Table.{Table}
use Rattle.rt_formula.specs.Shared.{Shared}
use Rattle.rt_formula.specs.Under.{is_marked, AreRowsUnder}
use Rattle.rt_rules.specs.declared.links.Link.{Link}

-- the places of the rows that pass a test, `place` being that of the first row
abbrev pub places_where : (List Value → Bool) → ℕ → Rows → List ℕ
places_where test place [] = []
places_where test place (row ∷ rows) = cond (test row) (place ∷ places_where test (place + 1) rows) (places_where test (place + 1) rows)

abbrev pub link : ℕ → ℕ → Link
link from to = record { from = from; to = to }

-- From each row of a table to the rows that match it by a foreign key, none for a row with NULL
-- in a referencing column. `base` and `others_base` are the places of the first rows.
abbrev pub foreign_links : List ℕ → List ℕ → ℕ → Rows → ℕ → Rows → List Link
foreign_links from to others_base others base [] = []
foreign_links from to others_base others base (row ∷ rows) =
    map (link base) (places_where (agree from to row) others_base others) ++ foreign_links from to others_base others (base + 1) rows

-- by foreign keys alone: the other rules hold for each part of rows for which they hold
abbrev pub rule_links : Tables → ℕ → Rows → Rule → List Link
rule_links all base rows (NotNull column) = []
rule_links all base rows (Key key) = []
rule_links all base rows (Foreign f) = foreign_links f.from f.to (base_of f.table all) (rows_at all f.table) base rows
rule_links all base rows (Check check) = []
rule_links all base rows (Depend d) = []

abbrev pub rules_links : Tables → ℕ → Rows → List Rule → List Link
rules_links all base rows [] = []
rules_links all base rows (rule ∷ rules) = rule_links all base rows rule ++ rules_links all base rows rules

-- of these tables, `all` being the rows of all tables
abbrev pub tables_links : Tables → ℕ → List Table → Tables → List Link
tables_links all base [] rest = []
tables_links all base (table ∷ tables) [] = []
tables_links all base (table ∷ tables) (rows ∷ rest) = rules_links all base rows table.rules ++ tables_links all (base + length rows) tables rest

-- which row refers to which, by the foreign keys of a schema
abbrev pub references : List Table → Tables → List Link
references schema tables = tables_links tables 0 schema tables

-- the rows of a set, and all rows to which these links lead from a row of the set
abbrev pub next : List Link → List Bool → List Bool
next [] set = set
next (l ∷ links) set = cond (is_marked set l.from) (slice_set (next links set) l.to true) (next links set)

-- so many steps from the first set
abbrev pub step : List Link → List Bool → ℕ → List Bool
step links first zero = first
step links first (suc n) = next links (step links first n)

-- Step 0 is the rows whose variables are under the goal, and each next step adds all rows that
-- rows of the set refer to. The cone is the step whose number is that of the rows.
pub record IsCone (schema : List Table) (tables : Tables) (d : Shared) (goal : ℕ) (cone : List Bool) : Type 0 where
  pub first : List Bool
  pub stand : AreRowsUnder d goal first
  pub is : cone ≡ step (references schema tables) first d.rows
