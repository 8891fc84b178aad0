-- Sub-instances: the rows that a choice of places keeps (Miao, Roy and Yang, SIGMOD 2019).
use Rattle.std.specs.Prelude.{Bool, cond, List, [], ◌∷◌, drop, length}
use Rattle.rt_schema.specs.Given.{Rows, Tables}

-- the rows whose Bool is true, in order
abbrev pub kept_rows : Rows → List Bool → Rows
kept_rows [] keep = []
kept_rows (row ∷ rows) [] = []
kept_rows (row ∷ rows) (b ∷ keep) = cond b (row ∷ kept_rows rows keep) (kept_rows rows keep)

-- the kept rows of each table: the places of a table follow those of the tables before it
abbrev pub kept : Tables → List Bool → Tables
kept [] keep = []
kept (rows ∷ tables) keep = kept_rows rows keep ∷ kept tables (drop (length rows) keep)
