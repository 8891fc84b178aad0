-- How much work the law is counted as: the pairs of rows that a key, a foreign key or a functional
-- dependency compares, and the rows that a check reads.
use Rattle.std.specs.Prelude.{ℕ, ◌+◌, List, [], ◌∷◌, count_by, length, sum_by}
use Rattle.rt_schema.specs.Capped.{capped}
use Rattle.rt_schema.specs.Given.{Rows, Tables, rows_at}
use Rattle.rt_schema.specs.Cells.{agree}
use Rattle.rt_schema.specs.declared.table.Rule.{Rule}
use Rattle.rt_schema.specs.declared.table.Rule.TheVariants.{NotNull, Key, Foreign, Check, Depend}
use Rattle.rt_schema.specs.declared.table.Table.{Table}

-- the unordered pairs of rows that agree on the columns of a key
abbrev pub key_pairs : List ℕ → Rows → ℕ
key_pairs key [] = 0
key_pairs key (row ∷ rows) = count_by (agree key key row) rows + key_pairs key rows

-- the pairs of a referencing and a referenced row that agree
abbrev pub foreign_pairs : List ℕ → List ℕ → Rows → Rows → ℕ
foreign_pairs from to others rows = sum_by (λ row. count_by (agree from to row) others) rows

abbrev pub rule_pairs : Rule → Rows → Tables → ℕ
rule_pairs (NotNull column) rows tables = 0
rule_pairs (Key key) rows tables = key_pairs key rows
rule_pairs (Foreign f) rows tables = foreign_pairs f.from f.to (rows_at tables f.table) rows
rule_pairs (Check check) rows tables = length rows
rule_pairs (Depend d) rows tables = key_pairs d.from rows

abbrev pub rules_pairs : List Rule → Rows → Tables → ℕ
rules_pairs rules rows tables = sum_by (λ rule. rule_pairs rule rows tables) rules

-- the pairs of all rules of all tables, `all` being the rows of all tables
abbrev pub tables_pairs : List Table → Tables → Tables → ℕ
tables_pairs [] rest all = 0
tables_pairs (table ∷ schema) [] all = 0
tables_pairs (table ∷ schema) (rows ∷ rest) all = rules_pairs table.rules rows all + tables_pairs schema rest all

abbrev pub law_work : List Table → Tables → ℕ
law_work schema tables = capped (tables_pairs schema tables tables)
