-- When rows meet the rules of a schema. Source: ISO/IEC 9075-2, unique constraint definition with
-- NULLS DISTINCT, referential constraint definition with MATCH SIMPLE, and check constraint
-- definition; also 4.18, functional dependencies.
use Rattle.std.specs.Prelude.{ℕ, Bool, true, false, not, ◌&&◌, ◌||◌, List, [], ◌∷◌}
use Rattle.std.specs.List.{list_all, list_any}
use Rattle.rt_value.specs.declared.truth.Truth.{Truth}
use Rattle.rt_value.specs.declared.truth.Truth.TheVariants.{Yes, No, Unknown}
use Rattle.rt_schema.specs.Cells.{agree, cell, cells, is_null, same_in}
use Rattle.rt_schema.specs.Check.{check_truth}
use Rattle.rt_schema.specs.Given.{Rows, Tables, rows_at}
use Rattle.rt_schema.specs.declared.check.Check.{Check as Condition}
use Rattle.rt_schema.specs.declared.table.Rule.{Rule}
use Rattle.rt_schema.specs.declared.table.Rule.TheVariants.{NotNull, Key, Foreign, Check, Depend}
use Rattle.rt_schema.specs.declared.table.Table.{Table}

-- no row has NULL in the column
abbrev pub not_null_holds : ℕ → Rows → Bool
not_null_holds column rows = list_all (λ row. not (is_null (cell row column))) rows

-- no two rows agree on the columns of the key
abbrev pub key_holds : List ℕ → Rows → Bool
key_holds key [] = true
key_holds key (row ∷ rows) = not (list_any (agree key key row) rows) && key_holds key rows

-- each row has NULL in a referencing column, or agrees with a row of the referenced table
abbrev pub foreign_holds : List ℕ → List ℕ → Rows → Rows → Bool
foreign_holds from to others rows = list_all (λ row. list_any is_null (cells from row) || list_any (agree from to row) others) rows

-- a check refuses No alone: what is unknown passes
abbrev pub passes : Truth → Bool
passes Yes = true
passes No = false
passes Unknown = true

-- no row makes the check No
abbrev pub check_holds : Condition → Rows → Bool
check_holds check rows = list_all (λ row. passes (check_truth row check)) rows

-- rows that agree on the columns `from` are the same in the columns `to`
abbrev pub depend_holds : List ℕ → List ℕ → Rows → Bool
depend_holds from to [] = true
depend_holds from to (row ∷ rows) = list_all (λ other. not (agree from from row other) || same_in to row other) rows && depend_holds from to rows

-- a rule of the table that has the rows `rows`
abbrev pub rule_holds : Rule → Rows → Tables → Bool
rule_holds (NotNull column) rows tables = not_null_holds column rows
rule_holds (Key key) rows tables = key_holds key rows
rule_holds (Foreign f) rows tables = foreign_holds f.from f.to (rows_at tables f.table) rows
rule_holds (Check check) rows tables = check_holds check rows
rule_holds (Depend d) rows tables = depend_holds d.from d.to rows

abbrev pub rules_hold : List Rule → Rows → Tables → Bool
rules_hold rules rows tables = list_all (λ rule. rule_holds rule rows tables) rules

-- the rules of each table of a schema hold for its rows, `all` being the rows of all tables
abbrev pub tables_hold : List Table → Tables → Tables → Bool
tables_hold [] rest all = true
tables_hold (table ∷ schema) [] all = true
tables_hold (table ∷ schema) (rows ∷ rest) all = rules_hold table.rules rows all && tables_hold schema rest all

abbrev pub lawful : List Table → Tables → Bool
lawful schema tables = tables_hold schema tables tables
