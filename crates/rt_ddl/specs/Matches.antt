-- Foreign keys whose columns match, by the names of the columns.
use Rattle.std.specs.Prelude.{Bool, true, false, List, Option, Some, None}
use Rattle.std.specs.List.{list_all}
use Rattle.rt_token.specs.Terminals.{Word}
use Rattle.rt_schema.specs.Schema.{columns_match}
use Rattle.rt_schema.specs.declared.table.Column.{Column}
use Rattle.rt_schema.specs.declared.table.Rule.{Rule}
use Rattle.rt_ddl.specs.Meaning.{columns_at, columns_of, key_matches, rules_made, tables_of, target}
use Rattle.rt_ddl.specs.declared.parts.Part.{Part}
use Rattle.rt_ddl.specs.declared.parts.Part.TheVariants as part
use Rattle.rt_ddl.specs.declared.parts.TableText.{TableText}

-- all these rules of a table with these columns
abbrev pub rules_match : List TableText → List Column → List Rule → Bool
rules_match ts cs rules = list_all (key_matches (tables_of ts) cs) rules

-- columns of these names, and those of the table that is meant
abbrev pub target_matches : List Column → List Word → Option TableText → Option (List Word) → Bool
target_matches cs from None to = false
target_matches cs from (Some t) to = columns_match cs (columns_at cs from) (columns_of t.parts) (target (Some t) to)

abbrev pub part_matches : List TableText → List Column → Part → Bool
part_matches ts cs (part.Column c) = true
part_matches ts cs (part.Rule alone r) = rules_match ts cs (rules_made ts cs r)
