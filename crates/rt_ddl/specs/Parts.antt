-- What the tree of a schema text says, in text order (ISO/IEC 9075-2, column definition, table
-- constraint definition).
--
-- IF NOT EXISTS, the number after CHAR or VARCHAR, the rule NULL and the names of constraints have
-- no effect. A rule written with a column is the rule over this one column, but a CHECK may name
-- every column of its table.
use Rattle.std.specs.Prelude.{true, false, List, [], ◌∷◌, ◌++◌, map, Option, Some, None, option_map}
use Rattle.std.specs.List.{flat_map}
use Rattle.rt_token.specs.Terminals.{Word}
use Rattle.rt_token.specs.declared.terminal.Name.{Name}
use Rattle.rt_schema.specs.declared.table.ColKind.{ColKind}
use Rattle.rt_schema.specs.declared.table.ColKind.TheVariants as of_kind
use Rattle.rt_ddl.specs.declared.parts.Part.{Part}
use Rattle.rt_ddl.specs.declared.parts.Part.TheVariants as part
use Rattle.rt_ddl.specs.declared.parts.RuleText.{RuleText}
use Rattle.rt_ddl.specs.declared.parts.RuleText.TheVariants as rule
use Rattle.rt_ddl.specs.declared.parts.TableText.{TableText}
use Rattle.rt_ddl_tree.specs.declared.tree.Column.{Column}
use Rattle.rt_ddl_tree.specs.declared.tree.ColumnRule.{ColumnRule}
use Rattle.rt_ddl_tree.specs.declared.tree.ColumnRule.TheVariants as column_rule
use Rattle.rt_ddl_tree.specs.declared.tree.Create.{Create}
use Rattle.rt_ddl_tree.specs.declared.tree.Item.{Item}
use Rattle.rt_ddl_tree.specs.declared.tree.Item.TheVariants as item
use Rattle.rt_ddl_tree.specs.declared.tree.KindWord.{KindWord}
use Rattle.rt_ddl_tree.specs.declared.tree.KindWord.TheVariants as word
use Rattle.rt_ddl_tree.specs.declared.tree.Names.{Names}
use Rattle.rt_ddl_tree.specs.declared.tree.SchemaText.{SchemaText}
use Rattle.rt_ddl_tree.specs.declared.tree.SchemaText.TheVariants as schema_text
use Rattle.rt_ddl_tree.specs.declared.tree.TableRule.{TableRule}
use Rattle.rt_ddl_tree.specs.declared.tree.TableRule.TheVariants as table_rule

abbrev pub texts_of : List Name → List Word
texts_of ns = map (λ n. n.text) ns

abbrev pub names_of : Names → List Word
names_of ns = ns.head.text ∷ texts_of ns.tail

abbrev pub kind_of : KindWord → ColKind
kind_of word.Integer = of_kind.Whole
kind_of word.Int = of_kind.Whole
kind_of word.BigInt = of_kind.Whole
kind_of word.Text = of_kind.Text
kind_of (word.Char n) = of_kind.Text
kind_of (word.VarChar n) = of_kind.Text

-- a rule written with the column of this name
abbrev pub column_rule_parts : Word → ColumnRule → List Part
column_rule_parts name column_rule.NotNull = part.Rule false (rule.NotNull name) ∷ []
column_rule_parts name column_rule.Null = []
column_rule_parts name column_rule.PrimaryKey = part.Rule false (rule.PrimaryKey (name ∷ [])) ∷ []
column_rule_parts name column_rule.Unique = part.Rule false (rule.Unique (name ∷ [])) ∷ []
column_rule_parts name (column_rule.References t c) = part.Rule false (rule.Foreign (name ∷ []) t.text (option_map (λ n. n.text ∷ []) c)) ∷ []
column_rule_parts name (column_rule.Check t) = part.Rule false (rule.Check t) ∷ []

-- a rule written with a column, or none
abbrev pub rule_parts : Option RuleText → List Part
rule_parts None = []
rule_parts (Some r) = part.Rule false r ∷ []

abbrev pub column_parts : Column → List Part
column_parts c = part.Column (record { name = c.name.text; kind = kind_of c.kind }) ∷ flat_map (λ r. column_rule_parts c.name.text r.rule) c.rules

abbrev pub table_rule_text : TableRule → RuleText
table_rule_text (table_rule.PrimaryKey ns) = rule.PrimaryKey (names_of ns)
table_rule_text (table_rule.Unique ns) = rule.Unique (names_of ns)
table_rule_text (table_rule.Foreign ns t ms) = rule.Foreign (names_of ns) t.text (option_map names_of ms)
table_rule_text (table_rule.Check t) = rule.Check t
table_rule_text (table_rule.Depend from to) = rule.Depend (names_of from) (names_of to)

abbrev pub item_parts : Item → List Part
item_parts (item.Column c) = column_parts c
item_parts (item.Rule n r) = part.Rule true (table_rule_text r) ∷ []

abbrev pub table_text : Create → TableText
table_text c = record { name = c.name.text; parts = item_parts c.head ++ flat_map item_parts c.tail }

abbrev pub table_texts : SchemaText → List TableText
table_texts schema_text.Empty = []
table_texts (schema_text.Creates c cs semi) = table_text c ∷ map table_text cs
