-- The grammar of schema texts, as readers of terminals from the left.
--
-- They define what the reading of a schema answers. By the law `read_is_tree` that is the tree that
-- the tokens spell (`Spelled`).
use Rattle.std.specs.Prelude.{◌&&◌, ◌||◌, ℤ, Bool, true, false, List, [], ◌∷◌, Option, Some, None, codes, is_some}
use Rattle.rt_token.specs.Readers.{Parser, Step, ◌>>=◌, after_word, alternative, both, done, either, lead, lead_word, list_of, made, no_other, optional, paren, read_end, read_name, starts, step_after, step_when, word_alternative}
use Rattle.rt_token.specs.Terminals.{Kinds, tail_of}
use Rattle.rt_token.specs.declared.fixed.Fixed.TheVariants as fixed
use Rattle.rt_token.specs.declared.terminal.Name.{Name}
use Rattle.rt_token.specs.declared.terminal.Terminal.TheVariants as terminal
use Rattle.rt_ddl_tree.specs.TestReads.{read_condition}
use Rattle.rt_ddl_tree.specs.declared.tree.Column.{Column}
use Rattle.rt_ddl_tree.specs.declared.tree.ColumnConstraint.{ColumnConstraint}
use Rattle.rt_ddl_tree.specs.declared.tree.ColumnRule.{ColumnRule}
use Rattle.rt_ddl_tree.specs.declared.tree.ColumnRule.TheVariants as column_rule
use Rattle.rt_ddl_tree.specs.declared.tree.Create.{Create}
use Rattle.rt_ddl_tree.specs.declared.tree.Item.{Item}
use Rattle.rt_ddl_tree.specs.declared.tree.Item.TheVariants as item
use Rattle.rt_ddl_tree.specs.declared.tree.KindWord.{KindWord}
use Rattle.rt_ddl_tree.specs.declared.tree.KindWord.TheVariants as kind
use Rattle.rt_ddl_tree.specs.declared.tree.Names.{Names}
use Rattle.rt_ddl_tree.specs.declared.tree.SchemaText.{SchemaText}
use Rattle.rt_ddl_tree.specs.declared.tree.SchemaText.TheVariants as schema_text
use Rattle.rt_ddl_tree.specs.declared.tree.TableRule.{TableRule}
use Rattle.rt_ddl_tree.specs.declared.tree.TableRule.TheVariants as table_rule

-- ---- names

abbrev pub name_step : Step Name
name_step = step_after fixed.Comma read_name

abbrev pub names_of : Name × List Name → Names
names_of x = record { head = x.0; tail = x.1 }

unfoldable pub read_names : Parser Names
read_names = made names_of (paren (both read_name (list_of name_step)))

unfoldable pub read_maybe_names : Parser (Option Names)
read_maybe_names = optional (starts fixed.OpenParen) read_names

-- ---- kinds

abbrev pub read_number : Parser ℤ
read_number [] = None
read_number (terminal.Number n ∷ ks) = Some (n, ks)
read_number (k ∷ ks) = None

unfoldable pub read_size : Parser (Option ℤ)
read_size = optional (starts fixed.OpenParen) (paren read_number)

abbrev pub read_sized_kind : Parser KindWord
read_sized_kind = word_alternative (codes "char") (made kind.Char read_size) (word_alternative (codes "varchar") (made kind.VarChar read_size) no_other)

unfoldable pub read_kind : Parser KindWord
read_kind =
    word_alternative (codes "integer") (made (λ u. kind.Integer) done)
    (word_alternative (codes "int") (made (λ u. kind.Int) done)
    (word_alternative (codes "bigint") (made (λ u. kind.BigInt) done)
    (word_alternative (codes "text") (made (λ u. kind.Text) done) read_sized_kind)))

-- ---- rules of a column

abbrev pub references_of : Name × Option Name → ColumnRule
references_of x = column_rule.References x.0 x.1

unfoldable pub read_references : Parser (Name × Option Name)
read_references = both read_name (optional (starts fixed.OpenParen) (paren read_name))

abbrev pub read_other_column_rule : Parser ColumnRule
read_other_column_rule =
    alternative fixed.Unique (made (λ u. column_rule.Unique) done)
    (alternative fixed.Check (made column_rule.Check read_condition)
    (alternative fixed.References (made references_of read_references) no_other))

unfoldable pub read_column_rule : Parser ColumnRule
read_column_rule =
    alternative fixed.Not (made (λ u. column_rule.NotNull) (lead fixed.Null done))
    (alternative fixed.Null (made (λ u. column_rule.Null) done)
    (alternative fixed.Primary (made (λ u. column_rule.PrimaryKey) (lead_word (codes "key") done)) read_other_column_rule))

unfoldable pub read_constraint : Parser (Option Name)
read_constraint = optional (starts fixed.Constraint) (lead fixed.Constraint read_name)

abbrev pub column_constraint_of : Option Name × ColumnRule → ColumnConstraint
column_constraint_of x = record { name = x.0; rule = x.1 }

unfoldable pub read_column_constraint : Parser ColumnConstraint
read_column_constraint = made column_constraint_of (both read_constraint read_column_rule)

-- whether a rule of a column begins there
abbrev pub is_column_rule : Kinds → Bool
is_column_rule ks = starts fixed.Constraint ks || (starts fixed.Not ks || (starts fixed.Null ks || (starts fixed.Primary ks || (starts fixed.Unique ks || (starts fixed.References ks || starts fixed.Check ks)))))

abbrev pub column_constraint_step : Step ColumnConstraint
column_constraint_step = step_when is_column_rule read_column_constraint

abbrev pub column_of : Name × (KindWord × List ColumnConstraint) → Column
column_of x = record { name = x.0; kind = x.1.0; rules = x.1.1 }

unfoldable pub read_column : Parser Column
read_column = made column_of (both read_name (both read_kind (list_of column_constraint_step)))

-- ---- rules of a table

abbrev pub foreign_of : Names × (Name × Option Names) → TableRule
foreign_of x = table_rule.Foreign x.0 x.1.0 x.1.1

unfoldable pub read_foreign : Parser (Names × (Name × Option Names))
read_foreign = both read_names (lead fixed.References (both read_name read_maybe_names))

abbrev pub depend_of : Names × Names → TableRule
depend_of x = table_rule.Depend x.0 x.1

unfoldable pub read_depend : Parser (Names × Names)
read_depend = both read_names (lead_word (codes "determines") read_names)

abbrev pub read_other_table_rule : Parser TableRule
read_other_table_rule =
    alternative fixed.Check (made table_rule.Check read_condition)
    (word_alternative (codes "dependency") (made depend_of read_depend) no_other)

unfoldable pub read_table_rule : Parser TableRule
read_table_rule =
    alternative fixed.Primary (made table_rule.PrimaryKey (lead_word (codes "key") read_names))
    (alternative fixed.Unique (made table_rule.Unique read_names)
    (alternative fixed.Foreign (made foreign_of (lead_word (codes "key") read_foreign)) read_other_table_rule))

-- whether DEPENDENCY comes next as a keyword, and not as a column's name
abbrev pub is_dependency : Kinds → Bool
is_dependency ks = starts fixed.OpenParen (tail_of ks) && is_some (after_word (codes "dependency") ks)

-- whether a rule of a table begins there
abbrev pub is_table_rule : Kinds → Bool
is_table_rule ks = starts fixed.Constraint ks || (starts fixed.Primary ks || (starts fixed.Unique ks || (starts fixed.Foreign ks || (starts fixed.Check ks || is_dependency ks))))

abbrev pub rule_of : Option Name × TableRule → Item
rule_of x = item.Rule x.0 x.1

unfoldable pub read_item : Parser Item
read_item = either is_table_rule (made rule_of (both read_constraint read_table_rule)) (made item.Column read_column)

-- ---- tables

abbrev pub item_step : Step Item
item_step = step_after fixed.Comma read_item

unfoldable pub read_items : Parser (Item × List Item)
read_items = paren (both read_item (list_of item_step))

abbrev pub create_of : Bool → Name × (Item × List Item) → Create
create_of b x = record { if_not_exists = b; name = x.0; head = x.1.0; tail = x.1.1 }

unfoldable pub read_made : Parser (Name × (Item × List Item))
read_made = both read_name read_items

-- whether IF comes next as a keyword, and not as the table's name
abbrev pub is_if : Kinds → Bool
is_if ks = starts fixed.Not (tail_of ks)

unfoldable pub read_create : Parser Create
read_create = lead fixed.Create (lead fixed.Table (either is_if
    (made (create_of true) (lead_word (codes "if") (lead fixed.Not (lead fixed.Exists read_made))))
    (made (create_of false) read_made)))

-- whether another table follows a semicolon
abbrev pub starts_more : Kinds → Bool
starts_more ks = starts fixed.Semicolon ks && starts fixed.Create (tail_of ks)

abbrev pub create_step : Step Create
create_step = step_when starts_more (lead fixed.Semicolon read_create)

-- ---- all the terminals

abbrev pub read_creates : Kinds → Option SchemaText
read_creates ks = read_create ks >>= λ c. list_of create_step c.1 >>= λ cs. read_end cs.1 >>= λ b. Some (schema_text.Creates c.0 cs.0 b)

unfoldable pub read_text : Kinds → Option SchemaText
read_text [] = Some schema_text.Empty
read_text (k ∷ ks) = read_creates (k ∷ ks)
