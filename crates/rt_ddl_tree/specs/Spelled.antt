-- The tokens of a schema text's tree (ISO/IEC 9075-2, table definition). The grammar is in the
-- comments of the tree's types.
use Rattle.std.specs.Prelude.{◌≡◌, ℤ, Bool, true, false, List, [], ◌∷◌, ◌++◌, map, codes}
use Rattle.std.specs.List.{flat_map}
use Rattle.rt_token.specs.Terminals.{Kinds, Word, flag, in_paren, maybe}
use Rattle.rt_token.specs.Words.{all_formed, kind_of, kinds}
use Rattle.rt_token.specs.declared.fixed.Fixed.{Fixed}
use Rattle.rt_token.specs.declared.fixed.Fixed.TheVariants as fixed
use Rattle.rt_token.specs.declared.terminal.Name.{Name}
use Rattle.rt_token.specs.declared.terminal.Terminal.{Terminal}
use Rattle.rt_token.specs.declared.terminal.Terminal.TheVariants as terminal
use Rattle.rt_token.specs.declared.token.Token.{Token}
use Rattle.rt_token.specs.declared.token.TokenKind.{TokenKind}
use Rattle.rt_ddl_tree.specs.TestSpelled.{spelled_test}
use Rattle.rt_ddl_tree.specs.declared.tree.Column.{Column}
use Rattle.rt_ddl_tree.specs.declared.tree.ColumnConstraint.{ColumnConstraint}
use Rattle.rt_ddl_tree.specs.declared.tree.ColumnRule.{ColumnRule}
use Rattle.rt_ddl_tree.specs.declared.tree.ColumnRule.TheVariants as column_rule
use Rattle.rt_ddl_tree.specs.declared.tree.Create.{Create}
use Rattle.rt_ddl_tree.specs.declared.tree.Item.{Item}
use Rattle.rt_ddl_tree.specs.declared.tree.Item.TheVariants as item
use Rattle.rt_ddl_tree.specs.declared.tree.KindWord.{KindWord}
use Rattle.rt_ddl_tree.specs.declared.tree.KindWord.TheVariants as kind
use Rattle.rt_ddl_tree.specs.declared.tree.Names.{Names}
use Rattle.rt_ddl_tree.specs.declared.tree.SchemaText.{SchemaText}
use Rattle.rt_ddl_tree.specs.declared.tree.SchemaText.TheVariants as schema_text
use Rattle.rt_ddl_tree.specs.declared.tree.TableRule.{TableRule}
use Rattle.rt_ddl_tree.specs.declared.tree.TableRule.TheVariants as table_rule

-- a word that isn't reserved
abbrev pub plain_word : Word → Terminal
plain_word w = terminal.Name (record { text = w; quoted = false })

abbrev pub the : Fixed → Terminal
the f = terminal.Fixed f

abbrev pub key_word : Terminal
key_word = plain_word (codes "key")

abbrev pub spelled_name : Name → Kinds
spelled_name n = terminal.Name n ∷ []

-- each after a comma
abbrev pub more : {A : Type 0} → (A → Kinds) → List A → Kinds
more spelled xs = flat_map (λ x. the fixed.Comma ∷ spelled x) xs

abbrev pub spelled_names : Names → Kinds
spelled_names ns = in_paren (spelled_name ns.head ++ more spelled_name ns.tail)

abbrev pub spelled_size : ℤ → Kinds
spelled_size n = in_paren (terminal.Number n ∷ [])

abbrev pub spelled_kind : KindWord → Kinds
spelled_kind kind.Integer = plain_word (codes "integer") ∷ []
spelled_kind kind.Int = plain_word (codes "int") ∷ []
spelled_kind kind.BigInt = plain_word (codes "bigint") ∷ []
spelled_kind kind.Text = plain_word (codes "text") ∷ []
spelled_kind (kind.Char n) = plain_word (codes "char") ∷ maybe spelled_size n
spelled_kind (kind.VarChar n) = plain_word (codes "varchar") ∷ maybe spelled_size n

abbrev pub spelled_column_rule : ColumnRule → Kinds
spelled_column_rule column_rule.NotNull = the fixed.Not ∷ the fixed.Null ∷ []
spelled_column_rule column_rule.Null = the fixed.Null ∷ []
spelled_column_rule column_rule.PrimaryKey = the fixed.Primary ∷ key_word ∷ []
spelled_column_rule column_rule.Unique = the fixed.Unique ∷ []
spelled_column_rule (column_rule.References t c) = the fixed.References ∷ terminal.Name t ∷ maybe (λ n. in_paren (spelled_name n)) c
spelled_column_rule (column_rule.Check t) = the fixed.Check ∷ in_paren (spelled_test t)

abbrev pub spelled_constraint : Name → Kinds
spelled_constraint n = the fixed.Constraint ∷ spelled_name n

abbrev pub spelled_column_constraint : ColumnConstraint → Kinds
spelled_column_constraint c = maybe spelled_constraint c.name ++ spelled_column_rule c.rule

abbrev pub spelled_column : Column → Kinds
spelled_column c = spelled_name c.name ++ (spelled_kind c.kind ++ flat_map spelled_column_constraint c.rules)

abbrev pub spelled_table_rule : TableRule → Kinds
spelled_table_rule (table_rule.PrimaryKey ns) = the fixed.Primary ∷ key_word ∷ spelled_names ns
spelled_table_rule (table_rule.Unique ns) = the fixed.Unique ∷ spelled_names ns
spelled_table_rule (table_rule.Foreign ns t ms) = the fixed.Foreign ∷ key_word ∷ (spelled_names ns ++ the fixed.References ∷ terminal.Name t ∷ maybe spelled_names ms)
spelled_table_rule (table_rule.Check t) = the fixed.Check ∷ in_paren (spelled_test t)
spelled_table_rule (table_rule.Depend from to) = plain_word (codes "dependency") ∷ (spelled_names from ++ plain_word (codes "determines") ∷ spelled_names to)

abbrev pub spelled_item : Item → Kinds
spelled_item (item.Column c) = spelled_column c
spelled_item (item.Rule n r) = maybe spelled_constraint n ++ spelled_table_rule r

abbrev pub if_not_exists : Bool → Kinds
if_not_exists false = []
if_not_exists true = plain_word (codes "if") ∷ the fixed.Not ∷ the fixed.Exists ∷ []

abbrev pub spelled_create : Create → Kinds
spelled_create c = the fixed.Create ∷ the fixed.Table ∷ (if_not_exists c.if_not_exists ++ (spelled_name c.name ++ in_paren (spelled_item c.head ++ more spelled_item c.tail)))

-- the terminals of a text
abbrev pub spelled : SchemaText → Kinds
spelled schema_text.Empty = []
spelled (schema_text.Creates c cs semi) = spelled_create c ++ (flat_map (λ d. the fixed.Semicolon ∷ spelled_create d) cs ++ flag fixed.Semicolon semi)

-- the kinds of its tokens
abbrev pub spelled_kinds : SchemaText → List TokenKind
spelled_kinds t = map kind_of (spelled t)

-- its names are names, and its numbers are from 0 to 2^127 - 1
abbrev pub IsFormed : SchemaText → Type 0
IsFormed t = all_formed (spelled t) ≡ true

-- the tokens are those of the tree
abbrev pub IsTreeOf : List Token → SchemaText → Type 0
IsTreeOf tokens t = IsFormed t × (spelled_kinds t ≡ kinds tokens)
