-- Which schema a text makes, or its first error (ISO/IEC 9075-2, table definition; our own limits).
--
-- There are five tests, one after the other over the whole text: a name given twice, a name that is
-- unknown, a foreign key whose columns do not match, an excess, and a check of mixed kinds. Of the
-- errors of one test the first place in text order decides.
use Rattle.std.specs.Prelude.{ℕ, suc, Bool, true, false, if◌then◌else◌, List, [], ◌∷◌, ◌++◌, count_by, length, map, Option, Some, None, Result, Ok, Err, bytes_eq, nat_lt, slice_get}
use Rattle.std.specs.List.{flat_map, list_all, list_any}
use Rattle.rt_token.specs.Terminals.{Word}
use Rattle.rt_schema.specs.Schema.{check_typed, foreign_sound}
use Rattle.rt_schema.specs.declared.table.Column.{Column}
use Rattle.rt_schema.specs.declared.table.Rule.{Rule}
use Rattle.rt_schema.specs.declared.table.Rule.TheVariants as made
use Rattle.rt_schema.specs.declared.table.Table.{Table}
use Rattle.rt_ddl.specs.Checks.{check_made}
use Rattle.rt_ddl.specs.declared.fault.Excess.TheVariants as excess
use Rattle.rt_ddl.specs.declared.fault.SchemaFault.{SchemaFault}
use Rattle.rt_ddl.specs.declared.fault.SchemaFault.TheVariants as fault
use Rattle.rt_ddl.specs.declared.parts.Part.{Part}
use Rattle.rt_ddl.specs.declared.parts.Part.TheVariants as part
use Rattle.rt_ddl.specs.declared.parts.RuleText.{RuleText}
use Rattle.rt_ddl.specs.declared.parts.RuleText.TheVariants as rule
use Rattle.rt_ddl.specs.declared.parts.TableText.{TableText}
use Rattle.rt_ddl_tree.specs.declared.test_tree.Test.{Test}
use Rattle.rt_ddl_tree.specs.declared.test_tree.TestForm.{TestForm}
use Rattle.rt_ddl_tree.specs.declared.test_tree.TestForm.TheVariants as form
use Rattle.rt_ddl_tree.specs.declared.test_tree.TestLeaf.{TestLeaf}
use Rattle.rt_ddl_tree.specs.declared.test_tree.TestPart.{TestPart}
use Rattle.rt_ddl_tree.specs.declared.test_tree.TestSide.{TestSide}
use Rattle.rt_ddl_tree.specs.declared.test_tree.TestSide.TheVariants as side

-- the first of two, if there is one
abbrev pub or_else : {A : Type 0} → Option A → Option A → Option A
or_else None o = o
or_else (Some x) o = Some x

abbrev pub given : {A : Type 0} → Bool → A → Option A
given true x = Some x
given false x = None

-- ---- a name that is given twice

abbrev pub has_name : List Word → Word → Bool
has_name ns n = list_any (λ m. bytes_eq m n) ns

abbrev pub is_column : Word → Part → Bool
is_column n (part.Column c) = bytes_eq c.name n
is_column n (part.Rule t r) = false

abbrev pub has_column : List Part → Word → Bool
has_column ps n = list_any (is_column n) ps

abbrev pub is_primary_rule : RuleText → Bool
is_primary_rule (rule.NotNull n) = false
is_primary_rule (rule.PrimaryKey ns) = true
is_primary_rule (rule.Unique ns) = false
is_primary_rule (rule.Foreign from t to) = false
is_primary_rule (rule.Check t) = false
is_primary_rule (rule.Depend from to) = false

abbrev pub is_primary : Part → Bool
is_primary (part.Column c) = false
is_primary (part.Rule t r) = is_primary_rule r

abbrev pub has_primary : List Part → Bool
has_primary ps = list_any is_primary ps

abbrev pub has_table : List TableText → Word → Bool
has_table ts n = list_any (λ t. bytes_eq t.name n) ts

-- the first of the names that is also one before it, or among those before them all
abbrev pub name_twice : List Word → List Word → Option Word
name_twice before [] = None
name_twice before (n ∷ ns) = or_else (given (has_name before n) n) (name_twice (before ++ n ∷ []) ns)

abbrev pub maybe_twice : Option (List Word) → Option Word
maybe_twice None = None
maybe_twice (Some ns) = name_twice [] ns

-- a rule of the table after the parts before: a second primary key names the table
abbrev pub rule_twice : Word → List Part → RuleText → Option Word
rule_twice table before (rule.NotNull n) = None
rule_twice table before (rule.PrimaryKey ns) = or_else (given (has_primary before) table) (name_twice [] ns)
rule_twice table before (rule.Unique ns) = name_twice [] ns
rule_twice table before (rule.Foreign from t to) = or_else (name_twice [] from) (maybe_twice to)
rule_twice table before (rule.Check t) = None
rule_twice table before (rule.Depend from to) = or_else (name_twice [] from) (name_twice [] to)

abbrev pub part_twice : Word → List Part → Part → Option Word
part_twice table before (part.Column c) = given (has_column before c.name) c.name
part_twice table before (part.Rule t r) = rule_twice table before r

abbrev pub parts_twice : Word → List Part → List Part → Option Word
parts_twice table before [] = None
parts_twice table before (p ∷ ps) = or_else (part_twice table before p) (parts_twice table (before ++ p ∷ []) ps)

abbrev pub table_twice : List TableText → TableText → Option Word
table_twice before t = or_else (given (has_table before t.name) t.name) (parts_twice t.name [] t.parts)

abbrev pub tables_twice : List TableText → List TableText → Option Word
tables_twice before [] = None
tables_twice before (t ∷ ts) = or_else (table_twice before t) (tables_twice (before ++ t ∷ []) ts)

-- ---- a name that is unknown

unfoldable pub unknown_column : List Part → Word → Option Word
unknown_column ps n = if has_column ps n then None else Some n

-- the first of the names that no column has
abbrev pub missing : List Part → List Word → Option Word
missing ps [] = None
missing ps (n ∷ ns) = or_else (unknown_column ps n) (missing ps ns)

-- the same of the names in a condition
abbrev pub side_unknown : List Part → TestSide → Option Word
side_unknown ps (side.Column n) = unknown_column ps n.text
side_unknown ps (side.Number m n) = None
side_unknown ps (side.Str t) = None
side_unknown ps side.Null = None

abbrev pub sides_unknown : List Part → List TestSide → Option Word
sides_unknown ps [] = None
sides_unknown ps (s ∷ ss) = or_else (side_unknown ps s) (sides_unknown ps ss)

abbrev pub form_unknown : List Part → TestForm → Option Word
form_unknown ps (form.Cmp a o b) = or_else (side_unknown ps a) (side_unknown ps b)
form_unknown ps (form.IsNull a n) = side_unknown ps a
form_unknown ps (form.Between a n low high) = or_else (side_unknown ps a) (or_else (side_unknown ps low) (side_unknown ps high))
form_unknown ps (form.OneOf a n b bs) = or_else (side_unknown ps a) (or_else (side_unknown ps b) (sides_unknown ps bs))

abbrev pub leaves_unknown : List Part → List TestLeaf → Option Word
leaves_unknown ps [] = None
leaves_unknown ps (l ∷ ls) = or_else (form_unknown ps l.form) (leaves_unknown ps ls)

abbrev pub all_unknown : List Part → TestPart → Option Word
all_unknown ps p = or_else (form_unknown ps p.head.form) (leaves_unknown ps p.tail)

abbrev pub any_unknown : List Part → List TestPart → Option Word
any_unknown ps [] = None
any_unknown ps (p ∷ qs) = or_else (all_unknown ps p) (any_unknown ps qs)

abbrev pub test_unknown : List Part → Test → Option Word
test_unknown ps t = or_else (all_unknown ps t.head) (any_unknown ps t.tail)

abbrev pub table_named : List TableText → Word → Option TableText
table_named [] n = None
table_named (t ∷ ts) n = if bytes_eq t.name n then Some t else table_named ts n

-- the columns of a referenced table, or those of its primary key
abbrev pub target_unknown : Word → Option TableText → Option (List Word) → Option Word
target_unknown n None to = Some n
target_unknown n (Some t) None = if has_primary t.parts then None else Some n
target_unknown n (Some t) (Some to) = missing t.parts to

abbrev pub rule_unknown : List TableText → List Part → RuleText → Option Word
rule_unknown ts ps (rule.NotNull n) = unknown_column ps n
rule_unknown ts ps (rule.PrimaryKey ns) = missing ps ns
rule_unknown ts ps (rule.Unique ns) = missing ps ns
rule_unknown ts ps (rule.Foreign from t to) = or_else (missing ps from) (target_unknown t (table_named ts t) to)
rule_unknown ts ps (rule.Check t) = test_unknown ps t
rule_unknown ts ps (rule.Depend from to) = or_else (missing ps from) (missing ps to)

abbrev pub part_unknown : List TableText → List Part → Part → Option Word
part_unknown ts ps (part.Column c) = None
part_unknown ts ps (part.Rule t r) = rule_unknown ts ps r

abbrev pub parts_unknown : List TableText → List Part → List Part → Option Word
parts_unknown ts all [] = None
parts_unknown ts all (p ∷ ps) = or_else (part_unknown ts all p) (parts_unknown ts all ps)

abbrev pub tables_unknown : List TableText → List TableText → Option Word
tables_unknown all [] = None
tables_unknown all (t ∷ ts) = or_else (parts_unknown all t.parts t.parts) (tables_unknown all ts)

-- ---- the tables

abbrev pub columns_of : List Part → List Column
columns_of [] = []
columns_of (part.Column c ∷ ps) = c ∷ columns_of ps
columns_of (part.Rule t r ∷ ps) = columns_of ps

-- the number of the column of this name
abbrev pub column_at : List Column → Word → ℕ
column_at [] n = 0
column_at (c ∷ cs) n = if bytes_eq c.name n then 0 else suc (column_at cs n)

abbrev pub columns_at : List Column → List Word → List ℕ
columns_at cs ns = map (column_at cs) ns

abbrev pub table_at : List TableText → Word → ℕ
table_at [] n = 0
table_at (t ∷ ts) n = if bytes_eq t.name n then 0 else suc (table_at ts n)

-- the columns of the primary key
abbrev pub primary_of : List Part → List Word
primary_of [] = []
primary_of (part.Rule t (rule.PrimaryKey ns) ∷ ps) = ns
primary_of (p ∷ ps) = primary_of ps

-- the numbers of the referenced columns
abbrev pub target : Option TableText → Option (List Word) → List ℕ
target None to = []
target (Some t) None = columns_at (columns_of t.parts) (primary_of t.parts)
target (Some t) (Some to) = columns_at (columns_of t.parts) to

abbrev pub rules_made : List TableText → List Column → RuleText → List Rule
rules_made ts cs (rule.NotNull n) = made.NotNull (column_at cs n) ∷ []
rules_made ts cs (rule.PrimaryKey ns) = made.Key (columns_at cs ns) ∷ map (λ c. made.NotNull c) (columns_at cs ns)
rules_made ts cs (rule.Unique ns) = made.Key (columns_at cs ns) ∷ []
rules_made ts cs (rule.Foreign from t to) = made.Foreign (record { from = columns_at cs from; table = table_at ts t; to = target (table_named ts t) to }) ∷ []
rules_made ts cs (rule.Check t) = made.Check (check_made (column_at cs) t) ∷ []
rules_made ts cs (rule.Depend from to) = made.Depend (record { from = columns_at cs from; to = columns_at cs to }) ∷ []

-- the rules that are items of the table (true), or those written with a column (false)
abbrev pub part_rules : Bool → List TableText → List Column → Part → List Rule
part_rules true ts cs (part.Column c) = []
part_rules true ts cs (part.Rule true r) = rules_made ts cs r
part_rules true ts cs (part.Rule false r) = []
part_rules false ts cs (part.Column c) = []
part_rules false ts cs (part.Rule true r) = []
part_rules false ts cs (part.Rule false r) = rules_made ts cs r

abbrev pub table_of : List TableText → TableText → Table
table_of ts t = record {
  name = t.name;
  columns = columns_of t.parts;
  rules = flat_map (part_rules false ts (columns_of t.parts)) t.parts ++ flat_map (part_rules true ts (columns_of t.parts)) t.parts;
}

abbrev pub tables_of : List TableText → List Table
tables_of ts = map (table_of ts) ts

-- ---- a foreign key whose columns do not match

abbrev pub key_matches : List Table → List Column → Rule → Bool
key_matches ts cs (made.NotNull c) = true
key_matches ts cs (made.Key k) = true
key_matches ts cs (made.Foreign f) = foreign_sound cs (slice_get ts f.table) f
key_matches ts cs (made.Check c) = true
key_matches ts cs (made.Depend d) = true

abbrev pub keys_match : List Table → Table → Bool
keys_match all t = list_all (key_matches all t.columns) t.rules

unfoldable pub mismatch : List Table → Table → Option Word
mismatch all t = if keys_match all t then None else Some t.name

-- the first table that has one
abbrev pub mismatched : List Table → List Table → Option Word
mismatched all [] = None
mismatched all (t ∷ ts) = or_else (mismatch all t) (mismatched all ts)

-- ---- an excess

-- keys, foreign keys, checks and dependencies
abbrev pub is_counted : Rule → Bool
is_counted (made.NotNull c) = false
is_counted (made.Key k) = true
is_counted (made.Foreign f) = true
is_counted (made.Check c) = true
is_counted (made.Depend d) = true

abbrev pub most : ℕ
most = 64

abbrev pub is_wide : Table → Bool
is_wide t = nat_lt most (length t.columns)

abbrev pub is_ruled : Table → Bool
is_ruled t = nat_lt most (count_by is_counted t.rules)

abbrev pub table_excess : Table → Option SchemaFault
table_excess t = or_else (given (is_wide t) (fault.TooMany (excess.Columns t.name))) (given (is_ruled t) (fault.TooMany (excess.Rules t.name)))

abbrev pub tables_excess : List Table → Option SchemaFault
tables_excess [] = None
tables_excess (t ∷ ts) = or_else (table_excess t) (tables_excess ts)

abbrev pub excess_of : List Table → Option SchemaFault
excess_of ts = or_else (given (nat_lt most (length ts)) (fault.TooMany excess.Tables)) (tables_excess ts)

-- ---- a check that compares a whole number with a text

abbrev pub rule_typed : List Column → Rule → Bool
rule_typed cs (made.NotNull c) = true
rule_typed cs (made.Key k) = true
rule_typed cs (made.Foreign f) = true
rule_typed cs (made.Check c) = check_typed cs c
rule_typed cs (made.Depend d) = true

abbrev pub checks_typed : Table → Bool
checks_typed t = list_all (rule_typed t.columns) t.rules

unfoldable pub mistyped : Table → Option Word
mistyped t = if checks_typed t then None else Some t.name

-- the first table that has one
abbrev pub untyped : List Table → Option Word
untyped [] = None
untyped (t ∷ ts) = or_else (mistyped t) (untyped ts)

-- ---- the schema

abbrev pub named : (Word → SchemaFault) → Option Word → Option SchemaFault
named f None = None
named f (Some n) = Some (f n)

-- the first error of a text, with the tables that it makes
abbrev pub fault_of : List TableText → List Table → Option SchemaFault
fault_of texts tables =
    or_else (named fault.DuplicateName (tables_twice [] texts))
    (or_else (named fault.UnknownName (tables_unknown texts texts))
    (or_else (named fault.KeyTypes (mismatched tables tables))
    (or_else (excess_of tables) (named fault.CheckTypes (untyped tables)))))

abbrev pub unless : {A : Type 0} → Option SchemaFault → A → Result A SchemaFault
unless None x = Ok x
unless (Some f) x = Err f

abbrev pub schema_of : List TableText → Result (List Table) SchemaFault
schema_of texts = unless (fault_of texts (tables_of texts)) (tables_of texts)

abbrev pub is_memory : SchemaFault → Bool
is_memory (fault.Lex f) = false
is_memory (fault.Syntax at) = false
is_memory (fault.DuplicateName n) = false
is_memory (fault.UnknownName n) = false
is_memory (fault.KeyTypes n) = false
is_memory (fault.TooMany e) = false
is_memory (fault.CheckTypes n) = false
is_memory fault.NoMemory = true
