-- Rules of tables, tables and the whole text: each reader keeps to the spelling.
use Rattle.std.proofs.Common.{◌≡◌, ◌∙◌, ◌≤◌, ◌<◌, ◌+◌, sym, ap, subst, ℕ, List, [], ◌∷◌, ◌++◌, length, refl, Bool, true, false, Option, Some, None, arith, length-append}
use Rattle.std.specs.Prelude.{codes}
use Rattle.std.specs.List.{flat_map}
use Rattle.rt_token.specs.Readers.{Parser, both, either, lead, lead_word, list_of, made, no_other, read_end, read_name}
use Rattle.rt_token.specs.Terminals.{Kinds, code, flag, front, in_paren, maybe}
use Rattle.rt_token.specs.declared.fixed.Fixed.TheVariants as fixed
use Rattle.rt_token.specs.declared.terminal.Name.{Name}
use Rattle.rt_token.specs.declared.terminal.Terminal.TheVariants as terminal
use Rattle.rt_token.proofs.EndLaws.{end-reads, end-sound}
use Rattle.rt_token.proofs.FrontLemmas.{other-nat}
use Rattle.rt_token.proofs.Laws.{Sound, alternative-sound, both-law, either-sound, lead-law, lead-word-sound, loose, made-after, made-sound, no-other-sound, word-alternative-sound, shorter}
use Rattle.rt_token.proofs.ListLaws.{StepLaw, after-law, follows, list-law, list-reads, when-law}
use Rattle.rt_token.proofs.ManyLemmas.{bind-some, some-is}
use Rattle.rt_ddl_tree.specs.Reads.{create_of, create_step, depend_of, foreign_of, is_if, is_table_rule, item_step, read_column, read_constraint, read_create, read_creates, read_depend, read_foreign, read_item, read_items, read_made, read_maybe_names, read_names, read_table_rule, read_text, rule_of, starts_more}
use Rattle.rt_ddl_tree.specs.Spelled.{if_not_exists, more, plain_word, spelled, spelled_column, spelled_column_constraint, spelled_constraint, spelled_create, spelled_item, spelled_kind, spelled_name, spelled_names, spelled_table_rule}
use Rattle.rt_ddl_tree.specs.TestReads.{read_condition}
use Rattle.rt_ddl_tree.specs.TestSpelled.{spelled_test}
use Rattle.rt_ddl_tree.specs.declared.tree.Create.{Create}
use Rattle.rt_ddl_tree.specs.declared.tree.Item.{Item}
use Rattle.rt_ddl_tree.specs.declared.tree.Item.TheVariants as item
use Rattle.rt_ddl_tree.specs.declared.tree.KindWord.{KindWord}
use Rattle.rt_ddl_tree.specs.declared.tree.KindWord.TheVariants as kind
use Rattle.rt_ddl_tree.specs.declared.tree.Names.{Names}
use Rattle.rt_ddl_tree.specs.declared.tree.SchemaText.{SchemaText}
use Rattle.rt_ddl_tree.specs.declared.tree.SchemaText.TheVariants as schema_text
use Rattle.rt_ddl_tree.specs.declared.tree.TableRule.{TableRule}
use Rattle.rt_ddl_tree.specs.declared.tree.TableRule.TheVariants as table_rule
use Rattle.rt_ddl_tree.specs.declared.test_tree.Test.{Test}
use Rattle.rt_ddl_tree.proofs.ColumnLaws.{column-law, constraint-law, maybe-names-law, names-law}
use Rattle.rt_ddl_tree.proofs.ReaderLaws.{Law, a-name, paren-any}
use Rattle.rt_ddl_tree.proofs.TestLaws.{condition-law}

-- ---- rules of a table

abbrev spelled_foreign : Names × (Name × Option Names) → Kinds
spelled_foreign x = spelled_names x.0 ++ terminal.Fixed fixed.References ∷ (spelled_name x.1.0 ++ maybe spelled_names x.1.1)

foreign-law : (n : ℕ) → Law read_foreign spelled_foreign n 1
unfolding read_foreign
foreign-law n = both-law read_names (lead fixed.References (both read_name read_maybe_names)) spelled_names (λ (x : Name × Option Names). terminal.Fixed fixed.References ∷ (spelled_name x.0 ++ maybe spelled_names x.1)) n 0 1 (names-law n)
    (lead-law fixed.References (both read_name read_maybe_names) (λ (x : Name × Option Names). spelled_name x.0 ++ maybe spelled_names x.1) n 1
    (both-law read_name read_maybe_names spelled_name (maybe spelled_names) n 0 1 (a-name n 0) (maybe-names-law n) (λ y rest f. omega arith)) (λ e. omega arith) (λ e. omega arith))
    (λ y rest f. omega arith)

abbrev spelled_determines : Names → Kinds
spelled_determines ns = plain_word (codes "determines") ∷ spelled_names ns

determines-law : (n : ℕ) → Law (lead_word (codes "determines") read_names) spelled_determines n 0
determines-law n = loose (lead_word (codes "determines") read_names) spelled_determines n 0 (lead-word-sound (codes "determines") read_names spelled_names (names-law 0).sound)
    (λ x rest h f. let one = (names-law n).reads x rest (omega arith) (omega arith) in rw one refl)

abbrev spelled_depend : Names × Names → Kinds
spelled_depend x = spelled_names x.0 ++ spelled_determines x.1

depend-law : (n : ℕ) → Law read_depend spelled_depend n 0
unfolding read_depend
depend-law n = both-law read_names (lead_word (codes "determines") read_names) spelled_names spelled_determines n 0 0 (names-law n) (determines-law n) (λ y rest f. omega arith)

table-rule-sound : Sound read_table_rule spelled_table_rule
unfolding read_table_rule
table-rule-sound =
    alternative-sound fixed.Primary (made table_rule.PrimaryKey (lead_word (codes "key") read_names)) _ spelled_table_rule
    (made-after _ (lead_word (codes "key") read_names) table_rule.PrimaryKey _ spelled_table_rule (lead-word-sound (codes "key") read_names spelled_names (names-law 0).sound) (λ x. refl))
    (alternative-sound fixed.Unique (made table_rule.Unique read_names) _ spelled_table_rule (made-after _ read_names table_rule.Unique spelled_names spelled_table_rule (names-law 0).sound (λ x. refl))
    (alternative-sound fixed.Foreign (made foreign_of (lead_word (codes "key") read_foreign)) _ spelled_table_rule
    (made-after _ (lead_word (codes "key") read_foreign) foreign_of _ spelled_table_rule (lead-word-sound (codes "key") read_foreign spelled_foreign (foreign-law 0).sound) (λ x. refl))
    (alternative-sound fixed.Check (made table_rule.Check read_condition) _ spelled_table_rule (made-after _ read_condition table_rule.Check (λ (t : Test). in_paren (spelled_test t)) spelled_table_rule (condition-law 0).sound (λ x. refl))
    (word-alternative-sound (codes "dependency") (made depend_of read_depend) no_other spelled_table_rule (made-after _ read_depend depend_of spelled_depend spelled_table_rule (depend-law 0).sound (λ x. refl))
    (no-other-sound spelled_table_rule)))))

table-rule-reads : (n : ℕ) (x : TableRule) (rest : Kinds) → length (spelled_table_rule x) < n → 1 ≤ front rest → read_table_rule (spelled_table_rule x ++ rest) ≡ Some (x, rest)
unfolding read_table_rule
table-rule-reads n (table_rule.PrimaryKey ns) rest h f = let one = (names-law n).reads ns rest (omega arith) (omega arith) in rw one refl
table-rule-reads n (table_rule.Unique ns) rest h f = let one = (names-law n).reads ns rest (omega arith) (omega arith) in rw one refl
table-rule-reads n (table_rule.Foreign ns t ms) rest h f = let one = (foreign-law n).reads (ns, (t, ms)) rest (omega arith) f in rw one refl
table-rule-reads n (table_rule.Check t) rest h f = let one = (condition-law n).reads t rest (omega arith) (omega arith) in rw one refl
table-rule-reads n (table_rule.Depend from to) rest h f = let one = (depend-law n).reads (from, to) rest (omega arith) (omega arith) in rw one refl

table-rule-law : (n : ℕ) → Law read_table_rule spelled_table_rule n 1
table-rule-law n = loose read_table_rule spelled_table_rule n 1 table-rule-sound (table-rule-reads n)

table-rule-holds : (P : Kinds → Type 0) → ((ks : Kinds) → P (terminal.Fixed fixed.Primary ∷ ks)) → ((ks : Kinds) → P (terminal.Fixed fixed.Unique ∷ ks)) → ((ks : Kinds) → P (terminal.Fixed fixed.Foreign ∷ ks))
    → ((ks : Kinds) → P (terminal.Fixed fixed.Check ∷ ks)) → ((ks : Kinds) → P (plain_word (codes "dependency") ∷ (terminal.Fixed fixed.OpenParen ∷ ks)))
    → (x : TableRule) (rest : Kinds) → P (spelled_table_rule x ++ rest)
table-rule-holds P a b c d e (table_rule.PrimaryKey ns) rest = a _
table-rule-holds P a b c d e (table_rule.Unique ns) rest = b _
table-rule-holds P a b c d e (table_rule.Foreign ns t ms) rest = c _
table-rule-holds P a b c d e (table_rule.Check t) rest = d _
table-rule-holds P a b c d e (table_rule.Depend from to) rest = e _

table-rule-front : (x : TableRule) (rest : Kinds) → 6 ≤ front (spelled_table_rule x ++ rest)
table-rule-front = table-rule-holds (λ ks. 6 ≤ front ks) (λ ks. omega arith) (λ ks. omega arith) (λ ks. omega arith) (λ ks. omega arith) (λ ks. omega arith)

table-rule-there : (x : TableRule) (rest : Kinds) → is_table_rule (spelled_table_rule x ++ rest) ≡ true
table-rule-there = table-rule-holds (λ ks. is_table_rule ks ≡ true) (λ ks. refl) (λ ks. refl) (λ ks. refl) (λ ks. refl) (λ ks. refl)

-- ---- items

abbrev spelled_pair : Option Name × TableRule → Kinds
spelled_pair x = maybe spelled_constraint x.0 ++ spelled_table_rule x.1

pair-law : (n : ℕ) → Law (both read_constraint read_table_rule) spelled_pair n 1
pair-law n = both-law read_constraint read_table_rule (maybe spelled_constraint) spelled_table_rule n 6 1 (constraint-law n) (table-rule-law n) (λ y rest f. table-rule-front y rest)

pair-there : (m : Option Name) (r : TableRule) (rest : Kinds) → is_table_rule ((maybe spelled_constraint m ++ spelled_table_rule r) ++ rest) ≡ true
pair-there None r rest = table-rule-there r rest
pair-there (Some m) r rest = refl

-- a kind begins with a name
column-not-rule : (n : Name) (k : KindWord) (x rest : Kinds) → is_table_rule (terminal.Name n ∷ ((spelled_kind k ++ x) ++ rest)) ≡ false
column-not-rule n kind.Integer x rest = refl
column-not-rule n kind.Int x rest = refl
column-not-rule n kind.BigInt x rest = refl
column-not-rule n kind.Text x rest = refl
column-not-rule n (kind.Char m) x rest = refl
column-not-rule n (kind.VarChar m) x rest = refl

item-reads : (n : ℕ) (x : Item) (rest : Kinds) → length (spelled_item x) < n → 28 ≤ front rest → read_item (spelled_item x ++ rest) ≡ Some (x, rest)
unfolding read_item
item-reads n (item.Column c) rest h f =
    let one = (column-law n).reads c rest h f in
    rw (column-not-rule c.name c.kind (flat_map spelled_column_constraint c.rules) rest, one) refl
item-reads n (item.Rule m r) rest h f = let one = (pair-law n).reads (m, r) rest h (omega arith) in rw (pair-there m r rest, one) refl

item-law : (n : ℕ) → Law read_item spelled_item n 28
unfolding read_item
item-law n = loose read_item spelled_item n 28
    (either-sound is_table_rule (made rule_of (both read_constraint read_table_rule)) (made item.Column read_column) spelled_item
    (made-sound (both read_constraint read_table_rule) rule_of spelled_pair spelled_item (pair-law n).sound (λ x. refl))
    (made-sound read_column item.Column spelled_column spelled_item (column-law n).sound (λ x. refl)))
    (item-reads n)

pub item-shorter : (ks more : Kinds) (x : Item) → read_item ks ≡ Some (x, more) → length more ≤ length ks
item-shorter ks more x e = shorter read_item spelled_item 0 28 (item-law 0) ks x more e

pub item-step-law : (n : ℕ) → StepLaw false item_step (λ x. terminal.Fixed fixed.Comma ∷ spelled_item x) n 28 29
item-step-law n = after-law fixed.Comma read_item spelled_item n 28 (item-law n) (λ e. omega arith) (λ e. omega arith) (omega arith)

-- ---- tables

abbrev spelled_items : Item × List Item → Kinds
spelled_items x = in_paren (spelled_item x.0 ++ more spelled_item x.1)

items-law : (n : ℕ) → Law read_items spelled_items n 0
unfolding read_items
items-law n =
    let step = item-step-law n in
    paren-any (both read_item (list_of item_step)) (λ (x : Item × List Item). spelled_item x.0 ++ more spelled_item x.1) n 29
    (both-law read_item (list_of item_step) spelled_item (more spelled_item) n 28 29 (item-law n) (list-law item_step (λ x. terminal.Fixed fixed.Comma ∷ spelled_item x) n 28 29 step)
    (λ y rest f. follows (λ x. terminal.Fixed fixed.Comma ∷ spelled_item x) 28 step.starts y rest (omega arith))) (omega arith)

abbrev spelled_made : Name × (Item × List Item) → Kinds
spelled_made x = spelled_name x.0 ++ spelled_items x.1

made-items-law : (n : ℕ) → Law read_made spelled_made n 0
unfolding read_made
made-items-law n = both-law read_name read_items spelled_name spelled_items n 0 0 (a-name n 0) (items-law n) (λ y rest f. omega arith)

abbrev spelled_if : Bool → Name × (Item × List Item) → Kinds
spelled_if b x = if_not_exists b ++ spelled_made x

abbrev read_after_table : Parser Create
read_after_table = either is_if
    (made (create_of true) (lead_word (codes "if") (lead fixed.Not (lead fixed.Exists read_made))))
    (made (create_of false) read_made)

abbrev spelled_after_table : Create → Kinds
spelled_after_table c = if_not_exists c.if_not_exists ++ (spelled_name c.name ++ in_paren (spelled_item c.head ++ more spelled_item c.tail))

not-exists-law : (n : ℕ) → Law (lead fixed.Not (lead fixed.Exists read_made)) (λ x. terminal.Fixed fixed.Not ∷ (terminal.Fixed fixed.Exists ∷ spelled_made x)) n 0
not-exists-law n = lead-law fixed.Not (lead fixed.Exists read_made) (λ x. terminal.Fixed fixed.Exists ∷ spelled_made x) n 0
    (lead-law fixed.Exists read_made spelled_made n 0 (made-items-law n) (λ e. omega arith) (λ e. omega arith)) (λ e. omega arith) (λ e. omega arith)

after-table-reads : (n : ℕ) (b : Bool) (x : Name × (Item × List Item)) (rest : Kinds) → length (spelled_if b x) < n → read_after_table (spelled_if b x ++ rest) ≡ Some (create_of b x, rest)
after-table-reads n false x rest h = let one = (made-items-law n).reads x rest h (omega arith) in rw one refl
after-table-reads n true x rest h = let one = (made-items-law n).reads x rest (omega arith) (omega arith) in rw one refl

after-table-law : (n : ℕ) → Law read_after_table spelled_after_table n 0
after-table-law n = loose read_after_table spelled_after_table n 0
    (either-sound is_if (made (create_of true) (lead_word (codes "if") (lead fixed.Not (lead fixed.Exists read_made)))) (made (create_of false) read_made) spelled_after_table
    (made-sound (lead_word (codes "if") (lead fixed.Not (lead fixed.Exists read_made))) (create_of true) _ spelled_after_table
    (lead-word-sound (codes "if") (lead fixed.Not (lead fixed.Exists read_made)) (λ x. terminal.Fixed fixed.Not ∷ (terminal.Fixed fixed.Exists ∷ spelled_made x)) (not-exists-law n).sound) (λ x. refl))
    (made-sound read_made (create_of false) spelled_made spelled_after_table (made-items-law n).sound (λ x. refl)))
    (λ x rest h f. after-table-reads n x.if_not_exists (x.name, (x.head, x.tail)) rest h)

create-law : (n : ℕ) → Law read_create spelled_create n 0
unfolding read_create
create-law n = lead-law fixed.Create (lead fixed.Table read_after_table) (λ c. terminal.Fixed fixed.Table ∷ spelled_after_table c) n 0
    (lead-law fixed.Table read_after_table spelled_after_table n 0 (after-table-law n) (λ e. omega arith) (λ e. omega arith)) (λ e. omega arith) (λ e. omega arith)

-- ---- the whole text

abbrev next_create : Create → Kinds
next_create c = terminal.Fixed fixed.Semicolon ∷ spelled_create c

pub create-step-law : (n : ℕ) → StepLaw false create_step next_create n 0 35
create-step-law n = when-law starts_more (lead fixed.Semicolon read_create) next_create n 0 35
    (lead-law fixed.Semicolon read_create spelled_create n 0 (create-law n) (λ e. omega arith) (λ e. omega arith))
    (λ x. omega arith) (λ x rest. omega arith) (λ x rest. refl) (λ rest f. rw (other-nat (front rest) (code fixed.Semicolon) (λ e. omega arith)) refl) (omega arith)

no-more : (b : Bool) → create_step (flag fixed.Semicolon b) ≡ None
no-more false = refl
no-more true = refl

creates-sound : (ks : Kinds) (t : SchemaText) → read_creates ks ≡ Some t → spelled t ≡ ks
creates-sound ks t e =
    let c = bind-some (read_create ks) _ t e in
    let cs = bind-some (list_of create_step c.0.1) _ t c.2 in
    let b = bind-some (read_end cs.0.1) _ t cs.2 in
    let h : schema_text.Creates c.0.0 cs.0.0 b.0 ≡ t = some-is _ _ b.2 in
    subst (λ (t : SchemaText). spelled t ≡ ks) h
    (sym ((create-law 0).sound ks c.0 c.1
    ∙ ap (λ (r : Kinds). spelled_create c.0.0 ++ r) ((list-law create_step next_create 0 0 35 (create-step-law 0)).sound c.0.1 cs.0 cs.1
    ∙ ap (λ (r : Kinds). flat_map next_create cs.0.0 ++ r) (end-sound cs.0.1 b.0 b.1))))

-- what is read is spelled so
pub text-sound : (ks : Kinds) (t : SchemaText) → read_text ks ≡ Some t → spelled t ≡ ks
unfolding read_text
text-sound [] t e = let h : schema_text.Empty ≡ t = some-is _ _ e in subst (λ (t : SchemaText). spelled t ≡ []) h refl
text-sound (k ∷ ks) t e = creates-sound (k ∷ ks) t e

-- every tree is read from its terminals
pub text-reads : (t : SchemaText) → read_text (spelled t) ≡ Some t
unfolding read_text
text-reads schema_text.Empty = refl
text-reads (schema_text.Creates c cs b) =
    let tail = flat_map next_create cs ++ flag fixed.Semicolon b in
    let n = length (spelled_create c ++ tail) + 1 in
    let l = length-append (spelled_create c) tail in
    let m = length-append (flat_map next_create cs) (flag fixed.Semicolon b) in
    let one = (create-law n).reads c tail (omega arith) (omega arith) in
    let more = list-reads create_step next_create n 0 35 (create-step-law n) cs (flag fixed.Semicolon b) (omega arith) (no-more b) (omega arith) in
    rw (one, more, end-reads b) refl
