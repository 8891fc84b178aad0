-- Names, kinds and the rules of a column: each reader keeps to the spelling.
use Rattle.std.proofs.Common.{◌≡◌, ◌≤◌, ◌<◌, ap, ℕ, ℤ, List, [], ◌∷◌, ◌++◌, length, refl, true, false, Option, Some, None, arith}
use Rattle.std.specs.Prelude.{codes}
use Rattle.std.specs.List.{flat_map}
use Rattle.rt_token.specs.Readers.{both, done, lead, lead_word, list_of, made, no_other, optional, paren, read_name, starts}
use Rattle.rt_token.specs.Terminals.{Kinds, code, front, in_paren, maybe}
use Rattle.rt_token.specs.declared.fixed.Fixed.TheVariants as fixed
use Rattle.rt_token.specs.declared.terminal.Name.{Name}
use Rattle.rt_token.specs.declared.terminal.Terminal.TheVariants as terminal
use Rattle.rt_token.proofs.FrontLemmas.{other-nat}
use Rattle.rt_token.proofs.Laws.{Sound, alternative-sound, both-law, done-law, lead-law, lead-word-sound, loose, made-after, made-law, no-other-sound, optional-law, shorter, word-alternative-sound}
use Rattle.rt_token.proofs.ListLaws.{StepLaw, after-law, follows, list-law, when-law}
use Rattle.rt_token.proofs.ManyLemmas.{some-is}
use Rattle.rt_ddl_tree.specs.Reads.{column_constraint_of, column_constraint_step, column_of, is_column_rule, name_step, names_of, read_column, read_column_constraint, read_column_rule, read_constraint, read_kind, read_maybe_names, read_names, read_number, read_references, read_size, read_sized_kind, references_of}
use Rattle.rt_ddl_tree.specs.Spelled.{more, spelled_column, spelled_column_constraint, spelled_column_rule, spelled_constraint, spelled_kind, spelled_name, spelled_names, spelled_size}
use Rattle.rt_ddl_tree.specs.TestReads.{read_condition}
use Rattle.rt_ddl_tree.specs.TestSpelled.{spelled_test}
use Rattle.rt_ddl_tree.specs.declared.tree.Column.{Column}
use Rattle.rt_ddl_tree.specs.declared.tree.ColumnConstraint.{ColumnConstraint}
use Rattle.rt_ddl_tree.specs.declared.tree.ColumnRule.{ColumnRule}
use Rattle.rt_ddl_tree.specs.declared.tree.ColumnRule.TheVariants as column_rule
use Rattle.rt_ddl_tree.specs.declared.tree.KindWord.{KindWord}
use Rattle.rt_ddl_tree.specs.declared.tree.KindWord.TheVariants as kind
use Rattle.rt_ddl_tree.specs.declared.tree.Names.{Names}
use Rattle.rt_ddl_tree.specs.declared.test_tree.Test.{Test}
use Rattle.rt_ddl_tree.proofs.ReaderLaws.{Law, a-name, no-left, paren-any}
use Rattle.rt_ddl_tree.proofs.TestLaws.{condition-law}

-- ---- names

pub name-shorter : (ks more : Kinds) (x : Name) → read_name ks ≡ Some (x, more) → length more ≤ length ks
name-shorter ks more x e = shorter read_name spelled_name 0 0 (a-name 0 0) ks x more e

pub name-step-law : (n : ℕ) → StepLaw false name_step (λ x. terminal.Fixed fixed.Comma ∷ spelled_name x) n 0 29
name-step-law n = after-law fixed.Comma read_name spelled_name n 0 (a-name n 0) (λ e. omega arith) (λ e. omega arith) (omega arith)

pub names-law : (n : ℕ) → Law read_names spelled_names n 0
unfolding read_names
names-law n = made-law (paren (both read_name (list_of name_step))) names_of (λ (x : Names). (x.head, x.tail)) (λ (x : Name × List Name). in_paren (spelled_name x.0 ++ more spelled_name x.1)) spelled_names n 0
    (paren-any (both read_name (list_of name_step)) (λ (x : Name × List Name). spelled_name x.0 ++ more spelled_name x.1) n 29
    (both-law read_name (list_of name_step) spelled_name (more spelled_name) n 0 29 (a-name n 0) (list-law name_step (λ x. terminal.Fixed fixed.Comma ∷ spelled_name x) n 0 29 (name-step-law n)) (λ y rest f. omega arith)) (omega arith))
    (λ y. refl) (λ x. refl)

pub maybe-names-law : (n : ℕ) → Law read_maybe_names (maybe spelled_names) n 1
unfolding read_maybe_names
maybe-names-law n = optional-law (starts fixed.OpenParen) read_names spelled_names n 0 (names-law n) (λ x rest. refl) 1 (omega arith) no-left

-- ---- kinds

number-law : (n : ℕ) → Law read_number (λ (x : ℤ). terminal.Number x ∷ []) n 0
number-law n = loose read_number (λ (x : ℤ). terminal.Number x ∷ []) n 0 number-sound (λ x rest h f. refl)
  where
    number-sound : Sound read_number (λ (x : ℤ). terminal.Number x ∷ [])
    number-sound [] q e = cc e
    number-sound (terminal.Fixed f ∷ ks) q e = cc e
    number-sound (terminal.Name m ∷ ks) q e = cc e
    number-sound (terminal.Number m ∷ ks) q e = let h : (m, ks) ≡ q = some-is _ _ e in ap (λ (q : ℤ × Kinds). (terminal.Number q.0 ∷ []) ++ q.1) h
    number-sound (terminal.Str t ∷ ks) q e = cc e

size-law : (n : ℕ) → Law read_size (maybe spelled_size) n 1
unfolding read_size
size-law n = optional-law (starts fixed.OpenParen) (paren read_number) spelled_size n 0 (paren-any read_number (λ (x : ℤ). terminal.Number x ∷ []) n 0 (number-law n) (omega arith)) (λ x rest. refl) 1 (omega arith) no-left

kind-sound : Sound read_kind spelled_kind
unfolding read_kind
kind-sound =
    word-alternative-sound (codes "integer") (made (λ u. kind.Integer) done) _ spelled_kind (made-after _ done (λ u. kind.Integer) (λ u. []) spelled_kind (done-law false 0).sound (λ x. refl))
    (word-alternative-sound (codes "int") (made (λ u. kind.Int) done) _ spelled_kind (made-after _ done (λ u. kind.Int) (λ u. []) spelled_kind (done-law false 0).sound (λ x. refl))
    (word-alternative-sound (codes "bigint") (made (λ u. kind.BigInt) done) _ spelled_kind (made-after _ done (λ u. kind.BigInt) (λ u. []) spelled_kind (done-law false 0).sound (λ x. refl))
    (word-alternative-sound (codes "text") (made (λ u. kind.Text) done) read_sized_kind spelled_kind (made-after _ done (λ u. kind.Text) (λ u. []) spelled_kind (done-law false 0).sound (λ x. refl))
    (word-alternative-sound (codes "char") (made kind.Char read_size) _ spelled_kind (made-after _ read_size kind.Char (maybe spelled_size) spelled_kind (size-law 0).sound (λ x. refl))
    (word-alternative-sound (codes "varchar") (made kind.VarChar read_size) no_other spelled_kind (made-after _ read_size kind.VarChar (maybe spelled_size) spelled_kind (size-law 0).sound (λ x. refl)) (no-other-sound spelled_kind))))))

kind-reads : (n : ℕ) (x : KindWord) (rest : Kinds) → length (spelled_kind x) < n → 1 ≤ front rest → read_kind (spelled_kind x ++ rest) ≡ Some (x, rest)
unfolding read_kind
kind-reads n kind.Integer rest h f = refl
kind-reads n kind.Int rest h f = refl
kind-reads n kind.BigInt rest h f = refl
kind-reads n kind.Text rest h f = refl
kind-reads n (kind.Char m) rest h f = let one = (size-law n).reads m rest (omega arith) f in rw one refl
kind-reads n (kind.VarChar m) rest h f = let one = (size-law n).reads m rest (omega arith) f in rw one refl

pub kind-law : (n : ℕ) → Law read_kind spelled_kind n 1
kind-law n = loose read_kind spelled_kind n 1 kind-sound (kind-reads n)

-- ---- rules of a column

abbrev spelled_references : Name × Option Name → Kinds
spelled_references x = spelled_name x.0 ++ maybe (λ n. in_paren (spelled_name n)) x.1

references-law : (n : ℕ) → Law read_references spelled_references n 1
unfolding read_references
references-law n = both-law read_name (optional (starts fixed.OpenParen) (paren read_name)) spelled_name (maybe (λ n. in_paren (spelled_name n))) n 0 1 (a-name n 0)
    (optional-law (starts fixed.OpenParen) (paren read_name) (λ n. in_paren (spelled_name n)) n 0 (paren-any read_name spelled_name n 0 (a-name n 0) (omega arith)) (λ x rest. refl) 1 (omega arith) no-left)
    (λ y rest f. omega arith)

column-rule-sound : Sound read_column_rule spelled_column_rule
unfolding read_column_rule
column-rule-sound =
    alternative-sound fixed.Not (made (λ u. column_rule.NotNull) (lead fixed.Null done)) _ spelled_column_rule
    (made-after _ (lead fixed.Null done) (λ u. column_rule.NotNull) (λ u. terminal.Fixed fixed.Null ∷ []) spelled_column_rule (lead-law fixed.Null done (λ u. []) 0 0 (done-law false 0) (λ e. omega arith) (λ e. omega arith)).sound (λ x. refl))
    (alternative-sound fixed.Null (made (λ u. column_rule.Null) done) _ spelled_column_rule (made-after _ done (λ u. column_rule.Null) (λ u. []) spelled_column_rule (done-law false 0).sound (λ x. refl))
    (alternative-sound fixed.Primary (made (λ u. column_rule.PrimaryKey) (lead_word (codes "key") done)) _ spelled_column_rule
    (made-after _ (lead_word (codes "key") done) (λ u. column_rule.PrimaryKey) _ spelled_column_rule (lead-word-sound (codes "key") done (λ u. []) (done-law false 0).sound) (λ x. refl))
    (alternative-sound fixed.Unique (made (λ u. column_rule.Unique) done) _ spelled_column_rule (made-after _ done (λ u. column_rule.Unique) (λ u. []) spelled_column_rule (done-law false 0).sound (λ x. refl))
    (alternative-sound fixed.Check (made column_rule.Check read_condition) _ spelled_column_rule (made-after _ read_condition column_rule.Check (λ (t : Test). in_paren (spelled_test t)) spelled_column_rule (condition-law 0).sound (λ x. refl))
    (alternative-sound fixed.References (made references_of read_references) no_other spelled_column_rule (made-after _ read_references references_of spelled_references spelled_column_rule (references-law 0).sound (λ x. refl))
    (no-other-sound spelled_column_rule))))))

column-rule-reads : (n : ℕ) (x : ColumnRule) (rest : Kinds) → length (spelled_column_rule x) < n → 1 ≤ front rest → read_column_rule (spelled_column_rule x ++ rest) ≡ Some (x, rest)
unfolding read_column_rule
column-rule-reads n column_rule.NotNull rest h f = refl
column-rule-reads n column_rule.Null rest h f = refl
column-rule-reads n column_rule.PrimaryKey rest h f = refl
column-rule-reads n column_rule.Unique rest h f = refl
column-rule-reads n (column_rule.Check t) rest h f = let one = (condition-law n).reads t rest (omega arith) (omega arith) in rw one refl
column-rule-reads n (column_rule.References t c) rest h f = let one = (references-law n).reads (t, c) rest (omega arith) f in rw one refl

pub column-rule-law : (n : ℕ) → Law read_column_rule spelled_column_rule n 1
column-rule-law n = loose read_column_rule spelled_column_rule n 1 column-rule-sound (column-rule-reads n)

column-rule-holds : (P : Kinds → Type 0) → ((ks : Kinds) → P (terminal.Fixed fixed.Not ∷ ks)) → ((ks : Kinds) → P (terminal.Fixed fixed.Null ∷ ks)) → ((ks : Kinds) → P (terminal.Fixed fixed.Primary ∷ ks))
    → ((ks : Kinds) → P (terminal.Fixed fixed.Unique ∷ ks)) → ((ks : Kinds) → P (terminal.Fixed fixed.References ∷ ks)) → ((ks : Kinds) → P (terminal.Fixed fixed.Check ∷ ks)) → (x : ColumnRule) (rest : Kinds) → P (spelled_column_rule x ++ rest)
column-rule-holds P a b c d e g column_rule.NotNull rest = a _
column-rule-holds P a b c d e g column_rule.Null rest = b _
column-rule-holds P a b c d e g column_rule.PrimaryKey rest = c _
column-rule-holds P a b c d e g column_rule.Unique rest = d _
column-rule-holds P a b c d e g (column_rule.References t n) rest = e _
column-rule-holds P a b c d e g (column_rule.Check t) rest = g _

column-rule-front : (x : ColumnRule) (rest : Kinds) → 6 ≤ front (spelled_column_rule x ++ rest)
column-rule-front = column-rule-holds (λ ks. 6 ≤ front ks) (λ ks. omega arith) (λ ks. omega arith) (λ ks. omega arith) (λ ks. omega arith) (λ ks. omega arith) (λ ks. omega arith)

column-rule-there : (x : ColumnRule) (rest : Kinds) → is_column_rule (spelled_column_rule x ++ rest) ≡ true
column-rule-there = column-rule-holds (λ ks. is_column_rule ks ≡ true) (λ ks. refl) (λ ks. refl) (λ ks. refl) (λ ks. refl) (λ ks. refl) (λ ks. refl)

-- a constraint's name, before what is none
pub constraint-law : (n : ℕ) → Law read_constraint (maybe spelled_constraint) n 6
unfolding read_constraint
constraint-law n = optional-law (starts fixed.Constraint) (lead fixed.Constraint read_name) spelled_constraint n 0 (lead-law fixed.Constraint read_name spelled_name n 0 (a-name n 0) (λ e. omega arith) (λ e. omega arith))
    (λ x rest. refl) 6 (omega arith) (λ rest f. other-nat (front rest) (code fixed.Constraint) (λ e. omega arith))

abbrev spelled_pair : Option Name × ColumnRule → Kinds
spelled_pair x = maybe spelled_constraint x.0 ++ spelled_column_rule x.1

column-constraint-law : (n : ℕ) → Law read_column_constraint spelled_column_constraint n 1
unfolding read_column_constraint
column-constraint-law n = made-law (both read_constraint read_column_rule) column_constraint_of (λ (x : ColumnConstraint). (x.name, x.rule)) spelled_pair spelled_column_constraint n 1
    (both-law read_constraint read_column_rule (maybe spelled_constraint) spelled_column_rule n 6 1 (constraint-law n) (column-rule-law n) (λ y rest f. column-rule-front y rest))
    (λ y. refl) (λ x. refl)

constraint-holds : (P : Kinds → Type 0) → ((ks : Kinds) → P (terminal.Fixed fixed.Constraint ∷ ks)) → ((x : ColumnRule) (rest : Kinds) → P (spelled_column_rule x ++ rest))
    → (n : Option Name) (r : ColumnRule) (rest : Kinds) → P ((maybe spelled_constraint n ++ spelled_column_rule r) ++ rest)
constraint-holds P a b None r rest = b r rest
constraint-holds P a b (Some m) r rest = a _

some-rule : (n : Option Name) (r : ColumnRule) → 0 < length (maybe spelled_constraint n ++ spelled_column_rule r)
some-rule (Some m) r = omega arith
some-rule None column_rule.NotNull = omega arith
some-rule None column_rule.Null = omega arith
some-rule None column_rule.PrimaryKey = omega arith
some-rule None column_rule.Unique = omega arith
some-rule None (column_rule.References t c) = omega arith
some-rule None (column_rule.Check t) = omega arith

no-column-rule : (rest : Kinds) → 28 ≤ front rest → is_column_rule rest ≡ false
no-column-rule rest f = rw (
  other-nat (front rest) (code fixed.Constraint) (λ e. omega arith),
  other-nat (front rest) (code fixed.Not) (λ e. omega arith),
  other-nat (front rest) (code fixed.Null) (λ e. omega arith),
  other-nat (front rest) (code fixed.Primary) (λ e. omega arith),
  other-nat (front rest) (code fixed.Unique) (λ e. omega arith),
  other-nat (front rest) (code fixed.References) (λ e. omega arith),
  other-nat (front rest) (code fixed.Check) (λ e. omega arith),
) refl

pub column-constraint-step-law : (n : ℕ) → StepLaw false column_constraint_step spelled_column_constraint n 1 28
column-constraint-step-law n = when-law is_column_rule read_column_constraint spelled_column_constraint n 1 28 (column-constraint-law n) (λ x. some-rule x.name x.rule)
    (λ x. constraint-holds (λ ks. 1 ≤ front ks) (λ ks. omega arith) (λ r rest. omega (arith, column-rule-front r rest)) x.name x.rule)
    (λ x. constraint-holds (λ ks. is_column_rule ks ≡ true) (λ ks. refl) column-rule-there x.name x.rule)
    no-column-rule (omega arith)

-- ---- a column

abbrev spelled_kinded : KindWord × List ColumnConstraint → Kinds
spelled_kinded x = spelled_kind x.0 ++ flat_map spelled_column_constraint x.1

pub column-law : (n : ℕ) → Law read_column spelled_column n 28
unfolding read_column
column-law n =
    let step = column-constraint-step-law n in
    made-law (both read_name (both read_kind (list_of column_constraint_step))) column_of (λ (x : Column). (x.name, (x.kind, x.rules))) (λ (x : Name × (KindWord × List ColumnConstraint)). spelled_name x.0 ++ spelled_kinded x.1) spelled_column n 28
    (both-law read_name (both read_kind (list_of column_constraint_step)) spelled_name spelled_kinded n 0 28 (a-name n 0)
    (both-law read_kind (list_of column_constraint_step) spelled_kind (flat_map spelled_column_constraint) n 1 28 (kind-law n) (list-law column_constraint_step spelled_column_constraint n 1 28 step)
    (λ y rest f. follows spelled_column_constraint 1 step.starts y rest (omega arith)))
    (λ y rest f. omega arith))
    (λ y. refl) (λ x. refl)
