-- Tests and names: each reader keeps to the spelling.
use Rattle.std.proofs.Common.{◌≡◌, ◌<◌, ◌+◌, ap, ℕ, ℤ, List, [], ◌∷◌, ◌++◌, length, refl, Bool, true, false, Some, append_assoc, arith}
use Rattle.std.specs.List.{flat_map}
use Rattle.rt_token.specs.declared.fixed.Fixed.TheVariants as fixed
use Rattle.rt_token.specs.declared.terminal.Name.{Name}
use Rattle.rt_token.specs.declared.terminal.Terminal.TheVariants as terminal
use Rattle.rt_token.specs.Comparisons.{op_sign, read_op}
use Rattle.rt_token.specs.Terminals.{Kinds, flag, in_paren}
use Rattle.rt_token.specs.Readers.{Parser, both, done, flagged, lead, list_of, made, paren, read_name, starts}
use Rattle.rt_token.proofs.ComparisonLaws.{op-law, op_kinds}
use Rattle.rt_token.proofs.Laws.{Lawful, both-law, done-law, either-sound, flagged-law, lead-law, loose, made-law, made-sound, name-law, paren-law}
use Rattle.rt_token.proofs.ListLaws.{StepLaw, after-law, list-law}
use Rattle.rt_token.proofs.ManyLemmas.{some-is}
use Rattle.rt_value.specs.declared.value.Op.{Op}
use Rattle.rt_value.specs.declared.value.Op.TheVariants as op
use Rattle.rt_ra_tree.specs.Reads.{compared, is_null_test, name_step, names_of, negative, null_of, read_names, read_null, read_number, read_plain_side, read_side, read_test, read_tests, test_step, tests_of}
use Rattle.rt_ra_tree.specs.Spelled.{spelled_names, spelled_side, spelled_test, spelled_tests}
use Rattle.rt_ra_tree.specs.declared.tree.RaNames.{RaNames}
use Rattle.rt_ra_tree.specs.declared.tree.RaSide.{RaSide}
use Rattle.rt_ra_tree.specs.declared.tree.RaSide.TheVariants as side
use Rattle.rt_ra_tree.specs.declared.tree.RaTest.{RaTest}
use Rattle.rt_ra_tree.specs.declared.tree.RaTest.TheVariants as test
use Rattle.rt_ra_tree.specs.declared.tree.RaTests.{RaTests}

-- ---- sides

plain-sound : (ks : Kinds) (q : RaSide × Kinds) → read_plain_side ks ≡ Some q → ks ≡ spelled_side q.0 ++ q.1
plain-sound [] q e = cc e
plain-sound (terminal.Fixed f ∷ ks) q e = cc e
plain-sound (terminal.Name n ∷ ks) q e = let h : (side.Col n, ks) ≡ q = some-is _ _ e in ap (λ (q : RaSide × Kinds). spelled_side q.0 ++ q.1) h
plain-sound (terminal.Number n ∷ ks) q e = let h : (side.Number false n, ks) ≡ q = some-is _ _ e in ap (λ (q : RaSide × Kinds). spelled_side q.0 ++ q.1) h
plain-sound (terminal.Str t ∷ ks) q e = let h : (side.Str t, ks) ≡ q = some-is _ _ e in ap (λ (q : RaSide × Kinds). spelled_side q.0 ++ q.1) h

abbrev number_kinds : ℤ → Kinds
number_kinds n = terminal.Number n ∷ []

number-sound : (ks : Kinds) (q : ℤ × Kinds) → read_number ks ≡ Some q → ks ≡ number_kinds q.0 ++ q.1
number-sound [] q e = cc e
number-sound (terminal.Fixed f ∷ ks) q e = cc e
number-sound (terminal.Name n ∷ ks) q e = cc e
number-sound (terminal.Number n ∷ ks) q e = let h : (n, ks) ≡ q = some-is _ _ e in ap (λ (q : ℤ × Kinds). number_kinds q.0 ++ q.1) h
number-sound (terminal.Str t ∷ ks) q e = cc e

number-law : (n : ℕ) → Lawful false read_number number_kinds n 0
number-law n = loose read_number number_kinds n 0 number-sound (λ x rest h f. refl)

abbrev read_negative : Parser ℤ
read_negative = lead fixed.Minus read_number

abbrev negative_kinds : ℤ → Kinds
negative_kinds n = terminal.Fixed fixed.Minus ∷ number_kinds n

negative-law : (n : ℕ) → Lawful false read_negative negative_kinds n 0
negative-law n = lead-law fixed.Minus read_number number_kinds n 0 (number-law n) (λ e. omega arith) (λ e. omega arith)

side-reads : (x : RaSide) (rest : Kinds) → read_side (spelled_side x ++ rest) ≡ Some (x, rest)
unfolding read_side
side-reads (side.Col n) rest = refl
side-reads (side.Number false n) rest = refl
side-reads (side.Number true n) rest = refl
side-reads (side.Str t) rest = refl

side-law : (n : ℕ) → Lawful false read_side spelled_side n 0
unfolding read_side
side-law n = loose read_side spelled_side n 0
    (either-sound (starts fixed.Minus) (made negative read_negative) read_plain_side spelled_side
    (made-sound read_negative negative negative_kinds spelled_side (negative-law n).sound (λ x. refl)) plain-sound)
    (λ x rest h f. side-reads x rest)

-- ---- comparisons

abbrev read_cmp : Parser (RaSide × (Op × RaSide))
read_cmp = both read_side (both read_op read_side)

abbrev cmp_kinds : RaSide × (Op × RaSide) → Kinds
cmp_kinds x = spelled_side x.0 ++ (op_kinds x.1.0 ++ spelled_side x.1.1)

cmp-law : (n : ℕ) → Lawful false read_cmp cmp_kinds n 0
cmp-law n = both-law read_side (both read_op read_side) spelled_side (λ (x : Op × RaSide). op_kinds x.0 ++ spelled_side x.1) n 0 0 (side-law n)
    (both-law read_op read_side op_kinds spelled_side n 0 0 (op-law n) (side-law n) (λ y rest f. omega arith)) (λ y rest f. omega arith)

-- ---- IS NULL

null-law : (n : ℕ) → Lawful false read_null (λ (u : Unit {0}). terminal.Fixed fixed.Null ∷ []) n 0
null-law n = lead-law fixed.Null done (λ (u : Unit {0}). []) n 0 (done-law false n) (λ e. omega arith) (λ e. omega arith)

abbrev read_is : Parser (Bool × Unit {0})
read_is = lead fixed.Is (flagged fixed.Not read_null)

abbrev is_kinds : Bool × Unit {0} → Kinds
is_kinds x = terminal.Fixed fixed.Is ∷ (flag fixed.Not x.0 ++ terminal.Fixed fixed.Null ∷ [])

is-law : (n : ℕ) → Lawful false read_is is_kinds n 0
is-law n = lead-law fixed.Is (flagged fixed.Not read_null) (λ (x : Bool × Unit {0}). flag fixed.Not x.0 ++ terminal.Fixed fixed.Null ∷ []) n 0
    (flagged-law fixed.Not read_null (λ (u : Unit {0}). terminal.Fixed fixed.Null ∷ []) n 0 (null-law n) (λ e. omega arith) (λ e. omega arith) (λ x rest f e. omega arith))
    (λ e. omega arith) (λ e. omega arith)

abbrev name_kinds : Name → Kinds
name_kinds n = terminal.Name n ∷ []

pub a-name : (n : ℕ) → Lawful false read_name name_kinds n 0
a-name n = name-law false n 0 (λ e. cc e)

abbrev null_kinds : Name × (Bool × Unit {0}) → Kinds
null_kinds x = name_kinds x.0 ++ is_kinds x.1

is-null-law : (n : ℕ) → Lawful false (both read_name read_is) null_kinds n 0
is-null-law n = both-law read_name read_is name_kinds is_kinds n 0 0 (a-name n) (is-law n) (λ y rest f. omega arith)

-- ---- tests

col-no-null : (o : Op) (n : Name) (ks : Kinds) → is_null_test (terminal.Name n ∷ (terminal.Fixed (op_sign o) ∷ ks)) ≡ false
col-no-null op.Eq n ks = refl
col-no-null op.Ne n ks = refl
col-no-null op.Lt n ks = refl
col-no-null op.Le n ks = refl
col-no-null op.Gt n ks = refl
col-no-null op.Ge n ks = refl

cmp-no-null : (o : Op) (a : RaSide) (ks : Kinds) → is_null_test (spelled_side a ++ (terminal.Fixed (op_sign o) ∷ ks)) ≡ false
cmp-no-null o (side.Col n) ks = col-no-null o n ks
cmp-no-null o (side.Number false n) ks = refl
cmp-no-null o (side.Number true n) ks = refl
cmp-no-null o (side.Str t) ks = refl

test-reads : (n : ℕ) (x : RaTest) (rest : Kinds) → length (spelled_test x) < n → read_test (spelled_test x ++ rest) ≡ Some (x, rest)
unfolding read_test
test-reads n (test.Cmp o a b) rest h =
    let one = (cmp-law n).reads (a, (o, b)) rest h (omega arith) in
    let other : is_null_test (spelled_test (test.Cmp o a b) ++ rest) ≡ false =
    rw (append_assoc (spelled_side a) (terminal.Fixed (op_sign o) ∷ spelled_side b) rest) (cmp-no-null o a (spelled_side b ++ rest)) in
    rw (other, one) refl
test-reads n (test.IsNull m b) rest h =
    let one = (is-null-law n).reads (m, (b, tt)) rest h (omega arith) in
    rw one refl

test-law : (n : ℕ) → Lawful false read_test spelled_test n 0
unfolding read_test
test-law n = loose read_test spelled_test n 0
    (either-sound is_null_test (made null_of (both read_name read_is)) (made compared read_cmp) spelled_test
    (made-sound (both read_name read_is) null_of null_kinds spelled_test (is-null-law n).sound (λ x. refl))
    (made-sound read_cmp compared cmp_kinds spelled_test (cmp-law n).sound (λ x. refl)))
    (λ x rest h f. test-reads n x rest h)

abbrev and_test : RaTest → Kinds
and_test t = terminal.Fixed fixed.And ∷ spelled_test t

pub test-step-law : (n : ℕ) → StepLaw false test_step and_test n 0 21
test-step-law n = after-law fixed.And read_test spelled_test n 0 (test-law n) (λ e. omega arith) (λ e. omega arith) (omega arith)

pub tests-law : (n : ℕ) → Lawful false read_tests spelled_tests n 21
unfolding read_tests
tests-law n = made-law (both read_test (list_of test_step)) tests_of (λ (x : RaTests). (x.head, x.tail)) (λ (x : RaTest × List RaTest). spelled_test x.0 ++ flat_map and_test x.1) spelled_tests n 21
    (both-law read_test (list_of test_step) spelled_test (flat_map and_test) n 0 21 (test-law n) (list-law test_step and_test n 0 21 (test-step-law n)) (λ xs rest f. omega arith))
    (λ x. refl) (λ x. refl)

-- ---- names

abbrev comma_name : Name → Kinds
comma_name n = terminal.Fixed fixed.Comma ∷ name_kinds n

pub name-step-law : (n : ℕ) → StepLaw false name_step comma_name n 0 29
name-step-law n = after-law fixed.Comma read_name name_kinds n 0 (a-name n) (λ e. omega arith) (λ e. omega arith) (omega arith)

abbrev read_listed : Parser (Name × List Name)
read_listed = both read_name (list_of name_step)

abbrev listed_kinds : Name × List Name → Kinds
listed_kinds x = name_kinds x.0 ++ flat_map comma_name x.1

listed-law : (n : ℕ) → Lawful false read_listed listed_kinds n 29
listed-law n = both-law read_name (list_of name_step) name_kinds (flat_map comma_name) n 0 29 (a-name n) (list-law name_step comma_name n 0 29 (name-step-law n)) (λ xs rest f. omega arith)

pub names-law : (n : ℕ) → Lawful false read_names spelled_names (n + 2) 0
unfolding read_names
names-law n = made-law (paren read_listed) names_of (λ (x : RaNames). (x.head, x.tail)) (λ (x : Name × List Name). in_paren (listed_kinds x)) spelled_names (n + 2) 0
    (paren-law read_listed listed_kinds n 29 (listed-law n) (omega arith)) (λ x. refl) (λ x. refl)
