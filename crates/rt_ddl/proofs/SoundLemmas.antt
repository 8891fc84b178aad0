-- Where no name is unknown, all foreign keys match and all checks are typed, the tables are a
-- schema.
use Rattle.std.proofs.Common.{◌≡◌, ◌<◌, sym, subst, ℕ, suc, List, [], ◌∷◌, ◌++◌, length, refl, Bool, true, false, Option, Some, None, cond, arith, map}
use Rattle.std.specs.Prelude.{◌&&◌, ◌||◌, bytes_eq, nat_lt, IsTrue}
use Rattle.std.specs.List.{flat_map, list_all}
use Rattle.std.proofs.lemmas.Bool.Decides.{nat_tests}
use Rattle.rt_token.specs.Terminals.{Word}
use Rattle.rt_schema.specs.Schema.{check_there, check_typed, is_sound, leaf_there, part_there, rule_sound, side_there, table_sound}
use Rattle.rt_schema.specs.declared.table.Rule.{Rule}
use Rattle.rt_schema.specs.declared.table.Rule.TheVariants as made
use Rattle.rt_schema.specs.declared.table.Table.{Table}
use Rattle.rt_ddl.specs.Meaning.{all_unknown, any_unknown, checks_typed, column_at, columns_at, columns_of, form_unknown, has_column, key_matches, keys_match, leaves_unknown, mismatch, mismatched, missing, mistyped, or_else, part_rules, parts_unknown, part_unknown, rule_typed, rule_unknown, rules_made, side_unknown, sides_unknown, table_of, tables_of, tables_unknown, test_unknown, unknown_column, untyped}
use Rattle.rt_ddl.specs.Checks.{check_made, form_made, leaf_made, part_made, side_made}
use Rattle.rt_ddl.specs.declared.parts.Part.{Part}
use Rattle.rt_ddl.specs.declared.parts.Part.TheVariants as part
use Rattle.rt_ddl.specs.declared.parts.RuleText.{RuleText}
use Rattle.rt_ddl.specs.declared.parts.RuleText.TheVariants as rule
use Rattle.rt_ddl.specs.declared.parts.TableText.{TableText}
use Rattle.rt_ddl_tree.specs.declared.test_tree.Test.{Test}
use Rattle.rt_ddl_tree.specs.declared.test_tree.TestForm.{TestForm}
use Rattle.rt_ddl_tree.specs.declared.test_tree.TestForm.TheVariants as form
use Rattle.rt_ddl_tree.specs.declared.test_tree.TestLeaf.{TestLeaf}
use Rattle.rt_ddl_tree.specs.declared.test_tree.TestPart.{TestPart}
use Rattle.rt_ddl_tree.specs.declared.test_tree.TestSide.{TestSide}
use Rattle.rt_ddl_tree.specs.declared.test_tree.TestSide.TheVariants as side

-- ---- choices

both-none : {A : Type 0} (a b : Option A) → or_else a b ≡ None → (a ≡ None) × (b ≡ None)
both-none None b e = (refl, e)
both-none (Some x) b e = cc e

if-none : {A : Type 0} (b : Bool) (x : A) → cond b None (Some x) ≡ None → b ≡ true
if-none true x e = refl
if-none false x e = cc e

and-intro : (a b : Bool) → a ≡ true → b ≡ true → (a && b) ≡ true
and-intro true b p q = q
and-intro false b p q = p

and-left : (a b : Bool) → (a && b) ≡ true → a ≡ true
and-left true b p = refl
and-left false b p = p

and-right : (a b : Bool) → (a && b) ≡ true → b ≡ true
and-right true b p = p
and-right false b p = cc p

-- ---- places of columns

here : (b : Bool) (n : ℕ) (k : ℕ) → (b ≡ false → n < k) → cond b 0 (suc n) < suc k
here true n k f = omega arith
here false n k f = let h = f refl in omega arith

or-false : (b c : Bool) → (b || c) ≡ true → b ≡ false → c ≡ true
or-false true c p q = cc q
or-false false c p q = p

column-in : (ps : List Part) (n : Word) → has_column ps n ≡ true → column_at (columns_of ps) n < length (columns_of ps)
column-in [] n h = cc h
column-in (part.Column c ∷ ps) n h = here (bytes_eq c.name n) (column_at (columns_of ps) n) (length (columns_of ps)) (λ e. column-in ps n (or-false (bytes_eq c.name n) (has_column ps n) h e))
column-in (part.Rule t r ∷ ps) n h = column-in ps n h

below : (m n : ℕ) → m < n → nat_lt m n ≡ true
below m n h = grind (arith, nat_tests)

abbrev InRange : List Part → ℕ → Bool
InRange ps c = nat_lt c (length (columns_of ps))

columns-in : (ps : List Part) (ns : List Word) → missing ps ns ≡ None → list_all (InRange ps) (columns_at (columns_of ps) ns) ≡ true
unfolding unknown_column
columns-in ps [] e = refl
columns-in ps (n ∷ ns) e =
    let h = both-none (unknown_column ps n) (missing ps ns) e in
    and-intro (InRange ps (column_at (columns_of ps) n)) (list_all (InRange ps) (columns_at (columns_of ps) ns)) (below _ _ (column-in ps n (if-none (has_column ps n) n h.0))) (columns-in ps ns h.1)

-- ---- checks

abbrev place : List Part → Word → ℕ
place ps = column_at (columns_of ps)

side-in : (ps : List Part) (s : TestSide) → side_unknown ps s ≡ None → side_there (columns_of ps) (side_made (place ps) s) ≡ true
unfolding unknown_column
side-in ps (side.Column n) u = below _ _ (column-in ps n.text (if-none (has_column ps n.text) n.text u))
side-in ps (side.Number false n) u = refl
side-in ps (side.Number true n) u = refl
side-in ps (side.Str t) u = refl
side-in ps side.Null u = refl

sides-in : (ps : List Part) (ss : List TestSide) → sides_unknown ps ss ≡ None → list_all (side_there (columns_of ps)) (map (side_made (place ps)) ss) ≡ true
sides-in ps [] u = refl
sides-in ps (s ∷ ss) u =
    let h = both-none (side_unknown ps s) (sides_unknown ps ss) u in
    and-intro (side_there (columns_of ps) (side_made (place ps) s)) _ (side-in ps s h.0) (sides-in ps ss h.1)

form-in : (ps : List Part) (f : TestForm) → form_unknown ps f ≡ None → leaf_there (columns_of ps) (form_made (place ps) f) ≡ true
form-in ps (form.Cmp a o b) u =
    let h = both-none (side_unknown ps a) (side_unknown ps b) u in
    and-intro (side_there (columns_of ps) (side_made (place ps) a)) _ (side-in ps a h.0) (side-in ps b h.1)
form-in ps (form.IsNull a n) u = side-in ps a u
form-in ps (form.Between a n low high) u =
    let h = both-none (side_unknown ps a) _ u in
    let k = both-none (side_unknown ps low) (side_unknown ps high) h.1 in
    and-intro (side_there (columns_of ps) (side_made (place ps) a)) _ (side-in ps a h.0)
    (and-intro (side_there (columns_of ps) (side_made (place ps) low)) _ (side-in ps low k.0) (side-in ps high k.1))
form-in ps (form.OneOf a n b bs) u =
    let h = both-none (side_unknown ps a) _ u in
    let k = both-none (side_unknown ps b) (sides_unknown ps bs) h.1 in
    and-intro (side_there (columns_of ps) (side_made (place ps) a)) _ (side-in ps a h.0)
    (and-intro (side_there (columns_of ps) (side_made (place ps) b)) _ (side-in ps b k.0) (sides-in ps bs k.1))

leaves-in : (ps : List Part) (ls : List TestLeaf) → leaves_unknown ps ls ≡ None → list_all (λ atom. leaf_there (columns_of ps) atom.of) (map (leaf_made (place ps)) ls) ≡ true
leaves-in ps [] u = refl
leaves-in ps (l ∷ ls) u =
    let h = both-none (form_unknown ps l.form) (leaves_unknown ps ls) u in
    and-intro (leaf_there (columns_of ps) (form_made (place ps) l.form)) _ (form-in ps l.form h.0) (leaves-in ps ls h.1)

all-in : (ps : List Part) (p : TestPart) → all_unknown ps p ≡ None → part_there (columns_of ps) (part_made (place ps) p) ≡ true
all-in ps p u =
    let h = both-none (form_unknown ps p.head.form) (leaves_unknown ps p.tail) u in
    and-intro (leaf_there (columns_of ps) (form_made (place ps) p.head.form)) _ (form-in ps p.head.form h.0) (leaves-in ps p.tail h.1)

any-in : (ps : List Part) (qs : List TestPart) → any_unknown ps qs ≡ None → list_all (part_there (columns_of ps)) (map (part_made (place ps)) qs) ≡ true
any-in ps [] u = refl
any-in ps (q ∷ qs) u =
    let h = both-none (all_unknown ps q) (any_unknown ps qs) u in
    and-intro (part_there (columns_of ps) (part_made (place ps) q)) _ (all-in ps q h.0) (any-in ps qs h.1)

check-in : (ps : List Part) (t : Test) → test_unknown ps t ≡ None → check_there (columns_of ps) (check_made (place ps) t) ≡ true
check-in ps t u =
    let h = both-none (all_unknown ps t.head) (any_unknown ps t.tail) u in
    and-intro (part_there (columns_of ps) (part_made (place ps) t.head)) _ (all-in ps t.head h.0) (any-in ps t.tail h.1)

-- ---- rules

abbrev Sounds : List Table → List Part → List Rule → Type 0
Sounds all ps rules = list_all (rule_sound all (columns_of ps)) rules ≡ true

not-nulls : (all : List Table) (ps : List Part) (cs : List ℕ) → list_all (InRange ps) cs ≡ true → Sounds all ps (map (λ c. made.NotNull c) cs)
not-nulls all ps [] h = refl
not-nulls all ps (c ∷ cs) h = and-intro (InRange ps c) _ (and-left (InRange ps c) (list_all (InRange ps) cs) h) (not-nulls all ps cs (and-right (InRange ps c) (list_all (InRange ps) cs) h))

rule-made : (ts : List TableText) (all : List Table) (ps : List Part) (r : RuleText) → rule_unknown ts ps r ≡ None
    → list_all (key_matches all (columns_of ps)) (rules_made ts (columns_of ps) r) ≡ true → list_all (rule_typed (columns_of ps)) (rules_made ts (columns_of ps) r) ≡ true → Sounds all ps (rules_made ts (columns_of ps) r)
unfolding unknown_column
rule-made ts all ps (rule.NotNull n) u m y =
    and-intro (InRange ps (column_at (columns_of ps) n)) true (below _ _ (column-in ps n (if-none (has_column ps n) n u))) refl
rule-made ts all ps (rule.PrimaryKey ns) u m y =
    let h = columns-in ps ns u in
    and-intro (list_all (InRange ps) (columns_at (columns_of ps) ns)) _ h (not-nulls all ps (columns_at (columns_of ps) ns) h)
rule-made ts all ps (rule.Unique ns) u m y = and-intro (list_all (InRange ps) (columns_at (columns_of ps) ns)) true (columns-in ps ns u) refl
rule-made ts all ps (rule.Foreign from t to) u m y = m
rule-made ts all ps (rule.Check t) u m y =
    let c = check_made (place ps) t in
    and-intro (check_there (columns_of ps) c && check_typed (columns_of ps) c) true
    (and-intro (check_there (columns_of ps) c) (check_typed (columns_of ps) c) (check-in ps t u) (and-left (check_typed (columns_of ps) c) true y)) refl
rule-made ts all ps (rule.Depend from to) u m y =
    let h = both-none (missing ps from) (missing ps to) u in
    let a = list_all (InRange ps) (columns_at (columns_of ps) from) in
    let b = list_all (InRange ps) (columns_at (columns_of ps) to) in
    and-intro (a && b) true (and-intro a b (columns-in ps from h.0) (columns-in ps to h.1)) refl

all-append : {A : Type 0} (f : A → Bool) (xs ys : List A) → list_all f xs ≡ true → list_all f ys ≡ true → list_all f (xs ++ ys) ≡ true
all-append f [] ys p q = q
all-append f (x ∷ xs) ys p q = and-intro (f x) (list_all f (xs ++ ys)) (and-left (f x) (list_all f xs) p) (all-append f xs ys (and-right (f x) (list_all f xs) p) q)

all-left : {A : Type 0} (f : A → Bool) (xs ys : List A) → list_all f (xs ++ ys) ≡ true → list_all f xs ≡ true
all-left f [] ys p = refl
all-left f (x ∷ xs) ys p = and-intro (f x) (list_all f xs) (and-left (f x) (list_all f (xs ++ ys)) p) (all-left f xs ys (and-right (f x) (list_all f (xs ++ ys)) p))

all-right : {A : Type 0} (f : A → Bool) (xs ys : List A) → list_all f (xs ++ ys) ≡ true → list_all f ys ≡ true
all-right f [] ys p = p
all-right f (x ∷ xs) ys p = all-right f xs ys (and-right (f x) (list_all f (xs ++ ys)) p)

part-made : (b : Bool) (ts : List TableText) (all : List Table) (ps : List Part) (p : Part) → part_unknown ts ps p ≡ None
    → list_all (key_matches all (columns_of ps)) (part_rules b ts (columns_of ps) p) ≡ true → list_all (rule_typed (columns_of ps)) (part_rules b ts (columns_of ps) p) ≡ true → Sounds all ps (part_rules b ts (columns_of ps) p)
part-made true ts all ps (part.Column c) u m y = refl
part-made true ts all ps (part.Rule true r) u m y = rule-made ts all ps r u m y
part-made true ts all ps (part.Rule false r) u m y = refl
part-made false ts all ps (part.Column c) u m y = refl
part-made false ts all ps (part.Rule true r) u m y = refl
part-made false ts all ps (part.Rule false r) u m y = rule-made ts all ps r u m y

parts-made : (b : Bool) (ts : List TableText) (all : List Table) (ps qs : List Part) → parts_unknown ts ps qs ≡ None
    → list_all (key_matches all (columns_of ps)) (flat_map (part_rules b ts (columns_of ps)) qs) ≡ true → list_all (rule_typed (columns_of ps)) (flat_map (part_rules b ts (columns_of ps)) qs) ≡ true → Sounds all ps (flat_map (part_rules b ts (columns_of ps)) qs)
parts-made b ts all ps [] u m y = refl
parts-made b ts all ps (q ∷ qs) u m y =
    let h = both-none (part_unknown ts ps q) (parts_unknown ts ps qs) u in
    let one = part_rules b ts (columns_of ps) q in
    let more = flat_map (part_rules b ts (columns_of ps)) qs in
    all-append (rule_sound all (columns_of ps)) one more
    (part-made b ts all ps q h.0 (all-left (key_matches all (columns_of ps)) one more m) (all-left (rule_typed (columns_of ps)) one more y))
    (parts-made b ts all ps qs h.1 (all-right (key_matches all (columns_of ps)) one more m) (all-right (rule_typed (columns_of ps)) one more y))

-- ---- tables

table-made : (ts : List TableText) (all : List Table) (t : TableText) → parts_unknown ts t.parts t.parts ≡ None → keys_match all (table_of ts t) ≡ true → checks_typed (table_of ts t) ≡ true → table_sound all (table_of ts t) ≡ true
table-made ts all t u m y =
    let cs = columns_of t.parts in
    let first = flat_map (part_rules false ts cs) t.parts in
    let second = flat_map (part_rules true ts cs) t.parts in
    all-append (rule_sound all cs) first second
    (parts-made false ts all t.parts t.parts u (all-left (key_matches all cs) first second m) (all-left (rule_typed cs) first second y))
    (parts-made true ts all t.parts t.parts u (all-right (key_matches all cs) first second m) (all-right (rule_typed cs) first second y))

tables-made : (all : List TableText) (ts : List TableText) → tables_unknown all ts ≡ None → mismatched (tables_of all) (map (table_of all) ts) ≡ None → untyped (map (table_of all) ts) ≡ None → list_all (table_sound (tables_of all)) (map (table_of all) ts) ≡ true
unfolding mismatch mistyped
tables-made all [] u m y = refl
tables-made all (t ∷ ts) u m y =
    let h = both-none (parts_unknown all t.parts t.parts) (tables_unknown all ts) u in
    let k = both-none (mismatch (tables_of all) (table_of all t)) (mismatched (tables_of all) (map (table_of all) ts)) m in
    let z = both-none (mistyped (table_of all t)) (untyped (map (table_of all) ts)) y in
    and-intro (table_sound (tables_of all) (table_of all t)) _
    (table-made all (tables_of all) t h.0 (if-none (keys_match (tables_of all) (table_of all t)) t.name k.0) (if-none (checks_typed (table_of all t)) t.name z.0)) (tables-made all ts h.1 k.1 z.1)

pub sound_tables : (ts : List TableText) (tables : List Table) → tables ≡ tables_of ts → tables_unknown ts ts ≡ None → mismatched (tables_of ts) (tables_of ts) ≡ None → untyped tables ≡ None → IsTrue (is_sound tables)
sound_tables ts tables e u m y =
    subst (λ (tables : List Table). IsTrue (is_sound tables)) (sym e)
    (subst IsTrue (sym (tables-made ts ts u m (subst (λ (tables : List Table). untyped tables ≡ None) e y))) refl)
