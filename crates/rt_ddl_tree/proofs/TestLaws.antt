-- Conditions: each reader keeps to the spelling.
use Rattle.std.proofs.Common.{◌≡◌, ◌≤◌, ◌<◌, ap, ℕ, List, [], ◌∷◌, ◌++◌, length, refl, Bool, true, false, Some, arith}
use Rattle.std.specs.Prelude.{is_some}
use Rattle.std.specs.List.{flat_map}
use Rattle.rt_value.specs.declared.value.Op.{Op}
use Rattle.rt_value.specs.declared.value.Op.TheVariants as op
use Rattle.rt_token.specs.Comparisons.{op_at, op_sign, read_op}
use Rattle.rt_token.specs.Readers.{Parser, both, done, flag_at, flagged, lead, list_of, made, starts}
use Rattle.rt_token.specs.Terminals.{Kinds, code, flag, front, in_paren}
use Rattle.rt_token.specs.declared.fixed.Fixed.TheVariants as fixed
use Rattle.rt_token.specs.declared.terminal.Terminal.TheVariants as terminal
use Rattle.rt_token.proofs.ComparisonLaws.{op-law, op_kinds}
use Rattle.rt_token.proofs.Laws.{Sound, SoundAfter, alternative-sound, both-law, done-law, either-sound, flagged-law, lead-law, loose, made-after, made-law, made-sound, shorter}
use Rattle.rt_token.proofs.ListLaws.{StepLaw, after-law, follows, list-law}
use Rattle.rt_token.proofs.ManyLemmas.{some-is}
use Rattle.rt_ddl_tree.specs.TestReads.{between, compared, is_compared, is_null_test, is_one_of, leaf_of, leaf_step, null_of, one_of, part_of, part_step, past_side, read_between, read_bounds, read_compared, read_condition, read_form, read_is_null, read_leaf, read_negative, read_one_of, read_part, read_plain_side, read_side, read_sides, read_test, side_step, test_of}
use Rattle.rt_ddl_tree.specs.TestSpelled.{and_leaf, comma_side, or_part, spelled_form, spelled_leaf, spelled_part, spelled_side, spelled_test}
use Rattle.rt_ddl_tree.specs.declared.test_tree.Test.{Test}
use Rattle.rt_ddl_tree.specs.declared.test_tree.TestForm.{TestForm}
use Rattle.rt_ddl_tree.specs.declared.test_tree.TestForm.TheVariants as form
use Rattle.rt_ddl_tree.specs.declared.test_tree.TestLeaf.{TestLeaf}
use Rattle.rt_ddl_tree.specs.declared.test_tree.TestPart.{TestPart}
use Rattle.rt_ddl_tree.specs.declared.test_tree.TestSide.{TestSide}
use Rattle.rt_ddl_tree.specs.declared.test_tree.TestSide.TheVariants as side
use Rattle.rt_ddl_tree.proofs.ReaderLaws.{Law, paren-any}

-- ---- sides

plain-sound : Sound read_plain_side spelled_side
plain-sound [] q e = cc e
plain-sound (terminal.Fixed f ∷ ks) q e = cc e
plain-sound (terminal.Name n ∷ ks) q e = let h : (side.Column n, ks) ≡ q = some-is _ _ e in ap (λ (q : TestSide × Kinds). spelled_side q.0 ++ q.1) h
plain-sound (terminal.Number n ∷ ks) q e = let h : (side.Number false n, ks) ≡ q = some-is _ _ e in ap (λ (q : TestSide × Kinds). spelled_side q.0 ++ q.1) h
plain-sound (terminal.Str t ∷ ks) q e = let h : (side.Str t, ks) ≡ q = some-is _ _ e in ap (λ (q : TestSide × Kinds). spelled_side q.0 ++ q.1) h

negative-after : SoundAfter (terminal.Fixed fixed.Minus) read_negative spelled_side
negative-after [] q e = cc e
negative-after (terminal.Fixed f ∷ ks) q e = cc e
negative-after (terminal.Name n ∷ ks) q e = cc e
negative-after (terminal.Number n ∷ ks) q e = let h : (side.Number true n, ks) ≡ q = some-is _ _ e in ap (λ (q : TestSide × Kinds). spelled_side q.0 ++ q.1) h
negative-after (terminal.Str t ∷ ks) q e = cc e

side-sound : Sound read_side spelled_side
unfolding read_side
side-sound =
    alternative-sound fixed.Minus read_negative _ spelled_side negative-after
    (alternative-sound fixed.Null (made (λ u. side.Null) done) read_plain_side spelled_side (made-after _ done (λ u. side.Null) (λ u. []) spelled_side (done-law false 0).sound (λ x. refl)) plain-sound)

side-reads : (x : TestSide) (rest : Kinds) → read_side (spelled_side x ++ rest) ≡ Some (x, rest)
unfolding read_side
side-reads (side.Column n) rest = refl
side-reads (side.Number false n) rest = refl
side-reads (side.Number true n) rest = refl
side-reads (side.Str t) rest = refl
side-reads side.Null rest = refl

side-law : (n : ℕ) → Law read_side spelled_side n 0
side-law n = loose read_side spelled_side n 0 side-sound (λ x rest h f. side-reads x rest)

pub side-shorter : (ks more : Kinds) (x : TestSide) → read_side ks ≡ Some (x, more) → length more ≤ length ks
side-shorter ks more x e = shorter read_side spelled_side 0 0 (side-law 0) ks x more e

pub side-step-law : (n : ℕ) → StepLaw false side_step comma_side n 0 29
side-step-law n = after-law fixed.Comma read_side spelled_side n 0 (side-law n) (λ e. omega arith) (λ e. omega arith) (omega arith)

abbrev sides_kinds : TestSide × List TestSide → Kinds
sides_kinds x = in_paren (spelled_side x.0 ++ flat_map comma_side x.1)

sides-law : (n : ℕ) → Law read_sides sides_kinds n 0
unfolding read_sides
sides-law n = paren-any (both read_side (list_of side_step)) (λ (x : TestSide × List TestSide). spelled_side x.0 ++ flat_map comma_side x.1) n 29
    (both-law read_side (list_of side_step) spelled_side (flat_map comma_side) n 0 29 (side-law n) (list-law side_step comma_side n 0 29 (side-step-law n)) (λ y rest f. omega arith)) (omega arith)

-- ---- forms

abbrev compared_kinds : TestSide × (Op × TestSide) → Kinds
compared_kinds x = spelled_side x.0 ++ (op_kinds x.1.0 ++ spelled_side x.1.1)

compared-law : (n : ℕ) → Law (both read_side (both read_op read_side)) compared_kinds n 0
compared-law n = both-law read_side (both read_op read_side) spelled_side (λ (x : Op × TestSide). op_kinds x.0 ++ spelled_side x.1) n 0 0 (side-law n)
    (both-law read_op read_side op_kinds spelled_side n 0 0 (op-law n) (side-law n) (λ y rest f. omega arith)) (λ y rest f. omega arith)

abbrev read_null : Parser (Unit {0})
read_null = lead fixed.Null done

abbrev null_kinds : Unit {0} → Kinds
null_kinds u = terminal.Fixed fixed.Null ∷ []

null-law : (n : ℕ) → Law read_null null_kinds n 0
null-law n = lead-law fixed.Null done (λ (u : Unit {0}). []) n 0 (done-law false n) (λ e. omega arith) (λ e. omega arith)

abbrev is_kinds : TestSide × (Bool × Unit {0}) → Kinds
is_kinds x = spelled_side x.0 ++ terminal.Fixed fixed.Is ∷ (flag fixed.Not x.1.0 ++ null_kinds x.1.1)

is-law : (n : ℕ) → Law (both read_side (lead fixed.Is (flagged fixed.Not read_null))) is_kinds n 0
is-law n = both-law read_side (lead fixed.Is (flagged fixed.Not read_null)) spelled_side (λ (x : Bool × Unit {0}). terminal.Fixed fixed.Is ∷ (flag fixed.Not x.0 ++ null_kinds x.1)) n 0 0 (side-law n)
    (lead-law fixed.Is (flagged fixed.Not read_null) (λ (x : Bool × Unit {0}). flag fixed.Not x.0 ++ null_kinds x.1) n 0
    (flagged-law fixed.Not read_null null_kinds n 0 (null-law n) (λ e. omega arith) (λ e. omega arith) (λ x rest f e. omega arith)) (λ e. omega arith) (λ e. omega arith))
    (λ y rest f. omega arith)

abbrev in_kinds : TestSide × List TestSide → Kinds
in_kinds x = terminal.Fixed fixed.In ∷ sides_kinds x

abbrev one_of_kinds : TestSide × (Bool × (TestSide × List TestSide)) → Kinds
one_of_kinds x = spelled_side x.0 ++ (flag fixed.Not x.1.0 ++ in_kinds x.1.1)

one-of-law : (n : ℕ) → Law (both read_side (flagged fixed.Not (lead fixed.In read_sides))) one_of_kinds n 0
one-of-law n = both-law read_side (flagged fixed.Not (lead fixed.In read_sides)) spelled_side (λ (x : Bool × (TestSide × List TestSide)). flag fixed.Not x.0 ++ in_kinds x.1) n 0 0 (side-law n)
    (flagged-law fixed.Not (lead fixed.In read_sides) in_kinds n 0 (lead-law fixed.In read_sides sides_kinds n 0 (sides-law n) (λ e. omega arith) (λ e. omega arith)) (λ e. omega arith) (λ e. omega arith) (λ x rest f e. omega arith))
    (λ y rest f. omega arith)

abbrev bounds_kinds : TestSide × TestSide → Kinds
bounds_kinds x = terminal.Fixed fixed.Between ∷ (spelled_side x.0 ++ terminal.Fixed fixed.And ∷ spelled_side x.1)

bounds-law : (n : ℕ) → Law read_bounds bounds_kinds n 0
unfolding read_bounds
bounds-law n = lead-law fixed.Between (both read_side (lead fixed.And read_side)) (λ (x : TestSide × TestSide). spelled_side x.0 ++ terminal.Fixed fixed.And ∷ spelled_side x.1) n 0
    (both-law read_side (lead fixed.And read_side) spelled_side (λ s. terminal.Fixed fixed.And ∷ spelled_side s) n 0 0 (side-law n) (lead-law fixed.And read_side spelled_side n 0 (side-law n) (λ e. omega arith) (λ e. omega arith)) (λ y rest f. omega arith))
    (λ e. omega arith) (λ e. omega arith)

abbrev between_kinds : TestSide × (Bool × (TestSide × TestSide)) → Kinds
between_kinds x = spelled_side x.0 ++ (flag fixed.Not x.1.0 ++ bounds_kinds x.1.1)

between-law : (n : ℕ) → Law (both read_side (flagged fixed.Not read_bounds)) between_kinds n 0
between-law n = both-law read_side (flagged fixed.Not read_bounds) spelled_side (λ (x : Bool × (TestSide × TestSide)). flag fixed.Not x.0 ++ bounds_kinds x.1) n 0 0 (side-law n)
    (flagged-law fixed.Not read_bounds bounds_kinds n 0 (bounds-law n) (λ e. omega arith) (λ e. omega arith) (λ x rest f e. omega arith))
    (λ y rest f. omega arith)

form-sound : Sound read_form spelled_form
unfolding read_form read_compared read_is_null read_one_of read_between
form-sound =
    either-sound is_compared read_compared _ spelled_form (made-sound _ compared compared_kinds spelled_form (compared-law 0).sound (λ x. refl))
    (either-sound is_null_test read_is_null _ spelled_form (made-sound _ null_of is_kinds spelled_form (is-law 0).sound (λ x. refl))
    (either-sound is_one_of read_one_of read_between spelled_form (made-sound _ one_of one_of_kinds spelled_form (one-of-law 0).sound (λ x. refl))
    (made-sound _ between between_kinds spelled_form (between-law 0).sound (λ x. refl))))

-- what follows a form's first side decides which form it is
past-side : (a : TestSide) (x rest : Kinds) → past_side ((spelled_side a ++ x) ++ rest) ≡ x ++ rest
past-side (side.Column n) x rest = refl
past-side (side.Number false n) x rest = refl
past-side (side.Number true n) x rest = refl
past-side (side.Str t) x rest = refl
past-side side.Null x rest = refl

compared-at : (a : TestSide) (x rest : Kinds) → is_compared ((spelled_side a ++ x) ++ rest) ≡ is_some (op_at (front (x ++ rest)))
compared-at a x rest = ap (λ (ks : Kinds). is_some (op_at (front ks))) (past-side a x rest)

null-at : (a : TestSide) (x rest : Kinds) → is_null_test ((spelled_side a ++ x) ++ rest) ≡ starts fixed.Is (x ++ rest)
null-at a x rest = ap (λ (ks : Kinds). starts fixed.Is ks) (past-side a x rest)

one-of-at : (a : TestSide) (x rest : Kinds) → is_one_of ((spelled_side a ++ x) ++ rest) ≡ starts fixed.In (flag_at fixed.Not (x ++ rest)).1
one-of-at a x rest = ap (λ (ks : Kinds). starts fixed.In (flag_at fixed.Not ks).1) (past-side a x rest)

an-op : (o : Op) → is_some (op_at (code (op_sign o))) ≡ true
an-op op.Eq = refl
an-op op.Ne = refl
an-op op.Lt = refl
an-op op.Le = refl
an-op op.Gt = refl
an-op op.Ge = refl

form-reads : (n : ℕ) (x : TestForm) (rest : Kinds) → length (spelled_form x) < n → read_form (spelled_form x ++ rest) ≡ Some (x, rest)
unfolding read_form read_compared read_is_null read_one_of read_between
form-reads n (form.Cmp a o b) rest h =
    let one = (compared-law n).reads (a, (o, b)) rest h (omega arith) in
    rw (compared-at a (terminal.Fixed (op_sign o) ∷ spelled_side b) rest, an-op o, one) refl
form-reads n (form.IsNull a m) rest h =
    let one = (is-law n).reads (a, (m, tt)) rest h (omega arith) in
    let x = terminal.Fixed fixed.Is ∷ (flag fixed.Not m ++ terminal.Fixed fixed.Null ∷ []) in
    rw (compared-at a x rest, null-at a x rest, one) refl
form-reads n (form.OneOf a false b cs) rest h =
    let one = (one-of-law n).reads (a, (false, (b, cs))) rest h (omega arith) in
    let x = in_kinds (b, cs) in
    rw (compared-at a x rest, null-at a x rest, one-of-at a x rest, one) refl
form-reads n (form.OneOf a true b cs) rest h =
    let one = (one-of-law n).reads (a, (true, (b, cs))) rest h (omega arith) in
    let x = terminal.Fixed fixed.Not ∷ in_kinds (b, cs) in
    rw (compared-at a x rest, null-at a x rest, one-of-at a x rest, one) refl
form-reads n (form.Between a false b c) rest h =
    let one = (between-law n).reads (a, (false, (b, c))) rest h (omega arith) in
    let x = bounds_kinds (b, c) in
    rw (compared-at a x rest, null-at a x rest, one-of-at a x rest, one) refl
form-reads n (form.Between a true b c) rest h =
    let one = (between-law n).reads (a, (true, (b, c))) rest h (omega arith) in
    let x = terminal.Fixed fixed.Not ∷ bounds_kinds (b, c) in
    rw (compared-at a x rest, null-at a x rest, one-of-at a x rest, one) refl

form-law : (n : ℕ) → Law read_form spelled_form n 0
form-law n = loose read_form spelled_form n 0 form-sound (λ x rest h f. form-reads n x rest h)

side-front : (a : TestSide) (x rest : Kinds) → front ((spelled_side a ++ x) ++ rest) ≡ code fixed.Not → ⊥
side-front (side.Column n) x rest e = omega arith
side-front (side.Number false n) x rest e = omega arith
side-front (side.Number true n) x rest e = omega arith
side-front (side.Str t) x rest e = omega arith
side-front side.Null x rest e = omega arith

form-front : (x : TestForm) (rest : Kinds) → front (spelled_form x ++ rest) ≡ code fixed.Not → ⊥
form-front (form.Cmp a o b) rest e = side-front a _ rest e
form-front (form.IsNull a m) rest e = side-front a _ rest e
form-front (form.OneOf a m b cs) rest e = side-front a _ rest e
form-front (form.Between a m b c) rest e = side-front a _ rest e

-- ---- conditions

leaf-law : (n : ℕ) → Law read_leaf spelled_leaf n 0
unfolding read_leaf
leaf-law n = made-law (flagged fixed.Not read_form) leaf_of (λ (l : TestLeaf). (l.not, l.form)) (λ (x : Bool × TestForm). flag fixed.Not x.0 ++ spelled_form x.1) spelled_leaf n 0
    (flagged-law fixed.Not read_form spelled_form n 0 (form-law n) (λ e. omega arith) (λ e. omega arith) (λ x rest f e. form-front x rest e))
    (λ y. refl) (λ x. refl)

pub leaf-shorter : (ks more : Kinds) (x : TestLeaf) → read_leaf ks ≡ Some (x, more) → length more ≤ length ks
leaf-shorter ks more x e = shorter read_leaf spelled_leaf 0 0 (leaf-law 0) ks x more e

pub leaf-step-law : (n : ℕ) → StepLaw false leaf_step and_leaf n 0 21
leaf-step-law n = after-law fixed.And read_leaf spelled_leaf n 0 (leaf-law n) (λ e. omega arith) (λ e. omega arith) (omega arith)

part-law : (n : ℕ) → Law read_part spelled_part n 21
unfolding read_part
part-law n = made-law (both read_leaf (list_of leaf_step)) part_of (λ (p : TestPart). (p.head, p.tail)) (λ (x : TestLeaf × List TestLeaf). spelled_leaf x.0 ++ flat_map and_leaf x.1) spelled_part n 21
    (both-law read_leaf (list_of leaf_step) spelled_leaf (flat_map and_leaf) n 0 21 (leaf-law n) (list-law leaf_step and_leaf n 0 21 (leaf-step-law n)) (λ xs rest f. omega arith))
    (λ y. refl) (λ x. refl)

pub part-shorter : (ks more : Kinds) (x : TestPart) → read_part ks ≡ Some (x, more) → length more ≤ length ks
part-shorter ks more x e = shorter read_part spelled_part 0 21 (part-law 0) ks x more e

pub part-step-law : (n : ℕ) → StepLaw false part_step or_part n 21 22
part-step-law n = after-law fixed.Or read_part spelled_part n 21 (part-law n) (λ e. omega arith) (λ e. omega arith) (omega arith)

test-law : (n : ℕ) → Law read_test spelled_test n 22
unfolding read_test
test-law n =
    let step = part-step-law n in
    made-law (both read_part (list_of part_step)) test_of (λ (t : Test). (t.head, t.tail)) (λ (x : TestPart × List TestPart). spelled_part x.0 ++ flat_map or_part x.1) spelled_test n 22
    (both-law read_part (list_of part_step) spelled_part (flat_map or_part) n 21 22 (part-law n) (list-law part_step or_part n 21 22 step) (λ xs rest f. follows or_part 21 step.starts xs rest (omega arith)))
    (λ y. refl) (λ x. refl)

pub condition-law : (n : ℕ) → Law read_condition (λ (t : Test). in_paren (spelled_test t)) n 0
unfolding read_condition
condition-law n = paren-any read_test spelled_test n 22 (test-law n) (omega arith)
