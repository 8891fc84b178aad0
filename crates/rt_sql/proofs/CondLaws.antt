-- Conditions: each reader keeps to the spelling.
use Rattle.std.proofs.Common.{◌≡◌, ◌≤◌, ◌<◌, ◌+◌, sym, ap, subst, ℕ, List, [], ◌∷◌, ◌++◌, length, refl, Bool, true, false, Option, Some, None, append_assoc, cond, arith, ◌==◌, length-append}
use Rattle.std.proofs.lemmas.Bool.Decides.{nat_tests}
use Rattle.std.specs.Prelude.{replicate, option_map}
use Rattle.std.specs.List.{flat_map}
use Rattle.rt_token.specs.declared.fixed.Fixed.TheVariants as fixed
use Rattle.rt_token.specs.declared.terminal.Terminal.{Terminal}
use Rattle.rt_token.specs.declared.terminal.Terminal.TheVariants as terminal
use Rattle.rt_token.specs.Terminals.{Kinds, after, code, code_of, flag, front, in_paren}
use Rattle.rt_token.specs.Readers.{Parser, both, done, either, flagged, lead, list_of, made, paren, read_name, repeated, starts, starts_name}
use Rattle.rt_token.proofs.ManyLemmas.{bind-some, some-is}
use Rattle.rt_token.proofs.FrontLemmas.{Passed, after-sound, other-nat, passed-cons, passed-nil}
use Rattle.rt_token.proofs.Laws.{Lawful, both-law, done-law, either-sound, flagged-law, lead-law, made-law, made-sound, paren-law, repeated-law}
use Rattle.rt_token.proofs.ListLaws.{StepLaw, after-law, follows, list-law}
use Rattle.rt_tree.specs.declared.tree.Op.{Op}
use Rattle.rt_tree.specs.declared.tree.Op.TheVariants as op
use Rattle.rt_tree.specs.declared.tree.Sum.{Sum}
use Rattle.rt_tree.specs.declared.tree.Atom.{Atom, out-Atom, roll-Atom, roll-out-Atom}
use Rattle.rt_tree.specs.declared.tree.Base.{Base}
use Rattle.rt_tree.specs.declared.tree.Join.{Join}
use Rattle.rt_tree.specs.declared.tree.Primary.{Primary}
use Rattle.rt_tree.specs.declared.tree.Chain.{Chain}
use Rattle.rt_tree.specs.declared.tree.ChainLink.{ChainLink}
use Rattle.rt_tree.specs.declared.tree.Cond.{Cond, out-Cond, roll-out-Cond}
use Rattle.rt_tree.specs.declared.tree.Conj.{Conj, out-Conj, roll-out-Conj}
use Rattle.rt_tree.specs.declared.tree.Meet.{Meet}
use Rattle.rt_tree.specs.declared.tree.MeetLink.{MeetLink}
use Rattle.rt_tree.specs.declared.tree.Neg.{Neg, out-Neg, roll-out-Neg}
use Rattle.rt_tree.specs.declared.tree.Pick.{Pick}
use Rattle.rt_tree.specs.declared.tree.Source.{Source}
use Rattle.rt_tree.specs.declared.tree.Atom.TheVariants as atom
use Rattle.rt_tree.specs.declared.tree.Atom.TheOpen as open_
use Rattle.rt_token.proofs.FrontLemmas.{is-fixed}
use Rattle.rt_tree.specs.Spelled.{op_sign, spelled_atom, spelled_chain, spelled_cond, spelled_conj, spelled_neg, spelled_sum, spelled_sums}
use Rattle.rt_tree.proofs.SpelledLemmas.{spelled-Between, spelled-Cmp, spelled-Cond, spelled-CondParen, spelled-Conj, spelled-Exists, spelled-InChain, spelled-InList, spelled-IsNull, spelled-Neg}
use Rattle.rt_sql.specs.declared.tested.Range.{Range}
use Rattle.rt_sql.specs.declared.tested.Range.TheVariants.{OfChain, OfList, OfBounds}
use Rattle.rt_sql.specs.declared.tested.Test.{Test}
use Rattle.rt_sql.specs.declared.tested.Test.TheVariants.{Compared, Null, Ranged}
use Rattle.rt_tree.specs.Reads.{sum_at}
use Rattle.rt_sql.specs.Reads.{Inner, atom_of, begins_chain, bounds, comma_sum_step, compared, cond_of, conj_of, conj_step, is_group, is_in_chain, is_op, list_range, neg_of, neg_step, null_of, op_at, ranged, ranged_of, read_atom, read_cond, read_conj, read_neg, read_null, read_op, read_range, read_sums, read_test, tested}
use Rattle.rt_tree.proofs.SumLaws.{not-front, starts_sum, sum-at-law, sum-front}
use Rattle.rt_sql.proofs.StartLemmas.{chain-begins, cond-group, sum-begins-not, sum-no-group}
use Rattle.rt_token.proofs.CalmLemmas.{IsCalm, calm-name}

-- readers of what is in parentheses, for trees of fewer than n terminals
pub record InnerLaw (inner : Inner) (n : ℕ) : Type 0 where
  pub cond : Lawful true inner.cond spelled_cond n 22
  pub chain : Lawful true inner.chain spelled_chain n 33

-- ---- lists of sums

abbrev comma_sum : Sum → Kinds
comma_sum x = terminal.Fixed fixed.Comma ∷ spelled_sum x

pub comma-sum-law : (n : ℕ) → StepLaw true comma_sum_step comma_sum n 5 29
comma-sum-law n = after-law fixed.Comma sum_at spelled_sum n 5 (sum-at-law n) (λ e. omega arith) (λ e. omega arith) (omega arith)

abbrev sums_of : Sum × List Sum → Kinds
sums_of x = spelled_sums x.0 x.1

sums-law : (n : ℕ) → Lawful true read_sums sums_of n 29
unfolding read_sums
sums-law n = both-law sum_at (list_of comma_sum_step) spelled_sum (flat_map comma_sum) n 5 29 (sum-at-law n) (list-law comma_sum_step comma_sum n 5 29 (comma-sum-law n))
    (λ xs rest f. follows comma_sum 5 (comma-sum-law n).starts xs rest (omega arith))

-- ---- ranges

abbrev pub spelled_range : Range → Kinds
spelled_range (OfChain q) = terminal.Fixed fixed.In ∷ in_paren (spelled_chain q)
spelled_range (OfList s ss) = terminal.Fixed fixed.In ∷ in_paren (spelled_sums s ss)
spelled_range (OfBounds b c) = terminal.Fixed fixed.Between ∷ (spelled_sum b ++ terminal.Fixed fixed.And ∷ spelled_sum c)

abbrev in_chain : Chain → Kinds
in_chain q = terminal.Fixed fixed.In ∷ in_paren (spelled_chain q)

in-chain-law : (inner : Inner) (n : ℕ) → InnerLaw inner n → Lawful true (lead fixed.In (paren inner.chain)) in_chain (n + 2) 0
in-chain-law inner n l = lead-law fixed.In (paren inner.chain) (λ (q : Chain). in_paren (spelled_chain q)) (n + 2) 0 (paren-law inner.chain spelled_chain n 33 l.chain (omega arith)) (λ e. omega arith) (λ e. omega arith)

abbrev in_list : Sum × List Sum → Kinds
in_list x = terminal.Fixed fixed.In ∷ in_paren (sums_of x)

in-list-law : (n : ℕ) → Lawful true (lead fixed.In (paren read_sums)) in_list (n + 2) 0
in-list-law n = lead-law fixed.In (paren read_sums) (λ (x : Sum × List Sum). in_paren (sums_of x)) (n + 2) 0 (paren-law read_sums sums_of n 29 (sums-law n) (omega arith)) (λ e. omega arith) (λ e. omega arith)

abbrev read_bounds : Parser (Sum × Sum)
read_bounds = lead fixed.Between (both sum_at (lead fixed.And sum_at))

abbrev between : Sum × Sum → Kinds
between x = terminal.Fixed fixed.Between ∷ (spelled_sum x.0 ++ terminal.Fixed fixed.And ∷ spelled_sum x.1)

between-law : (n : ℕ) → Lawful true read_bounds between n 5
between-law n = lead-law fixed.Between (both sum_at (lead fixed.And sum_at)) (λ (x : Sum × Sum). spelled_sum x.0 ++ terminal.Fixed fixed.And ∷ spelled_sum x.1) n 5
    (both-law sum_at (lead fixed.And sum_at) spelled_sum (λ s. terminal.Fixed fixed.And ∷ spelled_sum s) n 5 5 (sum-at-law n) (lead-law fixed.And sum_at spelled_sum n 5 (sum-at-law n) (λ e. omega arith) (λ e. omega arith)) (λ y rest f. omega arith))
    (λ e. omega arith) (λ e. omega arith)

list-begins-not : (s : Sum) (ss : List Sum) (rest : Kinds) → begins_chain (in_paren (spelled_sums s ss) ++ rest) ≡ false
list-begins-not s ss rest = rw (append_assoc (spelled_sums s ss) (terminal.Fixed fixed.CloseParen ∷ []) rest, append_assoc (spelled_sum s) (flat_map comma_sum ss) (terminal.Fixed fixed.CloseParen ∷ rest)) (sum-begins-not s (flat_map comma_sum ss ++ terminal.Fixed fixed.CloseParen ∷ rest))

chain-in-paren-begins : (q : Chain) (rest : Kinds) → begins_chain (in_paren (spelled_chain q) ++ rest) ≡ true
chain-in-paren-begins q rest = rw (append_assoc (spelled_chain q) (terminal.Fixed fixed.CloseParen ∷ []) rest) (chain-begins q (terminal.Fixed fixed.CloseParen ∷ rest))

range-reads : (inner : Inner) (n : ℕ) → InnerLaw inner n → (x : Range) (rest : Kinds) → length (spelled_range x) < n + 2 → 5 ≤ front rest → read_range inner (spelled_range x ++ rest) ≡ Some (x, rest)
unfolding read_range
range-reads inner n l (OfChain q) rest h f =
    let one = (in-chain-law inner n l).reads q rest h (omega arith) in
    let t = chain-in-paren-begins q rest in
    rw (t, one) refl
range-reads inner n l (OfList s ss) rest h f =
    let one = (in-list-law n).reads (s, ss) rest h (omega arith) in
    let t = list-begins-not s ss rest in
    rw (t, one) refl
range-reads inner n l (OfBounds b c) rest h f =
    let one = (between-law (n + 2)).reads (b, c) rest h f in
    rw one refl

range-passed : (inner : Inner) (n : ℕ) → InnerLaw inner n → (x : Range) → length (spelled_range x) < n + 2 → Passed (spelled_range x)
range-passed inner n l (OfChain q) h = (in-chain-law inner n l).passed refl q h
range-passed inner n l (OfList s ss) h = (in-list-law n).passed refl (s, ss) h
range-passed inner n l (OfBounds b c) h = (between-law (n + 2)).passed refl (b, c) h

range-calm : (inner : Inner) (n : ℕ) → InnerLaw inner n → (x : Range) (rest : Kinds) → length (spelled_range x) < n + 2 → 5 ≤ front rest → IsCalm rest → IsCalm (spelled_range x ++ rest)
range-calm inner n l (OfChain q) rest h f k = (in-chain-law inner n l).calm refl q rest h (omega arith) k
range-calm inner n l (OfList s ss) rest h f k = (in-list-law n).calm refl (s, ss) rest h (omega arith) k
range-calm inner n l (OfBounds b c) rest h f k = (between-law (n + 2)).calm refl (b, c) rest h f k

pub range-law : (inner : Inner) (n : ℕ) → InnerLaw inner n → Lawful true (read_range inner) spelled_range (n + 2) 5
unfolding read_range
range-law inner n l = record {
  sound = either-sound is_in_chain (made OfChain (lead fixed.In (paren inner.chain))) (either (starts fixed.In) (made list_range (lead fixed.In (paren read_sums))) (made bounds read_bounds)) spelled_range
      (made-sound (lead fixed.In (paren inner.chain)) OfChain in_chain spelled_range (in-chain-law inner n l).sound (λ x. refl))
      (either-sound (starts fixed.In) (made list_range (lead fixed.In (paren read_sums))) (made bounds read_bounds) spelled_range
      (made-sound (lead fixed.In (paren read_sums)) list_range in_list spelled_range (in-list-law n).sound (λ x. refl))
      (made-sound read_bounds bounds between spelled_range (between-law n).sound (λ x. refl)));
  reads = range-reads inner n l;
  passed = λ s. range-passed inner n l;
  calm = λ s. range-calm inner n l;
}

range-front : (x : Range) (rest : Kinds) → (18 ≤ front (spelled_range x ++ rest)) × (front (spelled_range x ++ rest) < 20)
range-front (OfChain q) rest = (omega arith, omega arith)
range-front (OfList s ss) rest = (omega arith, omega arith)
range-front (OfBounds b c) rest = (omega arith, omega arith)

-- ---- tests

op-if : (c : ℕ) (b : Bool) (x : Op) (r : Option Op) (o : Op) → (b ≡ true → (c == code (op_sign x)) ≡ true) → (r ≡ Some o → (c == code (op_sign o)) ≡ true) → cond b (Some x) r ≡ Some o → (c == code (op_sign o)) ≡ true
op-if c true x r o f g e = subst (λ (o : Op). (c == code (op_sign o)) ≡ true) (some-is _ _ e) (f refl)
op-if c false x r o f g e = g e

op-at-sound : (c : ℕ) (o : Op) → op_at c ≡ Some o → (c == code (op_sign o)) ≡ true
op-at-sound c o = op-if c (c == 10) op.Eq _ o (λ e. e) (op-if c (c == 11) op.Ne _ o (λ e. e) (op-if c (c == 12) op.Lt _ o (λ e. e) (op-if c (c == 13) op.Le _ o (λ e. e) (op-if c (c == 14) op.Gt _ o (λ e. e) (op-if c (c == 15) op.Ge _ o (λ e. e) (λ e. cc e))))))

abbrev op_kinds : Op → Kinds
op_kinds o = terminal.Fixed (op_sign o) ∷ []

op-found : (k : Terminal) (ks : Kinds) (r : Option Op) (q : Op × Kinds) → op_at (code_of k) ≡ r → option_map (λ o. (o, ks)) r ≡ Some q → k ∷ ks ≡ op_kinds q.0 ++ q.1
op-found k ks None q a e = cc e
op-found k ks (Some o) q a e =
    let h : (o, ks) ≡ q = some-is _ _ e in
    subst (λ (q : Op × Kinds). k ∷ ks ≡ op_kinds q.0 ++ q.1) h (ap (λ (k : Terminal). k ∷ ks) (is-fixed (op_sign o) k (op-at-sound (code_of k) o a)))

op-sound : (ks : Kinds) (q : Op × Kinds) → read_op ks ≡ Some q → ks ≡ op_kinds q.0 ++ q.1
op-sound [] q e = cc e
op-sound (k ∷ ks) q e = op-found k ks (op_at (code_of k)) q refl e

op-reads : (o : Op) (rest : Kinds) → read_op (op_kinds o ++ rest) ≡ Some (o, rest)
op-reads op.Eq rest = refl
op-reads op.Ne rest = refl
op-reads op.Lt rest = refl
op-reads op.Le rest = refl
op-reads op.Gt rest = refl
op-reads op.Ge rest = refl

op-front : (o : Op) → (10 ≤ code (op_sign o)) × (code (op_sign o) ≤ 15)
op-front op.Eq = (omega arith, omega arith)
op-front op.Ne = (omega arith, omega arith)
op-front op.Lt = (omega arith, omega arith)
op-front op.Le = (omega arith, omega arith)
op-front op.Gt = (omega arith, omega arith)
op-front op.Ge = (omega arith, omega arith)

op-law : (n : ℕ) → Lawful true read_op op_kinds n 0
op-law n = record {
  sound = op-sound;
  reads = λ o rest h f. op-reads o rest;
  passed = λ s o h. let b = op-front o in passed-cons (terminal.Fixed (op_sign o)) [] (λ e. omega arith) (λ e. omega arith) passed-nil;
  calm = λ s o rest h f k. k;
}

abbrev read_compared : Parser (Op × Sum)
read_compared = both read_op sum_at

abbrev compared_kinds : Op × Sum → Kinds
compared_kinds x = op_kinds x.0 ++ spelled_sum x.1

compared-law : (n : ℕ) → Lawful true read_compared compared_kinds n 5
compared-law n = both-law read_op sum_at op_kinds spelled_sum n 0 5 (op-law n) (sum-at-law n) (λ y rest f. omega arith)

null-law : (n : ℕ) → Lawful true read_null (λ (u : Unit {0}). terminal.Fixed fixed.Null ∷ []) n 0
null-law n = lead-law fixed.Null done (λ (u : Unit {0}). []) n 0 (done-law true n) (λ e. omega arith) (λ e. omega arith)

abbrev read_is : Parser (Bool × Unit {0})
read_is = lead fixed.Is (flagged fixed.Not read_null)

abbrev is_kinds : Bool × Unit {0} → Kinds
is_kinds x = terminal.Fixed fixed.Is ∷ (flag fixed.Not x.0 ++ terminal.Fixed fixed.Null ∷ [])

is-law : (n : ℕ) → Lawful true read_is is_kinds n 0
is-law n = lead-law fixed.Is (flagged fixed.Not read_null) (λ (x : Bool × Unit {0}). flag fixed.Not x.0 ++ terminal.Fixed fixed.Null ∷ []) n 0
    (flagged-law fixed.Not read_null (λ (u : Unit {0}). terminal.Fixed fixed.Null ∷ []) n 0 (null-law n) (λ e. omega arith) (λ e. omega arith) (λ x rest f e. omega arith))
    (λ e. omega arith) (λ e. omega arith)

abbrev ranged_kinds : Bool × Range → Kinds
ranged_kinds x = flag fixed.Not x.0 ++ spelled_range x.1

ranged-law : (inner : Inner) (n : ℕ) → InnerLaw inner n → Lawful true (flagged fixed.Not (read_range inner)) ranged_kinds (n + 2) 5
ranged-law inner n l = flagged-law fixed.Not (read_range inner) spelled_range (n + 2) 5 (range-law inner n l) (λ e. omega arith) (λ e. omega arith)
    (λ x rest f e. let r = range-front x rest in omega arith)

abbrev pub spelled_test : Test → Kinds
spelled_test (Compared o b) = terminal.Fixed (op_sign o) ∷ spelled_sum b
spelled_test (Null n) = terminal.Fixed fixed.Is ∷ (flag fixed.Not n ++ terminal.Fixed fixed.Null ∷ [])
spelled_test (Ranged n r) = flag fixed.Not n ++ spelled_range r

ranged-front : (n : Bool) (x : Range) (rest : Kinds) → (17 ≤ front (ranged_kinds (n, x) ++ rest)) × (front (ranged_kinds (n, x) ++ rest) < 20)
ranged-front true x rest = (omega arith, omega arith)
ranged-front false x rest = let r = range-front x rest in (omega arith, omega arith)

test-front : (x : Test) (rest : Kinds) → (5 ≤ front (spelled_test x ++ rest)) × (front (spelled_test x ++ rest) < 20)
test-front (Compared o b) rest = let r = op-front o in (omega arith, omega arith)
test-front (Null n) rest = (omega arith, omega arith)
test-front (Ranged n r) rest = let q = ranged-front n r rest in (omega arith, omega arith)

no-op : (ks : Kinds) → 16 ≤ front ks → is_op ks ≡ false
no-op ks h = grind (arith, nat_tests)

an-op : (o : Op) (ks : Kinds) → is_op (terminal.Fixed (op_sign o) ∷ ks) ≡ true
an-op op.Eq ks = refl
an-op op.Ne ks = refl
an-op op.Lt ks = refl
an-op op.Le ks = refl
an-op op.Gt ks = refl
an-op op.Ge ks = refl

test-reads : (inner : Inner) (n : ℕ) → InnerLaw inner n → (x : Test) (rest : Kinds) → length (spelled_test x) < n + 2 → 5 ≤ front rest → read_test inner (spelled_test x ++ rest) ≡ Some (x, rest)
unfolding read_test
test-reads inner n l (Compared o b) rest h f =
    let one = (compared-law (n + 2)).reads (o, b) rest h f in
    let t = an-op o (spelled_sum b ++ rest) in
    rw (t, one) refl
test-reads inner n l (Null m) rest h f =
    let one = (is-law (n + 2)).reads (m, tt) rest h (omega arith) in
    rw one refl
test-reads inner n l (Ranged m r) rest h f =
    let one = (ranged-law inner n l).reads (m, r) rest h f in
    let b = ranged-front m r rest in
    let t = no-op (ranged_kinds (m, r) ++ rest) (omega arith) in
    let u = other-nat (front (ranged_kinds (m, r) ++ rest)) 16 (λ e. omega arith) in
    rw (t, u, one) refl

test-passed : (inner : Inner) (n : ℕ) → InnerLaw inner n → (x : Test) → length (spelled_test x) < n + 2 → Passed (spelled_test x)
test-passed inner n l (Compared o b) h = (compared-law (n + 2)).passed refl (o, b) h
test-passed inner n l (Null m) h = (is-law (n + 2)).passed refl (m, tt) h
test-passed inner n l (Ranged m r) h = (ranged-law inner n l).passed refl (m, r) h

test-calm : (inner : Inner) (n : ℕ) → InnerLaw inner n → (x : Test) (rest : Kinds) → length (spelled_test x) < n + 2 → 5 ≤ front rest → IsCalm rest → IsCalm (spelled_test x ++ rest)
test-calm inner n l (Compared o b) rest h f k = (compared-law (n + 2)).calm refl (o, b) rest h f k
test-calm inner n l (Null m) rest h f k = (is-law (n + 2)).calm refl (m, tt) rest h (omega arith) k
test-calm inner n l (Ranged m r) rest h f k = (ranged-law inner n l).calm refl (m, r) rest h f k

pub test-law : (inner : Inner) (n : ℕ) → InnerLaw inner n → Lawful true (read_test inner) spelled_test (n + 2) 5
unfolding read_test
test-law inner n l = record {
  sound = either-sound is_op (made compared read_compared) (either (starts fixed.Is) (made null_of read_is) (made ranged_of (flagged fixed.Not (read_range inner)))) spelled_test
      (made-sound read_compared compared compared_kinds spelled_test (compared-law n).sound (λ x. refl))
      (either-sound (starts fixed.Is) (made null_of read_is) (made ranged_of (flagged fixed.Not (read_range inner))) spelled_test
      (made-sound read_is null_of is_kinds spelled_test (is-law n).sound (λ x. refl))
      (made-sound (flagged fixed.Not (read_range inner)) ranged_of ranged_kinds spelled_test (ranged-law inner n l).sound (λ x. refl)));
  reads = test-reads inner n l;
  passed = λ s. test-passed inner n l;
  calm = λ s. test-calm inner n l;
}

-- ---- atoms

abbrev tested_kinds : Sum × Test → Kinds
tested_kinds x = spelled_sum x.0 ++ spelled_test x.1

spelled-range : (a : Sum) (n : Bool) (r : Range) → spelled_atom (ranged a n r) ≡ spelled_sum a ++ (flag fixed.Not n ++ spelled_range r)
spelled-range a n (OfChain q) = spelled-InChain a n q
spelled-range a n (OfList s ss) = spelled-InList a n s ss
spelled-range a n (OfBounds b c) = spelled-Between a n b c

spelled-tested : (a : Sum) (t : Test) → spelled_atom (atom_of a t) ≡ spelled_sum a ++ spelled_test t
spelled-tested a (Compared o b) = spelled-Cmp a o b
spelled-tested a (Null n) = spelled-IsNull a n
spelled-tested a (Ranged n r) = spelled-range a n r

pub atom-cases : (P : Atom → Type 0) → ((a : Sum) (t : Test) → P (atom_of a t)) → ((q : Chain) → P (atom.Exists q)) → ((c : Cond) → P (atom.Paren c)) → (x : Atom) → P x
atom-cases P f g h x = subst P (roll-out-Atom x) (go (out-Atom x))
  where
    go : (o : open_.Atom-F Atom Base Join Primary Chain ChainLink Cond Conj Meet MeetLink Neg Pick Source) → P (roll-Atom o)
    go (open_.Cmp a o b) = subst P (sym (atom.rolls-Cmp a o b)) (f a (Compared o b))
    go (open_.IsNull a n) = subst P (sym (atom.rolls-IsNull a n)) (f a (Null n))
    go (open_.InChain a n q) = subst P (sym (atom.rolls-InChain a n q)) (f a (Ranged n (OfChain q)))
    go (open_.InList a n s ss) = subst P (sym (atom.rolls-InList a n s ss)) (f a (Ranged n (OfList s ss)))
    go (open_.Between a n b c) = subst P (sym (atom.rolls-Between a n b c)) (f a (Ranged n (OfBounds b c)))
    go (open_.Exists q) = subst P (sym (atom.rolls-Exists q)) (g q)
    go (open_.Atom::Paren c) = subst P (sym (atom.rolls-Paren c)) (h c)

tested-law : (inner : Inner) (n : ℕ) → InnerLaw inner n → Lawful true (both sum_at (read_test inner)) tested_kinds (n + 2) 5
tested-law inner n l = both-law sum_at (read_test inner) spelled_sum spelled_test (n + 2) 5 5 (sum-at-law (n + 2)) (test-law inner n l) (λ t rest f. let b = test-front t rest in omega arith)

abbrev exists_kinds : Chain → Kinds
exists_kinds q = terminal.Fixed fixed.Exists ∷ in_paren (spelled_chain q)

exists-law : (inner : Inner) (n : ℕ) → InnerLaw inner n → Lawful true (lead fixed.Exists (paren inner.chain)) exists_kinds (n + 2) 0
exists-law inner n l = lead-law fixed.Exists (paren inner.chain) (λ (q : Chain). in_paren (spelled_chain q)) (n + 2) 0 (paren-law inner.chain spelled_chain n 33 l.chain (omega arith)) (λ e. omega arith) (λ e. omega arith)

group-law : (inner : Inner) (n : ℕ) → InnerLaw inner n → Lawful true (paren inner.cond) (λ (c : Cond). in_paren (spelled_cond c)) (n + 2) 0
group-law inner n l = paren-law inner.cond spelled_cond n 22 l.cond (omega arith)

abbrev AtomReads : Inner → ℕ → Atom → Type 0
AtomReads inner n x = (rest : Kinds) → length (spelled_atom x) < n + 2 → 20 ≤ front rest → read_atom inner (spelled_atom x ++ rest) ≡ Some (x, rest)

tested-reads : (inner : Inner) (n : ℕ) → InnerLaw inner n → (a : Sum) (t : Test) → AtomReads inner n (atom_of a t)
unfolding read_atom
tested-reads inner n l a t rest h f =
    let e = spelled-tested a t in
    let one = (tested-law inner n l).reads (a, t) rest (omega (arith, h, ap length e)) (omega arith) in
    let as_one = append_assoc (spelled_sum a) (spelled_test t) rest in
    let b = test-front t rest in
    let x : (front ((spelled_sum a ++ spelled_test t) ++ rest) == 40) ≡ false =
    rw as_one (other-nat (front (spelled_sum a ++ (spelled_test t ++ rest))) 40 (not-front starts_sum _ 40 (sum-front a (spelled_test t ++ rest)) refl)) in
    let y : is_group ((spelled_sum a ++ spelled_test t) ++ rest) ≡ false = rw as_one (sum-no-group a (spelled_test t ++ rest) b.1) in
    rw (e, x, y, one) refl

exists-reads : (inner : Inner) (n : ℕ) → InnerLaw inner n → (q : Chain) → AtomReads inner n (atom.Exists q)
unfolding read_atom
exists-reads inner n l q rest h f =
    let e = spelled-Exists q in
    let one = (exists-law inner n l).reads q rest (omega (arith, h, ap length e)) (omega arith) in
    rw (e, one) refl

group-reads : (inner : Inner) (n : ℕ) → InnerLaw inner n → (c : Cond) → AtomReads inner n (atom.Paren c)
unfolding read_atom
group-reads inner n l c rest h f =
    let e = spelled-CondParen c in
    let short : length (spelled_cond c) < n = omega (arith, h, ap length e, length-append (spelled_cond c) (terminal.Fixed fixed.CloseParen ∷ [])) in
    let one = (group-law inner n l).reads c rest (omega (arith, h, ap length e)) (omega arith) in
    let y = cond-group (spelled_cond c) rest (l.cond.passed refl c short) f in
    rw (e, y, one) refl

pub atom-law : (inner : Inner) (n : ℕ) → InnerLaw inner n → Lawful true (read_atom inner) spelled_atom (n + 2) 20
unfolding read_atom
atom-law inner n l = record {
  sound = either-sound (starts fixed.Exists) (made atom.Exists (lead fixed.Exists (paren inner.chain))) (either is_group (made atom.Paren (paren inner.cond)) (made tested (both sum_at (read_test inner)))) spelled_atom
      (made-sound (lead fixed.Exists (paren inner.chain)) atom.Exists exists_kinds spelled_atom (exists-law inner n l).sound spelled-Exists)
      (either-sound is_group (made atom.Paren (paren inner.cond)) (made tested (both sum_at (read_test inner))) spelled_atom
      (made-sound (paren inner.cond) atom.Paren (λ (c : Cond). in_paren (spelled_cond c)) spelled_atom (group-law inner n l).sound spelled-CondParen)
      (made-sound (both sum_at (read_test inner)) tested tested_kinds spelled_atom (tested-law inner n l).sound (λ x. spelled-tested x.0 x.1)));
  reads = atom-cases (AtomReads inner n) (tested-reads inner n l) (exists-reads inner n l) (group-reads inner n l);
  passed = λ s. atom-cases (λ x. length (spelled_atom x) < n + 2 → Passed (spelled_atom x))
      (λ a t h. let e = spelled-tested a t in rw e ((tested-law inner n l).passed refl (a, t) (omega (arith, h, ap length e))))
      (λ q h. let e = spelled-Exists q in rw e ((exists-law inner n l).passed refl q (omega (arith, h, ap length e))))
      (λ c h. let e = spelled-CondParen c in rw e ((group-law inner n l).passed refl c (omega (arith, h, ap length e))));
  calm = λ s. atom-cases (λ x. (rest : Kinds) → length (spelled_atom x) < n + 2 → 20 ≤ front rest → IsCalm rest → IsCalm (spelled_atom x ++ rest))
      (λ a t rest h f k. let e = spelled-tested a t in rw e ((tested-law inner n l).calm refl (a, t) rest (omega (arith, h, ap length e)) (omega arith) k))
      (λ q rest h f k. let e = spelled-Exists q in rw e ((exists-law inner n l).calm refl q rest (omega (arith, h, ap length e)) (omega arith) k))
      (λ c rest h f k. let e = spelled-CondParen c in rw e ((group-law inner n l).calm refl c rest (omega (arith, h, ap length e)) (omega arith) k));
}

-- no atom begins with NOT
atom-front : (x : Atom) (rest : Kinds) → front (spelled_atom x ++ rest) ≡ 17 → ⊥
atom-front = atom-cases (λ x. (rest : Kinds) → front (spelled_atom x ++ rest) ≡ 17 → ⊥)
    (λ a t rest e. not-front starts_sum (front (spelled_sum a ++ (spelled_test t ++ rest))) 17 (sum-front a (spelled_test t ++ rest)) refl (rw (spelled-tested a t, append_assoc (spelled_sum a) (spelled_test t) rest) at e))
    (λ q rest e. let h : 40 ≡ 17 = rw (spelled-Exists q) at e in omega arith)
    (λ c rest e. let h : 0 ≡ 17 = rw (spelled-CondParen c) at e in omega arith)

-- ---- conditions

pub neg-law : (inner : Inner) (n : ℕ) → InnerLaw inner n → Lawful true (read_neg inner) spelled_neg (n + 2) 20
unfolding read_neg
neg-law inner n l = made-law (repeated fixed.Not (read_atom inner)) neg_of (λ (x : Neg). ((out-Neg x).nots, (out-Neg x).atom))
    (λ (x : ℕ × Atom). replicate x.0 (terminal.Fixed fixed.Not) ++ spelled_atom x.1) spelled_neg (n + 2) 20
    (repeated-law fixed.Not (read_atom inner) spelled_atom (n + 2) 20 (atom-law inner n l) (λ e. omega arith) (λ e. omega arith) (λ x rest f e. atom-front x rest e))
    roll-out-Neg (λ x. spelled-Neg x.0 x.1)

abbrev and_neg : Neg → Kinds
and_neg x = terminal.Fixed fixed.And ∷ spelled_neg x

pub neg-step-law : (inner : Inner) (n : ℕ) → InnerLaw inner n → StepLaw true (neg_step inner) and_neg (n + 2) 20 21
neg-step-law inner n l = after-law fixed.And (read_neg inner) spelled_neg (n + 2) 20 (neg-law inner n l) (λ e. omega arith) (λ e. omega arith) (omega arith)

pub conj-law : (inner : Inner) (n : ℕ) → InnerLaw inner n → Lawful true (read_conj inner) spelled_conj (n + 2) 21
unfolding read_conj
conj-law inner n l =
    let step = neg-step-law inner n l in
    made-law (both (read_neg inner) (list_of (neg_step inner))) conj_of (λ (x : Conj). ((out-Conj x).head, (out-Conj x).tail))
    (λ (x : Neg × List Neg). spelled_neg x.0 ++ flat_map and_neg x.1) spelled_conj (n + 2) 21
    (both-law (read_neg inner) (list_of (neg_step inner)) spelled_neg (flat_map and_neg) (n + 2) 20 21 (neg-law inner n l) (list-law (neg_step inner) and_neg (n + 2) 20 21 step)
    (λ xs rest f. follows and_neg 20 step.starts xs rest (omega arith)))
    roll-out-Conj (λ x. spelled-Conj x.0 x.1)

abbrev or_conj : Conj → Kinds
or_conj x = terminal.Fixed fixed.Or ∷ spelled_conj x

pub conj-step-law : (inner : Inner) (n : ℕ) → InnerLaw inner n → StepLaw true (conj_step inner) or_conj (n + 2) 21 22
conj-step-law inner n l = after-law fixed.Or (read_conj inner) spelled_conj (n + 2) 21 (conj-law inner n l) (λ e. omega arith) (λ e. omega arith) (omega arith)

pub cond-law : (inner : Inner) (n : ℕ) → InnerLaw inner n → Lawful true (read_cond inner) spelled_cond (n + 2) 22
unfolding read_cond
cond-law inner n l =
    let step = conj-step-law inner n l in
    made-law (both (read_conj inner) (list_of (conj_step inner))) cond_of (λ (x : Cond). ((out-Cond x).head, (out-Cond x).tail))
    (λ (x : Conj × List Conj). spelled_conj x.0 ++ flat_map or_conj x.1) spelled_cond (n + 2) 22
    (both-law (read_conj inner) (list_of (conj_step inner)) spelled_conj (flat_map or_conj) (n + 2) 21 22 (conj-law inner n l) (list-law (conj_step inner) or_conj (n + 2) 21 22 step)
    (λ xs rest f. follows or_conj 21 step.starts xs rest (omega arith)))
    roll-out-Cond (λ x. spelled-Cond x.0 x.1)
