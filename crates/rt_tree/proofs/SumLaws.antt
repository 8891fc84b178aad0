-- Names and sums: each reader keeps to the spelling.
use Rattle.std.proofs.Common.{◌≡◌, ◌∙◌, ◌≤◌, ◌<◌, ◌+◌, sym, ap, subst, ℕ, zero, suc, List, [], ◌∷◌, ◌++◌, length, refl, Bool, true, false, Option, Some, None, append_assoc, arith, ◌==◌, length-append}
use Rattle.std.specs.Prelude.{replicate, ◌||◌}
use Rattle.std.specs.List.{flat_map}
use Rattle.rt_token.specs.declared.fixed.Fixed.TheVariants as fixed
use Rattle.rt_token.specs.declared.terminal.Name.{Name}
use Rattle.rt_token.specs.declared.terminal.Terminal.TheVariants as terminal
use Rattle.rt_token.specs.Terminals.{Kinds, after, code, flag, front, in_paren, maybe}
use Rattle.rt_token.specs.Readers.{Parser, both, either, flagged, lead, list_of, made, optional, paren, read_name, repeated, starts, starts_name}
use Rattle.rt_token.proofs.CalmLemmas.{IsCalm, calm-name}
use Rattle.rt_token.proofs.ManyLemmas.{bind-some, some-is}
use Rattle.rt_token.proofs.FrontLemmas.{Passed, after-none, after-sound, other-nat, passed-cons, passed-nil}
use Rattle.rt_token.proofs.Laws.{Lawful, both-law, either-sound, flagged-law, lead-law, made-law, made-sound, name-law, optional-law, paren-law, repeated-law, weaker}
use Rattle.rt_token.proofs.ListLaws.{StepLaw, after-law, follows, list-law, when-law}
use Rattle.rt_tree.specs.declared.tree.Alias.{Alias}
use Rattle.rt_tree.specs.declared.tree.Leaf.{Leaf, out-Leaf, roll-Leaf, roll-out-Leaf}
use Rattle.rt_tree.specs.declared.tree.Leaf.TheVariants as leaf
use Rattle.rt_tree.specs.declared.tree.Leaf.TheOpen as open_sum
use Rattle.rt_tree.specs.declared.tree.Factor.{Factor, out-Factor, roll-Factor, roll-out-Factor}
use Rattle.rt_tree.specs.declared.tree.Mul.{Mul, out-Mul, roll-Mul, roll-out-Mul}
use Rattle.rt_tree.specs.declared.tree.Sum.{Sum, out-Sum, roll-Sum, roll-out-Sum}
use Rattle.rt_tree.specs.declared.tree.SumLink.{SumLink, out-SumLink, roll-out-SumLink}
use Rattle.rt_tree.specs.Spelled.{sign, spelled_alias, spelled_col, spelled_factor, spelled_leaf, spelled_mul, spelled_name, spelled_sum, spelled_sum_link}
use Rattle.rt_tree.proofs.SpelledLemmas.{spelled-Col, spelled-Factor, spelled-Mul, spelled-Null, spelled-Number, spelled-Str, spelled-Sum, spelled-SumLink, spelled-SumParen}
use Rattle.rt_tree.specs.Reads.{alias_of, col_from, factor_of, factor_step, is_alias, is_sign, mul_of, read_alias, read_col, read_col_or_literal, read_factor, read_leaf, read_literal, read_mul, read_null_leaf, read_sum, read_sum_link, read_sum_over, sum_at, sum_link_of, sum_of, sum_step}

-- ---- names

pub a-name : (n : ℕ) → Lawful true read_name spelled_name n 1
a-name n = name-law true n 1 (λ e. omega arith)

abbrev back_alias : Alias → Bool × Name
back_alias a = (a.as_word, a.name)

pub alias-law : (n : ℕ) → Lawful true read_alias spelled_alias n 1
unfolding read_alias
alias-law n = made-law (flagged fixed.As read_name) alias_of back_alias (λ (x : Bool × Name). flag fixed.As x.0 ++ spelled_name x.1) spelled_alias n 1
    (flagged-law fixed.As read_name spelled_name n 1 (a-name n) (λ e. omega arith) (λ e. omega arith) (λ x rest f e. omega arith)) (λ y. refl) (λ x. refl)

pub alias-there : (a : Alias) (rest : Kinds) → is_alias (spelled_alias a ++ rest) ≡ true
alias-there a rest = go a.as_word
  where
    go : (b : Bool) → is_alias ((flag fixed.As b ++ spelled_name a.name) ++ rest) ≡ true
    go true = refl
    go false = refl

pub no-alias : (rest : Kinds) → 24 ≤ front rest → is_alias rest ≡ false
no-alias rest h = rw (other-nat (front rest) 22 (λ e. omega arith), other-nat (front rest) 23 (λ e. omega arith)) refl

-- an alias that may be missing, before a terminal that can't begin one
pub maybe-alias-law : (n : ℕ) → Lawful true (optional is_alias read_alias) (maybe spelled_alias) n 24
maybe-alias-law n = optional-law is_alias read_alias spelled_alias n 1 (alias-law n) alias-there 24 (omega arith) no-alias

pub maybe-alias-front : (a : Option Alias) (rest : Kinds) → 24 ≤ front rest → 22 ≤ front (maybe spelled_alias a ++ rest)
maybe-alias-front None rest h = omega arith
maybe-alias-front (Some a) rest h = go a.as_word
  where
    go : (b : Bool) → 22 ≤ front ((flag fixed.As b ++ spelled_name a.name) ++ rest)
    go true = omega arith
    go false = omega arith

-- ---- leaves

pub leaf-cases : (P : Leaf → Type 0) → ((n : _) → P (leaf.Number n)) → ((t : _) → P (leaf.Str t)) → P leaf.Null → ((q : _) (n : _) → P (leaf.Col q n)) → ((s : Sum) → P (leaf.Paren s)) → (l : Leaf) → P l
leaf-cases P f g z c h l = subst P (roll-out-Leaf l) (go (out-Leaf l))
  where
    go : (o : open_sum.Leaf-F Leaf Factor Mul Sum SumLink) → P (roll-Leaf o)
    go (open_sum.Number n) = subst P (sym (leaf.rolls-Number n)) (f n)
    go (open_sum.Str t) = subst P (sym (leaf.rolls-Str t)) (g t)
    go open_sum.Null = subst P (sym leaf.rolls-Null) z
    go (open_sum.Col q n) = subst P (sym (leaf.rolls-Col q n)) (c q n)
    go (open_sum.Paren s) = subst P (sym (leaf.rolls-Paren s)) (h s)

null-sound : (ks : Kinds) (q : Leaf × Kinds) → read_null_leaf ks ≡ Some q → ks ≡ spelled_leaf q.0 ++ q.1
null-sound ks q e =
    let a = bind-some (after fixed.Null ks) _ q e in
    let h : (leaf.Null, a.0) ≡ q = some-is _ _ a.2 in
    subst (λ (q : Leaf × Kinds). ks ≡ spelled_leaf q.0 ++ q.1) h (after-sound fixed.Null ks a.0 a.1 ∙ ap (λ (t : Kinds). t ++ a.0) (sym spelled-Null))

col-part : (q n : Name) (ks r rest : Kinds) → ks ≡ terminal.Fixed fixed.Dot ∷ r → r ≡ terminal.Name n ∷ rest → terminal.Name q ∷ ks ≡ spelled_leaf (leaf.Col (Some q) n) ++ rest
col-part q n ks r rest k l = rw (k, l, spelled-Col (Some q) n) refl

col-from-sound : (n : Name) (ks : Kinds) (o : Option Kinds) → after fixed.Dot ks ≡ o → (q : Leaf × Kinds) → col_from n ks o ≡ Some q → terminal.Name n ∷ ks ≡ spelled_leaf q.0 ++ q.1
col-from-sound n ks None a q e =
    let h : (leaf.Col None n, ks) ≡ q = some-is _ _ e in
    subst (λ (q : Leaf × Kinds). terminal.Name n ∷ ks ≡ spelled_leaf q.0 ++ q.1) h (rw (spelled-Col None n) refl)
col-from-sound n ks (Some r) a q e =
    let m = bind-some (read_name r) _ q e in
    let h : (leaf.Col (Some n) m.0.0, m.0.1) ≡ q = some-is _ _ m.2 in
    subst (λ (q : Leaf × Kinds). terminal.Name n ∷ ks ≡ spelled_leaf q.0 ++ q.1) h
    (col-part n m.0.0 ks r m.0.1 (after-sound fixed.Dot ks r a) ((a-name 0).sound r m.0 m.1))

col-sound : (ks : Kinds) (q : Leaf × Kinds) → read_col ks ≡ Some q → ks ≡ spelled_leaf q.0 ++ q.1
col-sound ks q e =
    let n = bind-some (read_name ks) _ q e in
    (a-name 0).sound ks n.0 n.1 ∙ col-from-sound n.0.0 n.0.1 (after fixed.Dot n.0.1) refl q n.2

literal-sound : (ks : Kinds) (q : Leaf × Kinds) → read_literal ks ≡ Some q → ks ≡ spelled_leaf q.0 ++ q.1
literal-sound [] q e = cc e
literal-sound (terminal.Number n ∷ ks) q e = let h : (leaf.Number n, ks) ≡ q = some-is _ _ e in subst (λ (q : Leaf × Kinds). terminal.Number n ∷ ks ≡ spelled_leaf q.0 ++ q.1) h (rw spelled-Number refl)
literal-sound (terminal.Str t ∷ ks) q e = let h : (leaf.Str t, ks) ≡ q = some-is _ _ e in subst (λ (q : Leaf × Kinds). terminal.Str t ∷ ks ≡ spelled_leaf q.0 ++ q.1) h (rw spelled-Str refl)
literal-sound (terminal.Fixed f ∷ ks) q e = cc e
literal-sound (terminal.Name x ∷ ks) q e = cc e

abbrev LeafReads : Parser Sum → ℕ → Leaf → Type 0
LeafReads inner n l = (rest : Kinds) → length (spelled_leaf l) < n + 2 → 2 ≤ front rest → read_leaf inner (spelled_leaf l ++ rest) ≡ Some (l, rest)

col-reads : (inner : Parser Sum) (n : ℕ) (q : Option Name) (m : Name) → LeafReads inner n (leaf.Col q m)
unfolding read_leaf read_name
col-reads inner n None m rest h f = rw (spelled-Col None m, after-none fixed.Dot rest (λ e. omega arith)) refl
col-reads inner n (Some q) m rest h f = rw (spelled-Col (Some q) m) refl

paren-reads : (inner : Parser Sum) (n : ℕ) → Lawful true inner spelled_sum n 5 → (s : Sum) → LeafReads inner n (leaf.Paren s)
unfolding read_leaf
paren-reads inner n l s rest h f =
    let e = spelled-SumParen s in
    let one = (paren-law inner spelled_sum n 5 l (omega arith)).reads s rest (omega (arith, h, ap length e)) (omega arith) in
    rw (e, one) refl

col-passed : (q : Option Name) (m : Name) → Passed (spelled_col q m)
col-passed None m = passed-cons (terminal.Name m) [] (λ e. omega arith) (λ e. omega arith) passed-nil
col-passed (Some q) m = passed-cons (terminal.Name q) _ (λ e. omega arith) (λ e. omega arith) (passed-cons (terminal.Fixed fixed.Dot) _ (λ e. omega arith) (λ e. omega arith) (passed-cons (terminal.Name m) [] (λ e. omega arith) (λ e. omega arith) passed-nil))

col-calm : (q : Option Name) (m : Name) (rest : Kinds) → 2 ≤ front rest → IsCalm rest → IsCalm (spelled_col q m ++ rest)
col-calm None m rest f k = calm-name m rest (omega arith) k
col-calm (Some q) m rest f k = calm-name m rest (omega arith) k

leaf-law : (inner : Parser Sum) (n : ℕ) → Lawful true inner spelled_sum n 5 → Lawful true (read_leaf inner) spelled_leaf (n + 2) 2
unfolding read_leaf
leaf-law inner n l = record {
  sound = either-sound (starts fixed.OpenParen) (made leaf.Paren (paren inner)) (either (starts fixed.Null) read_null_leaf read_col_or_literal) spelled_leaf
      (made-sound (paren inner) leaf.Paren (λ (s : Sum). in_paren (spelled_sum s)) spelled_leaf (paren-law inner spelled_sum n 5 l (omega arith)).sound spelled-SumParen)
      (either-sound (starts fixed.Null) read_null_leaf read_col_or_literal spelled_leaf null-sound (either-sound starts_name read_col read_literal spelled_leaf col-sound literal-sound));
  reads = leaf-cases (LeafReads inner n)
      (λ k rest h f. rw spelled-Number refl) (λ t rest h f. rw spelled-Str refl) (λ rest h f. rw spelled-Null refl) (col-reads inner n) (paren-reads inner n l);
  passed = λ s. leaf-cases (λ l. length (spelled_leaf l) < n + 2 → Passed (spelled_leaf l))
      (λ k h. rw spelled-Number (passed-cons (terminal.Number k) [] (λ e. omega arith) (λ e. omega arith) passed-nil))
      (λ t h. rw spelled-Str (passed-cons (terminal.Str t) [] (λ e. omega arith) (λ e. omega arith) passed-nil))
      (λ h. rw spelled-Null (passed-cons (terminal.Fixed fixed.Null) [] (λ e. omega arith) (λ e. omega arith) passed-nil))
      (λ q m h. rw spelled-Col (col-passed q m))
      (λ s h. let e = spelled-SumParen s in rw e ((paren-law inner spelled_sum n 5 l (omega arith)).passed refl s (omega (arith, h, ap length e))));
  calm = λ s. leaf-cases (λ l. (rest : Kinds) → length (spelled_leaf l) < n + 2 → 2 ≤ front rest → IsCalm rest → IsCalm (spelled_leaf l ++ rest))
      (λ m rest h f k. rw spelled-Number k) (λ t rest h f k. rw spelled-Str k) (λ rest h f k. rw spelled-Null k) (λ q m rest h f k. rw spelled-Col (col-calm q m rest f k))
      (λ s rest h f k. let e = spelled-SumParen s in rw e ((paren-law inner spelled_sum n 5 l (omega arith)).calm refl s rest (omega (arith, h, ap length e)) (omega arith) k));
}

-- ---- how leaves and sums begin

abbrev pub starts_leaf : ℕ → Bool
starts_leaf c = (c == 23) || ((c == 0) || ((c == 6) || ((c == 44) || (c == 45))))

abbrev pub starts_sum : ℕ → Bool
starts_sum c = (c == 4) || starts_leaf c

pub not-front : (t : ℕ → Bool) (c d : ℕ) → t c ≡ true → t d ≡ false → c ≡ d → ⊥
not-front t c d x y e = let h : t c ≡ t d = ap t e in cc

col-front : (q : Option Name) (n : Name) (rest : Kinds) → starts_leaf (front (spelled_col q n ++ rest)) ≡ true
col-front None n rest = refl
col-front (Some q) n rest = refl

pub leaf-front : (l : Leaf) (rest : Kinds) → starts_leaf (front (spelled_leaf l ++ rest)) ≡ true
leaf-front = leaf-cases (λ l. (rest : Kinds) → starts_leaf (front (spelled_leaf l ++ rest)) ≡ true)
    (λ k rest. rw spelled-Number refl) (λ t rest. rw spelled-Str refl) (λ rest. rw spelled-Null refl) (λ q n rest. rw (spelled-Col q n) (col-front q n rest)) (λ s rest. rw spelled-SumParen refl)

-- what holds of each leaf before what may follow it holds of each sum
pub record SumStart (P Q : Kinds → Type 0) (m : ℕ) : Type 0 where
  pub leaf : (l : Leaf) (more : Kinds) → length (spelled_leaf l) ≤ m → Q more → P (spelled_leaf l ++ more)
  pub minus : (ks : Kinds) → P (terminal.Fixed fixed.Minus ∷ ks)
  pub then_star : (ks : Kinds) → Q (terminal.Fixed fixed.Star ∷ ks)
  pub then_sign : (b : Bool) (ks : Kinds) → Q (terminal.Fixed (sign b) ∷ ks)

abbrev stars : Factor → Kinds
stars u = terminal.Fixed fixed.Star ∷ spelled_factor u

minuses-start : (P Q : Kinds → Type 0) (m : ℕ) → SumStart P Q m → (n : ℕ) (l : Leaf) (more : Kinds) → length (spelled_leaf l) ≤ m → Q more → P ((replicate n (terminal.Fixed fixed.Minus) ++ spelled_leaf l) ++ more)
minuses-start P Q m s zero l more h q = s.leaf l more h q
minuses-start P Q m s (suc n) l more h q = s.minus _

factor-start : (P Q : Kinds → Type 0) (m : ℕ) → SumStart P Q m → (u : Factor) (more : Kinds) → length (spelled_factor u) ≤ m → Q more → P (spelled_factor u ++ more)
factor-start P Q m s u = subst (λ (u : Factor). (more : Kinds) → length (spelled_factor u) ≤ m → Q more → P (spelled_factor u ++ more)) (roll-out-Factor u) (go (out-Factor u).minuses (out-Factor u).of)
  where
    go : (n : ℕ) (l : Leaf) (more : Kinds) → length (spelled_factor (roll-Factor (record { minuses = n; of = l }))) ≤ m → Q more → P (spelled_factor (roll-Factor (record { minuses = n; of = l })) ++ more)
    go n l more h q =
        let e = spelled-Factor n l in
        rw e (minuses-start P Q m s n l more (omega (arith, h, ap length e, length-append (replicate n (terminal.Fixed fixed.Minus)) (spelled_leaf l))) q)

stars-follow : (P Q : Kinds → Type 0) (m : ℕ) → SumStart P Q m → (us : List Factor) (more : Kinds) → Q more → Q (flat_map stars us ++ more)
stars-follow P Q m s [] more q = q
stars-follow P Q m s (u ∷ us) more q = s.then_star _

mul-start : (P Q : Kinds → Type 0) (m : ℕ) → SumStart P Q m → (x : Mul) (more : Kinds) → length (spelled_mul x) ≤ m → Q more → P (spelled_mul x ++ more)
mul-start P Q m s x = subst (λ (x : Mul). (more : Kinds) → length (spelled_mul x) ≤ m → Q more → P (spelled_mul x ++ more)) (roll-out-Mul x) (go (out-Mul x).head (out-Mul x).tail)
  where
    go : (u : Factor) (us : List Factor) (more : Kinds) → length (spelled_mul (roll-Mul (record { head = u; tail = us }))) ≤ m → Q more → P (spelled_mul (roll-Mul (record { head = u; tail = us })) ++ more)
    go u us more h q =
        let e = spelled-Mul u us in
        rw (e, append_assoc (spelled_factor u) (flat_map stars us) more)
        (factor-start P Q m s u (flat_map stars us ++ more) (omega (arith, h, ap length e, length-append (spelled_factor u) (flat_map stars us))) (stars-follow P Q m s us more q))

links-follow : (P Q : Kinds → Type 0) (m : ℕ) → SumStart P Q m → (ls : List SumLink) (more : Kinds) → Q more → Q (flat_map spelled_sum_link ls ++ more)
links-follow P Q m s [] more q = q
links-follow P Q m s (l ∷ ls) more q = subst (λ (l : SumLink). Q (flat_map spelled_sum_link (l ∷ ls) ++ more)) (roll-out-SumLink l) (rw (spelled-SumLink (out-SumLink l).minus (out-SumLink l).of) (s.then_sign _ _))

pub sum-start : (P Q : Kinds → Type 0) (m : ℕ) → SumStart P Q m → (x : Sum) (more : Kinds) → length (spelled_sum x) ≤ m → Q more → P (spelled_sum x ++ more)
sum-start P Q m s x = subst (λ (x : Sum). (more : Kinds) → length (spelled_sum x) ≤ m → Q more → P (spelled_sum x ++ more)) (roll-out-Sum x) (go (out-Sum x).head (out-Sum x).tail)
  where
    go : (u : Mul) (us : List SumLink) (more : Kinds) → length (spelled_sum (roll-Sum (record { head = u; tail = us }))) ≤ m → Q more → P (spelled_sum (roll-Sum (record { head = u; tail = us })) ++ more)
    go u us more h q =
        let e = spelled-Sum u us in
        rw (e, append_assoc (spelled_mul u) (flat_map spelled_sum_link us) more)
        (mul-start P Q m s u (flat_map spelled_sum_link us ++ more) (omega (arith, h, ap length e, length-append (spelled_mul u) (flat_map spelled_sum_link us))) (links-follow P Q m s us more q))

leaf-then-sum : (c : ℕ) → starts_leaf c ≡ true → starts_sum c ≡ true
leaf-then-sum c e = rw e (last (c == 4))
  where
    last : (b : Bool) → (b || true) ≡ true
    last true = refl
    last false = refl

pub sum-front : (x : Sum) (more : Kinds) → starts_sum (front (spelled_sum x ++ more)) ≡ true
sum-front x more = sum-start (λ ks. starts_sum (front ks) ≡ true) (λ ks. Unit {0}) (length (spelled_sum x)) (record {
  leaf = λ l ks h q. leaf-then-sum (front (spelled_leaf l ++ ks)) (leaf-front l ks);
  minus = λ ks. refl;
  then_star = λ ks. tt;
  then_sign = λ b ks. tt;
}) x more (omega arith) tt

-- ---- products

pub factor-law : (inner : Parser Sum) (n : ℕ) → Lawful true inner spelled_sum n 5 → Lawful true (read_factor inner) spelled_factor (n + 2) 2
unfolding read_factor
factor-law inner n l = made-law (repeated fixed.Minus (read_leaf inner)) factor_of (λ (u : Factor). ((out-Factor u).minuses, (out-Factor u).of))
    (λ (x : ℕ × Leaf). replicate x.0 (terminal.Fixed fixed.Minus) ++ spelled_leaf x.1) spelled_factor (n + 2) 2
    (repeated-law fixed.Minus (read_leaf inner) spelled_leaf (n + 2) 2 (leaf-law inner n l) (λ e. omega arith) (λ e. omega arith)
    (λ x rest f e. not-front starts_leaf (front (spelled_leaf x ++ rest)) 4 (leaf-front x rest) refl e))
    roll-out-Factor (λ x. spelled-Factor x.0 x.1)

pub factor-step-law : (inner : Parser Sum) (n : ℕ) → Lawful true inner spelled_sum n 5 → StepLaw true (factor_step inner) stars (n + 2) 2 3
factor-step-law inner n l = after-law fixed.Star (read_factor inner) spelled_factor (n + 2) 2 (factor-law inner n l) (λ e. omega arith) (λ e. omega arith) (omega arith)

pub mul-law : (inner : Parser Sum) (n : ℕ) → Lawful true inner spelled_sum n 5 → Lawful true (read_mul inner) spelled_mul (n + 2) 3
unfolding read_mul
mul-law inner n l =
    let step = factor-step-law inner n l in
    made-law (both (read_factor inner) (list_of (factor_step inner))) mul_of (λ (x : Mul). ((out-Mul x).head, (out-Mul x).tail))
    (λ (x : Factor × List Factor). spelled_factor x.0 ++ flat_map stars x.1) spelled_mul (n + 2) 3
    (both-law (read_factor inner) (list_of (factor_step inner)) spelled_factor (flat_map stars) (n + 2) 2 3 (factor-law inner n l) (list-law (factor_step inner) stars (n + 2) 2 3 step)
    (λ us rest f. follows stars 2 step.starts us rest (omega arith)))
    roll-out-Mul (λ x. spelled-Mul x.0 x.1)

-- ---- sums

abbrev LinkReads : Parser Sum → ℕ → SumLink → Type 0
LinkReads inner n x = (rest : Kinds) → length (spelled_sum_link x) < n + 2 → 3 ≤ front rest → read_sum_link inner (spelled_sum_link x ++ rest) ≡ Some (x, rest)

sum-link-made : (inner : Parser Sum) (n : ℕ) → Lawful true inner spelled_sum n 5 → (b : Bool) (m : Mul) → LinkReads inner n (sum_link_of b m)
unfolding read_sum_link
sum-link-made inner n l true m rest h f =
    let e = spelled-SumLink true m in
    let one = (mul-law inner n l).reads m rest (omega (arith, h, ap length e)) f in
    rw (e, one) refl
sum-link-made inner n l false m rest h f =
    let e = spelled-SumLink false m in
    let one = (mul-law inner n l).reads m rest (omega (arith, h, ap length e)) f in
    rw (e, one) refl

sign-passed : (b : Bool) (ks : Kinds) → Passed ks → Passed (terminal.Fixed (sign b) ∷ ks)
sign-passed true ks p = passed-cons (terminal.Fixed fixed.Minus) ks (λ e. omega arith) (λ e. omega arith) p
sign-passed false ks p = passed-cons (terminal.Fixed fixed.Plus) ks (λ e. omega arith) (λ e. omega arith) p

sum-link-passed : (inner : Parser Sum) (n : ℕ) → Lawful true inner spelled_sum n 5 → (b : Bool) (m : Mul) → length (spelled_sum_link (sum_link_of b m)) < n + 2 → Passed (spelled_sum_link (sum_link_of b m))
sum-link-passed inner n l b m h =
    let e = spelled-SumLink b m in
    rw e (sign-passed b (spelled_mul m) ((mul-law inner n l).passed refl m (omega (arith, h, ap length e))))

sum-link-calm : (inner : Parser Sum) (n : ℕ) → Lawful true inner spelled_sum n 5 → (b : Bool) (m : Mul) (rest : Kinds) → length (spelled_sum_link (sum_link_of b m)) < n + 2 → 3 ≤ front rest → IsCalm rest → IsCalm (spelled_sum_link (sum_link_of b m) ++ rest)
sum-link-calm inner n l b m rest h f k =
    let e = spelled-SumLink b m in
    rw e ((mul-law inner n l).calm refl m rest (omega (arith, h, ap length e)) f k)

pub sum-link-law : (inner : Parser Sum) (n : ℕ) → Lawful true inner spelled_sum n 5 → Lawful true (read_sum_link inner) spelled_sum_link (n + 2) 3
unfolding read_sum_link
sum-link-law inner n l =
    let m = mul-law inner n l in
    record {
      sound = either-sound (starts fixed.Minus) (made (sum_link_of true) (lead fixed.Minus (read_mul inner))) (made (sum_link_of false) (lead fixed.Plus (read_mul inner))) spelled_sum_link
          (made-sound (lead fixed.Minus (read_mul inner)) (sum_link_of true) (λ (m : Mul). terminal.Fixed fixed.Minus ∷ spelled_mul m) spelled_sum_link
          (lead-law fixed.Minus (read_mul inner) spelled_mul (n + 2) 3 m (λ e. omega arith) (λ e. omega arith)).sound (spelled-SumLink true))
          (made-sound (lead fixed.Plus (read_mul inner)) (sum_link_of false) (λ (m : Mul). terminal.Fixed fixed.Plus ∷ spelled_mul m) spelled_sum_link
          (lead-law fixed.Plus (read_mul inner) spelled_mul (n + 2) 3 m (λ e. omega arith) (λ e. omega arith)).sound (spelled-SumLink false));
      reads = λ x. subst (LinkReads inner n) (roll-out-SumLink x) (sum-link-made inner n l (out-SumLink x).minus (out-SumLink x).of);
      passed = λ s x. subst (λ (x : SumLink). length (spelled_sum_link x) < n + 2 → Passed (spelled_sum_link x)) (roll-out-SumLink x) (sum-link-passed inner n l (out-SumLink x).minus (out-SumLink x).of);
      calm = λ s x. subst (λ (x : SumLink). (rest : Kinds) → length (spelled_sum_link x) < n + 2 → 3 ≤ front rest → IsCalm rest → IsCalm (spelled_sum_link x ++ rest)) (roll-out-SumLink x) (sum-link-calm inner n l (out-SumLink x).minus (out-SumLink x).of);
    }

-- what a link begins with
link-holds : (P : Kinds → Type 0) → ((b : Bool) (ks : Kinds) → P (terminal.Fixed (sign b) ∷ ks)) → (x : SumLink) (rest : Kinds) → P (spelled_sum_link x ++ rest)
link-holds P f x rest = subst (λ (x : SumLink). P (spelled_sum_link x ++ rest)) (roll-out-SumLink x) (rw (spelled-SumLink (out-SumLink x).minus (out-SumLink x).of) (f _ _))

sign-at-least : (b : Bool) → 3 ≤ code (sign b)
sign-at-least true = omega arith
sign-at-least false = omega arith

sign-there : (b : Bool) (ks : Kinds) → is_sign (terminal.Fixed (sign b) ∷ ks) ≡ true
sign-there true ks = refl
sign-there false ks = refl

no-sign : (rest : Kinds) → 5 ≤ front rest → is_sign rest ≡ false
no-sign rest h = rw (other-nat (front rest) 3 (λ e. omega arith), other-nat (front rest) 4 (λ e. omega arith)) refl

link-some : (x : SumLink) → 0 < length (spelled_sum_link x)
link-some x = subst (λ (x : SumLink). 0 < length (spelled_sum_link x)) (roll-out-SumLink x) (omega (arith, ap length (spelled-SumLink (out-SumLink x).minus (out-SumLink x).of)))

pub sum-step-law : (inner : Parser Sum) (n : ℕ) → Lawful true inner spelled_sum n 5 → StepLaw true (sum_step inner) spelled_sum_link (n + 2) 3 5
sum-step-law inner n l = when-law is_sign (read_sum_link inner) spelled_sum_link (n + 2) 3 5 (sum-link-law inner n l) link-some
    (link-holds (λ ks. 3 ≤ front ks) (λ b ks. sign-at-least b)) (link-holds (λ ks. is_sign ks ≡ true) sign-there) no-sign (omega arith)

over-law : (inner : Parser Sum) (n : ℕ) → Lawful true inner spelled_sum n 5 → Lawful true (read_sum_over inner) spelled_sum (n + 2) 5
unfolding read_sum_over
over-law inner n l =
    let step = sum-step-law inner n l in
    made-law (both (read_mul inner) (list_of (sum_step inner))) sum_of (λ (x : Sum). ((out-Sum x).head, (out-Sum x).tail))
    (λ (x : Mul × List SumLink). spelled_mul x.0 ++ flat_map spelled_sum_link x.1) spelled_sum (n + 2) 5
    (both-law (read_mul inner) (list_of (sum_step inner)) spelled_mul (flat_map spelled_sum_link) (n + 2) 3 5 (mul-law inner n l) (list-law (sum_step inner) spelled_sum_link (n + 2) 3 5 step)
    (λ ls rest f. follows spelled_sum_link 3 step.starts ls rest (omega arith)))
    roll-out-Sum (λ x. spelled-Sum x.0 x.1)

pub sum-law : (n : ℕ) → Lawful true (read_sum n) spelled_sum n 5
unfolding read_sum
sum-law zero = record { sound = λ ks q e. cc e; reads = λ x rest h f. absurd (omega arith); passed = λ s x h. absurd (omega arith); calm = λ s x rest h f k. absurd (omega arith) }
sum-law (suc n) =
    let l = weaker (read_sum_over (read_sum n)) spelled_sum (n + 2) 5 (suc n) 5 (over-law (read_sum n) n (sum-law n)) (omega arith) (omega arith) in
    record { sound = l.sound; reads = l.reads; passed = l.passed; calm = l.calm }

pub sum-passed : (x : Sum) → Passed (spelled_sum x)
sum-passed x = (sum-law (length (spelled_sum x) + 1)).passed refl x (omega arith)

-- a sum, whatever its size
pub sum-at-law : (n : ℕ) → Lawful true sum_at spelled_sum n 5
unfolding sum_at
sum-at-law n = record {
  sound = λ ks q e. (sum-law (length ks + 1)).sound ks q e;
  reads = λ x rest h f. (sum-law (length (spelled_sum x ++ rest) + 1)).reads x rest (omega (arith, length-append (spelled_sum x) rest)) f;
  passed = λ s x h. sum-passed x;
  calm = λ s x rest h f k. (sum-law (length (spelled_sum x ++ rest) + 1)).calm s x rest (omega (arith, length-append (spelled_sum x) rest)) f k;
}
