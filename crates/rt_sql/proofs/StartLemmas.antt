-- How chains begin, and how parenthesised sums differ from conditions.
use Rattle.std.proofs.Common.{◌≡◌, ◌∙◌, ◌≤◌, ◌<◌, ◌+◌, sym, ap, subst, ℕ, zero, suc, List, [], ◌∷◌, ◌++◌, length, refl, Bool, true, false, Option, Some, None, append_assoc, arith, length-append}
use Rattle.std.proofs.lemmas.Bool.Decides.{nat_tests}
use Rattle.std.specs.Prelude.{nat_le}
use Rattle.std.specs.List.{flat_map}
use Rattle.rt_token.specs.declared.fixed.Fixed.TheVariants as fixed
use Rattle.rt_token.specs.declared.terminal.Name.{Name}
use Rattle.rt_token.specs.declared.terminal.Terminal.TheVariants as terminal
use Rattle.rt_token.specs.Terminals.{Kinds, front, in_paren}
use Rattle.rt_token.proofs.FrontLemmas.{Passed}
use Rattle.rt_tree.specs.declared.tree.Leaf.{Leaf}
use Rattle.rt_tree.specs.declared.tree.Sum.{Sum}
use Rattle.rt_tree.specs.declared.tree.Atom.{Atom}
use Rattle.rt_tree.specs.declared.tree.Base.{Base}
use Rattle.rt_tree.specs.declared.tree.Join.{Join}
use Rattle.rt_tree.specs.declared.tree.Primary.{Primary, out-Primary, roll-Primary, roll-out-Primary}
use Rattle.rt_tree.specs.declared.tree.Chain.{Chain, out-Chain, roll-Chain, roll-out-Chain}
use Rattle.rt_tree.specs.declared.tree.ChainLink.{ChainLink}
use Rattle.rt_tree.specs.declared.tree.Cond.{Cond}
use Rattle.rt_tree.specs.declared.tree.Conj.{Conj}
use Rattle.rt_tree.specs.declared.tree.Meet.{Meet, out-Meet, roll-Meet, roll-out-Meet}
use Rattle.rt_tree.specs.declared.tree.MeetLink.{MeetLink}
use Rattle.rt_tree.specs.declared.tree.Neg.{Neg}
use Rattle.rt_tree.specs.declared.tree.Pick.{Pick, out-Pick, roll-out-Pick}
use Rattle.rt_tree.specs.declared.tree.Source.{Source}
use Rattle.rt_tree.specs.declared.tree.Primary.TheVariants as primary
use Rattle.rt_tree.specs.declared.tree.Atom.TheOpen as open_
use Rattle.rt_tree.specs.Spelled.{sign, spelled_chain, spelled_chain_link, spelled_col, spelled_leaf, spelled_meet, spelled_meet_link, spelled_pick, spelled_primary, spelled_sum}
use Rattle.rt_tree.proofs.SpelledLemmas.{spelled-Chain, spelled-ChainParen, spelled-Col, spelled-Meet, spelled-Null, spelled-Number, spelled-One, spelled-Pick, spelled-Str, spelled-SumParen}
use Rattle.rt_sql.specs.Reads.{begins_chain, is_group}
use Rattle.rt_tree.proofs.SumLaws.{leaf-cases, sum-passed, sum-start}
use Rattle.rt_token.proofs.CalmLemmas.{IsCalm, calm-name}

pub primary-cases : (P : Primary → Type 0) → ((p : Pick) → P (primary.One p)) → ((c : Chain) → P (primary.Paren c)) → (x : Primary) → P x
primary-cases P f g x = subst P (roll-out-Primary x) (go (out-Primary x))
  where
    go : (o : open_.Primary-F Atom Base Join Primary Chain ChainLink Cond Conj Meet MeetLink Neg Pick Source) → P (roll-Primary o)
    go (open_.One p) = subst P (sym (primary.rolls-One p)) (f p)
    go (open_.Primary::Paren c) = subst P (sym (primary.rolls-Paren c)) (g c)

-- ---- a chain begins with SELECT after its opening parentheses

abbrev Begins : ℕ → Type 0
Begins n = (c : Chain) (rest : Kinds) → length (spelled_chain c) < n → begins_chain (spelled_chain c ++ rest) ≡ true

pick-begins : (p : Pick) (rest : Kinds) → begins_chain (spelled_pick p ++ rest) ≡ true
pick-begins p rest = subst (λ (p : Pick). begins_chain (spelled_pick p ++ rest) ≡ true) (roll-out-Pick p)
    (rw (spelled-Pick (out-Pick p).distinct (out-Pick p).items (out-Pick p).head (out-Pick p).tail (out-Pick p).cond) refl)

primary-begins : (n : ℕ) → Begins n → (x : Primary) (rest : Kinds) → length (spelled_primary x) < n + 2 → begins_chain (spelled_primary x ++ rest) ≡ true
primary-begins n b = primary-cases (λ x. (rest : Kinds) → length (spelled_primary x) < n + 2 → begins_chain (spelled_primary x ++ rest) ≡ true)
    (λ p rest h. rw spelled-One (pick-begins p rest))
    (λ c rest h.
    let e = spelled-ChainParen c in
    let short : length (spelled_chain c) < n = omega (arith, h, ap length e, length-append (spelled_chain c) (terminal.Fixed fixed.CloseParen ∷ [])) in
    rw (e, append_assoc (spelled_chain c) (terminal.Fixed fixed.CloseParen ∷ []) rest) (b c (terminal.Fixed fixed.CloseParen ∷ rest) short))

meet-begins : (n : ℕ) → Begins n → (x : Meet) (rest : Kinds) → length (spelled_meet x) < n + 2 → begins_chain (spelled_meet x ++ rest) ≡ true
meet-begins n b x rest = subst (λ (x : Meet). length (spelled_meet x) < n + 2 → begins_chain (spelled_meet x ++ rest) ≡ true) (roll-out-Meet x) (go (out-Meet x).head (out-Meet x).tail)
  where
    go : (p : Primary) (ls : List MeetLink) → length (spelled_meet (roll-Meet (record { head = p; tail = ls }))) < n + 2 → begins_chain (spelled_meet (roll-Meet (record { head = p; tail = ls })) ++ rest) ≡ true
    go p ls h =
        let e = spelled-Meet p ls in
        rw (e, append_assoc (spelled_primary p) (flat_map spelled_meet_link ls) rest)
        (primary-begins n b p (flat_map spelled_meet_link ls ++ rest) (omega (arith, h, ap length e, length-append (spelled_primary p) (flat_map spelled_meet_link ls))))

over-begins : (n : ℕ) → Begins n → (x : Chain) (rest : Kinds) → length (spelled_chain x) < n + 2 → begins_chain (spelled_chain x ++ rest) ≡ true
over-begins n b x rest = subst (λ (x : Chain). length (spelled_chain x) < n + 2 → begins_chain (spelled_chain x ++ rest) ≡ true) (roll-out-Chain x) (go (out-Chain x).head (out-Chain x).tail)
  where
    go : (p : Meet) (ls : List ChainLink) → length (spelled_chain (roll-Chain (record { head = p; tail = ls }))) < n + 2 → begins_chain (spelled_chain (roll-Chain (record { head = p; tail = ls })) ++ rest) ≡ true
    go p ls h =
        let e = spelled-Chain p ls in
        rw (e, append_assoc (spelled_meet p) (flat_map spelled_chain_link ls) rest)
        (meet-begins n b p (flat_map spelled_chain_link ls ++ rest) (omega (arith, h, ap length e, length-append (spelled_meet p) (flat_map spelled_chain_link ls))))

begins-below : (n : ℕ) → Begins n
begins-below zero c rest h = absurd (omega arith)
begins-below (suc n) c rest h = over-begins n (begins-below n) c rest (omega arith)

pub chain-begins : (c : Chain) (rest : Kinds) → begins_chain (spelled_chain c ++ rest) ≡ true
chain-begins c rest = begins-below (length (spelled_chain c) + 1) c rest (omega arith)

-- ---- no sum does

col-begins-not : (q : Option Name) (n : Name) (more : Kinds) → begins_chain (spelled_col q n ++ more) ≡ false
col-begins-not None n more = refl
col-begins-not (Some q) n more = refl

abbrev BeginsNot : ℕ → Type 0
BeginsNot n = (x : Sum) (more : Kinds) → length (spelled_sum x) < n → begins_chain (spelled_sum x ++ more) ≡ false

leaf-begins-not : (n : ℕ) → BeginsNot n → (l : Leaf) (more : Kinds) → length (spelled_leaf l) ≤ n → begins_chain (spelled_leaf l ++ more) ≡ false
leaf-begins-not n b = leaf-cases (λ l. (more : Kinds) → length (spelled_leaf l) ≤ n → begins_chain (spelled_leaf l ++ more) ≡ false)
    (λ k more h. rw spelled-Number refl) (λ t more h. rw spelled-Str refl) (λ more h. rw spelled-Null refl) (λ q m more h. rw (spelled-Col q m) (col-begins-not q m more))
    (λ s more h.
    let e = spelled-SumParen s in
    let short : length (spelled_sum s) < n = omega (arith, h, ap length e, length-append (spelled_sum s) (terminal.Fixed fixed.CloseParen ∷ [])) in
    rw (e, append_assoc (spelled_sum s) (terminal.Fixed fixed.CloseParen ∷ []) more) (b s (terminal.Fixed fixed.CloseParen ∷ more) short))

begins-not-below : (n : ℕ) → BeginsNot n
begins-not-below zero x more h = absurd (omega arith)
begins-not-below (suc n) x more h = sum-start (λ ks. begins_chain ks ≡ false) (λ ks. Unit {0}) n (record {
  leaf = λ l ks m q. leaf-begins-not n (begins-not-below n) l ks m;
  minus = λ ks. refl;
  then_star = λ ks. tt;
  then_sign = λ b ks. tt;
}) x more (omega arith) tt

pub sum-begins-not : (x : Sum) (more : Kinds) → begins_chain (spelled_sum x ++ more) ≡ false
sum-begins-not x more = begins-not-below (length (spelled_sum x) + 1) x more (omega arith)

-- ---- what follows a parenthesis decides what it holds

pub group-follows : (ks rest : Kinds) → Passed ks → is_group (in_paren ks ++ rest) ≡ nat_le 20 (front rest)
group-follows ks rest p = rw (append_assoc ks (terminal.Fixed fixed.CloseParen ∷ []) rest, p.passes 0 (terminal.Fixed fixed.CloseParen ∷ rest)) refl

at-least : (m n : ℕ) → m ≤ n → nat_le m n ≡ true
at-least m n h = grind (arith, nat_tests)

pub not-at-least : (m n : ℕ) → n < m → nat_le m n ≡ false
not-at-least m n h = grind (arith, nat_tests)

-- a condition's parenthesis, before what may follow an atom
pub cond-group : (ks rest : Kinds) → Passed ks → 20 ≤ front rest → is_group (in_paren ks ++ rest) ≡ true
cond-group ks rest p h = group-follows ks rest p ∙ at-least 20 (front rest) h

col-no-group : (q : Option Name) (n : Name) (more : Kinds) → is_group (spelled_col q n ++ more) ≡ false
col-no-group None n more = refl
col-no-group (Some q) n more = refl

leaf-no-group : (l : Leaf) (more : Kinds) → front more < 20 → is_group (spelled_leaf l ++ more) ≡ false
leaf-no-group = leaf-cases (λ l. (more : Kinds) → front more < 20 → is_group (spelled_leaf l ++ more) ≡ false)
    (λ k more h. rw spelled-Number refl) (λ t more h. rw spelled-Str refl) (λ more h. rw spelled-Null refl) (λ q m more h. rw (spelled-Col q m) (col-no-group q m more))
    (λ s more h. rw spelled-SumParen (group-follows (spelled_sum s) more (sum-passed s) ∙ not-at-least 20 (front more) h))

sign-below : (b : Bool) (ks : Kinds) → front (terminal.Fixed (sign b) ∷ ks) < 20
sign-below true ks = omega arith
sign-below false ks = omega arith

-- a sum, before a sign of a test
pub sum-no-group : (x : Sum) (more : Kinds) → front more < 20 → is_group (spelled_sum x ++ more) ≡ false
sum-no-group x more h = sum-start (λ ks. is_group ks ≡ false) (λ ks. front ks < 20) (length (spelled_sum x)) (record {
  leaf = λ l ks m q. leaf-no-group l ks q;
  minus = λ ks. refl;
  then_star = λ ks. omega arith;
  then_sign = sign-below;
}) x more (omega arith) h
