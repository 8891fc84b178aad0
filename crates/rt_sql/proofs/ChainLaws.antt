-- Sources and chains: each reader keeps to the spelling.
use Rattle.std.proofs.Common.{◌≡◌, ◌∙◌, ◌≤◌, ◌<◌, ◌+◌, ◌-◌, sym, ap, subst, ℕ, zero, suc, List, [], ◌∷◌, ◌++◌, length, refl, Bool, true, false, Option, Some, None, append_assoc, cond, arith, ◌==◌, length-append}
use Rattle.std.specs.Borrow.{Bor}
use Rattle.std.specs.List.{flat_map}
use Rattle.std.specs.Prelude.{Result}
use Rattle.rt_token.specs.Reads.{Reads}
use Rattle.rt_token.specs.declared.read_fault.ReadFault.{ReadFault}
use Rattle.rt_token.specs.declared.fixed.Fixed.TheVariants as fixed
use Rattle.rt_token.specs.declared.terminal.Name.{Name}
use Rattle.rt_token.specs.declared.terminal.Terminal.{Terminal}
use Rattle.rt_token.specs.declared.terminal.Terminal.TheVariants as terminal
use Rattle.rt_token.specs.Terminals.{Kinds, code_of, flag, front, in_paren, maybe}
use Rattle.rt_token.specs.Readers.{Parser, both, done, either, flagged, lead, list_of, made, optional, paren, read_end, read_name, starts, starts_name}
use Rattle.rt_token.proofs.ManyLemmas.{bind-some, some-is}
use Rattle.rt_token.proofs.FrontLemmas.{Passed, other-nat}
use Rattle.rt_token.proofs.Laws.{Lawful, both-law, done-law, either-sound, flagged-law, lead-law, made-law, made-sound, optional-law, paren-law, weaker}
use Rattle.rt_token.proofs.ListLaws.{StepLaw, after-law, follows, list-law, when-law}
use Rattle.rt_tree.specs.declared.tree.Alias.{Alias}
use Rattle.rt_tree.specs.declared.tree.Items.{Items}
use Rattle.rt_tree.specs.declared.tree.Sql.{Sql}
use Rattle.rt_tree.specs.declared.tree.Atom.{Atom}
use Rattle.rt_tree.specs.declared.tree.Base.{Base, out-Base, roll-Base, roll-out-Base}
use Rattle.rt_tree.specs.declared.tree.Join.{Join, out-Join, roll-Join, roll-out-Join}
use Rattle.rt_tree.specs.declared.tree.Primary.{Primary}
use Rattle.rt_tree.specs.declared.tree.Chain.{Chain, out-Chain, roll-out-Chain}
use Rattle.rt_tree.specs.declared.tree.ChainLink.{ChainLink, out-ChainLink, roll-out-ChainLink}
use Rattle.rt_tree.specs.declared.tree.Cond.{Cond}
use Rattle.rt_tree.specs.declared.tree.Conj.{Conj}
use Rattle.rt_tree.specs.declared.tree.Meet.{Meet, out-Meet, roll-out-Meet}
use Rattle.rt_tree.specs.declared.tree.MeetLink.{MeetLink, out-MeetLink, roll-out-MeetLink}
use Rattle.rt_tree.specs.declared.tree.Neg.{Neg}
use Rattle.rt_tree.specs.declared.tree.Pick.{Pick, out-Pick, roll-out-Pick}
use Rattle.rt_tree.specs.declared.tree.Source.{Source, out-Source, roll-out-Source}
use Rattle.rt_tree.specs.declared.tree.Base.TheVariants as base
use Rattle.rt_tree.specs.declared.tree.Join.TheVariants as join
use Rattle.rt_tree.specs.declared.tree.Primary.TheVariants as primary
use Rattle.rt_tree.specs.declared.tree.Atom.TheOpen as open_
use Rattle.rt_token.proofs.FrontLemmas.{is-fixed}
use Rattle.rt_tree.specs.Spelled.{spelled_alias, spelled_base, spelled_chain, spelled_chain_link, spelled_cond, spelled_items, spelled_join, spelled_meet, spelled_meet_link, spelled_name, spelled_pick, spelled_primary, spelled_source, spelled_sql, spelled_where, union_word}
use Rattle.rt_tree.proofs.SpelledLemmas.{spelled-Chain, spelled-ChainLink, spelled-ChainParen, spelled-Cross, spelled-Inner, spelled-Meet, spelled-MeetLink, spelled-Named, spelled-One, spelled-Pick, spelled-Plain, spelled-Source, spelled-Sub}
use Rattle.rt_tree.specs.Reads.{is_alias, read_alias, read_items}
use Rattle.rt_sql.specs.Reads.{Inner, chain_link_of, chain_of, chain_step, is_join, is_union, join_step, joined, level, meet_link_of, meet_of, meet_step, named, pick_of, read_base, read_chain, read_chain_link, read_cond, read_join, read_meet, read_meet_link, read_on, read_pick, read_primary, read_source, read_sources, read_sql, read_where, source_of, source_step, sql_of, sub}
use Rattle.rt_tree.proofs.SumLaws.{a-name, alias-law, maybe-alias-front, maybe-alias-law}
use Rattle.rt_tree.proofs.ItemLaws.{items-front, items-law}
use Rattle.rt_sql.proofs.StartLemmas.{primary-cases}
use Rattle.rt_sql.proofs.CondLaws.{InnerLaw, cond-law}
use Rattle.rt_token.proofs.CalmLemmas.{IsCalm, calm-name}
use Rattle.rt_token.proofs.EndLaws.{end-front, end-reads, end-sound}

-- ---- bases

pub base-cases : (P : Base → Type 0) → ((n : Name) (a : Option Alias) → P (base.Named n a)) → ((q : Chain) (a : Alias) → P (base.Sub q a)) → (x : Base) → P x
base-cases P f g x = subst P (roll-out-Base x) (go (out-Base x))
  where
    go : (o : open_.Base-F Atom Base Join Primary Chain ChainLink Cond Conj Meet MeetLink Neg Pick Source) → P (roll-Base o)
    go (open_.Named n a) = subst P (sym (base.rolls-Named n a)) (f n a)
    go (open_.Sub q a) = subst P (sym (base.rolls-Sub q a)) (g q a)

abbrev read_named : Parser (Name × Option Alias)
read_named = both read_name (optional is_alias read_alias)

abbrev named_kinds : Name × Option Alias → Kinds
named_kinds x = spelled_name x.0 ++ maybe spelled_alias x.1

named-law : (n : ℕ) → Lawful true read_named named_kinds n 24
named-law n = both-law read_name (optional is_alias read_alias) spelled_name (maybe spelled_alias) n 1 24 (a-name n) (maybe-alias-law n) (λ a rest f. omega (arith, maybe-alias-front a rest f))

abbrev sub_kinds : Chain × Alias → Kinds
sub_kinds x = in_paren (spelled_chain x.0) ++ spelled_alias x.1

sub-law : (inner : Inner) (n : ℕ) → InnerLaw inner n → Lawful true (both (paren inner.chain) read_alias) sub_kinds (n + 2) 1
sub-law inner n l = both-law (paren inner.chain) read_alias (λ (q : Chain). in_paren (spelled_chain q)) spelled_alias (n + 2) 0 1 (paren-law inner.chain spelled_chain n 33 l.chain (omega arith)) (alias-law (n + 2)) (λ a rest f. omega arith)

abbrev BaseReads : Inner → ℕ → Base → Type 0
BaseReads inner n x = (rest : Kinds) → length (spelled_base x) < n + 2 → 24 ≤ front rest → read_base inner (spelled_base x ++ rest) ≡ Some (x, rest)

named-reads : (inner : Inner) (n : ℕ) (m : Name) (a : Option Alias) → BaseReads inner n (base.Named m a)
unfolding read_base
named-reads inner n m a rest h f =
    let e = spelled-Named m a in
    let one = (named-law (n + 2)).reads (m, a) rest (omega (arith, h, ap length e)) f in
    rw (e, one) refl

sub-reads : (inner : Inner) (n : ℕ) → InnerLaw inner n → (q : Chain) (a : Alias) → BaseReads inner n (base.Sub q a)
unfolding read_base
sub-reads inner n l q a rest h f =
    let e = spelled-Sub q a in
    let one = (sub-law inner n l).reads (q, a) rest (omega (arith, h, ap length e)) (omega arith) in
    rw (e, one) refl

pub base-law : (inner : Inner) (n : ℕ) → InnerLaw inner n → Lawful true (read_base inner) spelled_base (n + 2) 24
unfolding read_base
base-law inner n l = record {
  sound = either-sound starts_name (made named read_named) (made sub (both (paren inner.chain) read_alias)) spelled_base
      (made-sound read_named named named_kinds spelled_base (named-law n).sound (λ x. spelled-Named x.0 x.1))
      (made-sound (both (paren inner.chain) read_alias) sub sub_kinds spelled_base (sub-law inner n l).sound (λ x. spelled-Sub x.0 x.1));
  reads = base-cases (BaseReads inner n) (named-reads inner n) (sub-reads inner n l);
  passed = λ s. base-cases (λ x. length (spelled_base x) < n + 2 → Passed (spelled_base x))
      (λ m a h. let e = spelled-Named m a in rw e ((named-law (n + 2)).passed refl (m, a) (omega (arith, h, ap length e))))
      (λ q a h. let e = spelled-Sub q a in rw e ((sub-law inner n l).passed refl (q, a) (omega (arith, h, ap length e))));
  calm = λ s. base-cases (λ x. (rest : Kinds) → length (spelled_base x) < n + 2 → 24 ≤ front rest → IsCalm rest → IsCalm (spelled_base x ++ rest))
      (λ m a rest h f k. let e = spelled-Named m a in rw e ((named-law (n + 2)).calm refl (m, a) rest (omega (arith, h, ap length e)) f k))
      (λ q a rest h f k. let e = spelled-Sub q a in rw e ((sub-law inner n l).calm refl (q, a) rest (omega (arith, h, ap length e)) (omega arith) k));
}

-- ---- joins

pub join-cases : (P : Join → Type 0) → ((b : Base) (c : Cond) → P (join.Plain b c)) → ((b : Base) (c : Cond) → P (join.Inner b c)) → ((b : Base) → P (join.Cross b)) → (x : Join) → P x
join-cases P f g h x = subst P (roll-out-Join x) (go (out-Join x))
  where
    go : (o : open_.Join-F Atom Base Join Primary Chain ChainLink Cond Conj Meet MeetLink Neg Pick Source) → P (roll-Join o)
    go (open_.Plain b c) = subst P (sym (join.rolls-Plain b c)) (f b c)
    go (open_.Inner b c) = subst P (sym (join.rolls-Inner b c)) (g b c)
    go (open_.Cross b) = subst P (sym (join.rolls-Cross b)) (h b)

abbrev on_kinds : Base × Cond → Kinds
on_kinds x = spelled_base x.0 ++ terminal.Fixed fixed.On ∷ spelled_cond x.1

pub on-law : (inner : Inner) (n : ℕ) → InnerLaw inner n → Lawful true (read_on inner) on_kinds (n + 2) 22
unfolding read_on
on-law inner n l = both-law (read_base inner) (lead fixed.On (read_cond inner)) spelled_base (λ (c : Cond). terminal.Fixed fixed.On ∷ spelled_cond c) (n + 2) 24 22 (base-law inner n l)
    (lead-law fixed.On (read_cond inner) spelled_cond (n + 2) 22 (cond-law inner n l) (λ e. omega arith) (λ e. omega arith)) (λ c rest f. omega arith)

abbrev joined_kinds : Bool × (Base × Cond) → Kinds
joined_kinds x = flag fixed.Inner x.0 ++ terminal.Fixed fixed.Join ∷ on_kinds x.1

joined-law : (inner : Inner) (n : ℕ) → InnerLaw inner n → Lawful true (flagged fixed.Inner (lead fixed.Join (read_on inner))) joined_kinds (n + 2) 22
joined-law inner n l = flagged-law fixed.Inner (lead fixed.Join (read_on inner)) (λ (x : Base × Cond). terminal.Fixed fixed.Join ∷ on_kinds x) (n + 2) 22
    (lead-law fixed.Join (read_on inner) on_kinds (n + 2) 22 (on-law inner n l) (λ e. omega arith) (λ e. omega arith)) (λ e. omega arith) (λ e. omega arith) (λ x rest f e. omega arith)

spelled-joined : (inner : Bool) (b : Base) (c : Cond) → spelled_join (joined (inner, (b, c))) ≡ joined_kinds (inner, (b, c))
spelled-joined true b c = spelled-Inner b c
spelled-joined false b c = spelled-Plain b c

abbrev cross_kinds : Base → Kinds
cross_kinds b = terminal.Fixed fixed.Cross ∷ (terminal.Fixed fixed.Join ∷ spelled_base b)

cross-law : (inner : Inner) (n : ℕ) → InnerLaw inner n → Lawful true (lead fixed.Cross (lead fixed.Join (read_base inner))) cross_kinds (n + 2) 24
cross-law inner n l = lead-law fixed.Cross (lead fixed.Join (read_base inner)) (λ (b : Base). terminal.Fixed fixed.Join ∷ spelled_base b) (n + 2) 24
    (lead-law fixed.Join (read_base inner) spelled_base (n + 2) 24 (base-law inner n l) (λ e. omega arith) (λ e. omega arith)) (λ e. omega arith) (λ e. omega arith)

abbrev JoinReads : Inner → ℕ → Join → Type 0
JoinReads inner n x = (rest : Kinds) → length (spelled_join x) < n + 2 → 24 ≤ front rest → read_join inner (spelled_join x ++ rest) ≡ Some (x, rest)

joined-reads : (inner : Inner) (n : ℕ) → InnerLaw inner n → (i : Bool) (b : Base) (c : Cond) → JoinReads inner n (joined (i, (b, c)))
unfolding read_join
joined-reads inner n l true b c rest h f =
    let e = spelled-Inner b c in
    let one = (joined-law inner n l).reads (true, (b, c)) rest (omega (arith, h, ap length e)) (omega arith) in
    rw (e, one) refl
joined-reads inner n l false b c rest h f =
    let e = spelled-Plain b c in
    let one = (joined-law inner n l).reads (false, (b, c)) rest (omega (arith, h, ap length e)) (omega arith) in
    rw (e, one) refl

cross-reads : (inner : Inner) (n : ℕ) → InnerLaw inner n → (b : Base) → JoinReads inner n (join.Cross b)
unfolding read_join
cross-reads inner n l b rest h f =
    let e = spelled-Cross b in
    let one = (cross-law inner n l).reads b rest (omega (arith, h, ap length e)) f in
    rw (e, one) refl

pub join-law : (inner : Inner) (n : ℕ) → InnerLaw inner n → Lawful true (read_join inner) spelled_join (n + 2) 24
unfolding read_join
join-law inner n l = record {
  sound = either-sound (starts fixed.Cross) (made join.Cross (lead fixed.Cross (lead fixed.Join (read_base inner)))) (made joined (flagged fixed.Inner (lead fixed.Join (read_on inner)))) spelled_join
      (made-sound (lead fixed.Cross (lead fixed.Join (read_base inner))) join.Cross cross_kinds spelled_join (cross-law inner n l).sound spelled-Cross)
      (made-sound (flagged fixed.Inner (lead fixed.Join (read_on inner))) joined joined_kinds spelled_join (joined-law inner n l).sound (λ x. spelled-joined x.0 x.1.0 x.1.1));
  reads = join-cases (JoinReads inner n) (joined-reads inner n l false) (joined-reads inner n l true) (cross-reads inner n l);
  passed = λ s. join-cases (λ x. length (spelled_join x) < n + 2 → Passed (spelled_join x))
      (λ b c h. let e = spelled-Plain b c in rw e ((joined-law inner n l).passed refl (false, (b, c)) (omega (arith, h, ap length e))))
      (λ b c h. let e = spelled-Inner b c in rw e ((joined-law inner n l).passed refl (true, (b, c)) (omega (arith, h, ap length e))))
      (λ b h. let e = spelled-Cross b in rw e ((cross-law inner n l).passed refl b (omega (arith, h, ap length e))));
  calm = λ s. join-cases (λ x. (rest : Kinds) → length (spelled_join x) < n + 2 → 24 ≤ front rest → IsCalm rest → IsCalm (spelled_join x ++ rest))
      (λ b c rest h f k. let e = spelled-Plain b c in rw e ((joined-law inner n l).calm refl (false, (b, c)) rest (omega (arith, h, ap length e)) (omega arith) k))
      (λ b c rest h f k. let e = spelled-Inner b c in rw e ((joined-law inner n l).calm refl (true, (b, c)) rest (omega (arith, h, ap length e)) (omega arith) k))
      (λ b rest h f k. let e = spelled-Cross b in rw e ((cross-law inner n l).calm refl b rest (omega (arith, h, ap length e)) f k));
}

-- ---- sources

join-some : (x : Join) → 0 < length (spelled_join x)
join-some = join-cases (λ x. 0 < length (spelled_join x)) (λ b c. omega (arith, ap length (spelled-Plain b c))) (λ b c. omega (arith, ap length (spelled-Inner b c))) (λ b. omega (arith, ap length (spelled-Cross b)))

join-front : (x : Join) (rest : Kinds) → 24 ≤ front (spelled_join x ++ rest)
join-front = join-cases (λ x. (rest : Kinds) → 24 ≤ front (spelled_join x ++ rest)) (λ b c rest. rw spelled-Plain (omega arith)) (λ b c rest. rw spelled-Inner (omega arith)) (λ b rest. rw spelled-Cross (omega arith))

join-there : (x : Join) (rest : Kinds) → is_join (spelled_join x ++ rest) ≡ true
join-there = join-cases (λ x. (rest : Kinds) → is_join (spelled_join x ++ rest) ≡ true) (λ b c rest. rw spelled-Plain refl) (λ b c rest. rw spelled-Inner refl) (λ b rest. rw spelled-Cross refl)

no-join : (rest : Kinds) → 28 ≤ front rest → is_join rest ≡ false
no-join rest h = rw (other-nat (front rest) 24 (λ e. omega arith), other-nat (front rest) 25 (λ e. omega arith), other-nat (front rest) 26 (λ e. omega arith)) refl

pub join-step-law : (inner : Inner) (n : ℕ) → InnerLaw inner n → StepLaw true (join_step inner) spelled_join (n + 2) 24 28
join-step-law inner n l = when-law is_join (read_join inner) spelled_join (n + 2) 24 28 (join-law inner n l) join-some join-front join-there no-join (omega arith)

pub source-law : (inner : Inner) (n : ℕ) → InnerLaw inner n → Lawful true (read_source inner) spelled_source (n + 2) 28
unfolding read_source
source-law inner n l =
    let step = join-step-law inner n l in
    made-law (both (read_base inner) (list_of (join_step inner))) source_of (λ (x : Source). ((out-Source x).head, (out-Source x).joins))
    (λ (x : Base × List Join). spelled_base x.0 ++ flat_map spelled_join x.1) spelled_source (n + 2) 28
    (both-law (read_base inner) (list_of (join_step inner)) spelled_base (flat_map spelled_join) (n + 2) 24 28 (base-law inner n l) (list-law (join_step inner) spelled_join (n + 2) 24 28 step)
    (λ xs rest f. follows spelled_join 24 step.starts xs rest (omega arith)))
    roll-out-Source (λ x. spelled-Source x.0 x.1)

abbrev comma_source : Source → Kinds
comma_source x = terminal.Fixed fixed.Comma ∷ spelled_source x

pub source-step-law : (inner : Inner) (n : ℕ) → InnerLaw inner n → StepLaw true (source_step inner) comma_source (n + 2) 28 29
source-step-law inner n l = after-law fixed.Comma (read_source inner) spelled_source (n + 2) 28 (source-law inner n l) (λ e. omega arith) (λ e. omega arith) (omega arith)

abbrev sources_kinds : Source × List Source → Kinds
sources_kinds x = spelled_source x.0 ++ flat_map comma_source x.1

pub sources-law : (inner : Inner) (n : ℕ) → InnerLaw inner n → Lawful true (read_sources inner) sources_kinds (n + 2) 29
unfolding read_sources
sources-law inner n l =
    let step = source-step-law inner n l in
    both-law (read_source inner) (list_of (source_step inner)) spelled_source (flat_map comma_source) (n + 2) 28 29 (source-law inner n l) (list-law (source_step inner) comma_source (n + 2) 28 29 step)
    (λ xs rest f. follows comma_source 28 step.starts xs rest (omega arith))

-- ---- picks

abbrev where_kinds : Cond → Kinds
where_kinds c = terminal.Fixed fixed.Where ∷ spelled_cond c

pub where-law : (inner : Inner) (n : ℕ) → InnerLaw inner n → Lawful true (read_where inner) spelled_where (n + 2) 30
unfolding read_where
where-law inner n l = optional-law (starts fixed.Where) (lead fixed.Where (read_cond inner)) where_kinds (n + 2) 22
    (lead-law fixed.Where (read_cond inner) spelled_cond (n + 2) 22 (cond-law inner n l) (λ e. omega arith) (λ e. omega arith))
    (λ c rest. refl) 30 (omega arith) (λ rest f. other-nat (front rest) 29 (λ e. omega arith))

where-front : (o : Option Cond) (rest : Kinds) → 30 ≤ front rest → 29 ≤ front (spelled_where o ++ rest)
where-front None rest f = omega arith
where-front (Some c) rest f = omega arith

abbrev Parts : Type 0
Parts = Items × ((Source × List Source) × Option Cond)

abbrev read_parts : Inner → Parser Parts
read_parts inner = both read_items (lead fixed.From (both (read_sources inner) (read_where inner)))

abbrev from_kinds : (Source × List Source) × Option Cond → Kinds
from_kinds x = terminal.Fixed fixed.From ∷ (sources_kinds x.0 ++ spelled_where x.1)

abbrev parts_kinds : Parts → Kinds
parts_kinds x = spelled_items x.0 ++ from_kinds x.1

from-law : (inner : Inner) (n : ℕ) → InnerLaw inner n → Lawful true (lead fixed.From (both (read_sources inner) (read_where inner))) from_kinds (n + 2) 30
from-law inner n l = lead-law fixed.From (both (read_sources inner) (read_where inner)) (λ (x : (Source × List Source) × Option Cond). sources_kinds x.0 ++ spelled_where x.1) (n + 2) 30
    (both-law (read_sources inner) (read_where inner) sources_kinds spelled_where (n + 2) 29 30 (sources-law inner n l) (where-law inner n l) where-front)
    (λ e. omega arith) (λ e. omega arith)

parts-law : (inner : Inner) (n : ℕ) → InnerLaw inner n → Lawful true (read_parts inner) parts_kinds (n + 2) 30
parts-law inner n l = both-law read_items (lead fixed.From (both (read_sources inner) (read_where inner))) spelled_items from_kinds (n + 2) 29 30 (items-law (n + 2)) (from-law inner n l) (λ x rest f. omega arith)

abbrev flagged_kinds : Bool × Parts → Kinds
flagged_kinds x = flag fixed.Distinct x.0 ++ parts_kinds x.1

parts-front : (x : Parts) (rest : Kinds) → front (parts_kinds x ++ rest) ≡ 39 → ⊥
parts-front x rest h = items-front x.0 (from_kinds x.1 ++ rest) (rw append_assoc at h)

distinct-law : (inner : Inner) (n : ℕ) → InnerLaw inner n → Lawful true (flagged fixed.Distinct (read_parts inner)) flagged_kinds (n + 2) 30
distinct-law inner n l = flagged-law fixed.Distinct (read_parts inner) parts_kinds (n + 2) 30 (parts-law inner n l) (λ e. omega arith) (λ e. omega arith) (λ x rest f e. parts-front x rest e)

abbrev back_pick : Pick → Bool × Parts
back_pick x = ((out-Pick x).distinct, ((out-Pick x).items, (((out-Pick x).head, (out-Pick x).tail), (out-Pick x).cond)))

pub pick-law : (inner : Inner) (n : ℕ) → InnerLaw inner n → Lawful true (read_pick inner) spelled_pick (n + 2) 30
unfolding read_pick
pick-law inner n l = made-law (lead fixed.Select (flagged fixed.Distinct (read_parts inner))) pick_of back_pick
    (λ (x : Bool × Parts). terminal.Fixed fixed.Select ∷ flagged_kinds x) spelled_pick (n + 2) 30
    (lead-law fixed.Select (flagged fixed.Distinct (read_parts inner)) flagged_kinds (n + 2) 30 (distinct-law inner n l) (λ e. omega arith) (λ e. omega arith))
    roll-out-Pick (λ x. spelled-Pick x.0 x.1.0 x.1.1.0.0 x.1.1.0.1 x.1.1.1)

-- ---- primaries

abbrev PrimaryReads : Inner → ℕ → Primary → Type 0
PrimaryReads inner n x = (rest : Kinds) → length (spelled_primary x) < n + 2 → 30 ≤ front rest → read_primary inner (spelled_primary x ++ rest) ≡ Some (x, rest)

pick-front : (p : Pick) (rest : Kinds) → front (spelled_pick p ++ rest) ≡ 38
pick-front p rest = subst (λ (p : Pick). front (spelled_pick p ++ rest) ≡ 38) (roll-out-Pick p)
    (rw (spelled-Pick (out-Pick p).distinct (out-Pick p).items (out-Pick p).head (out-Pick p).tail (out-Pick p).cond) refl)

one-reads : (inner : Inner) (n : ℕ) → InnerLaw inner n → (p : Pick) → PrimaryReads inner n (primary.One p)
unfolding read_primary
one-reads inner n l p rest h f =
    let e = spelled-One p in
    let one = (pick-law inner n l).reads p rest (omega (arith, h, ap length e)) f in
    let x = other-nat (front (spelled_pick p ++ rest)) 0 (λ y. omega (arith, pick-front p rest)) in
    rw (e, x, one) refl

paren-reads : (inner : Inner) (n : ℕ) → InnerLaw inner n → (c : Chain) → PrimaryReads inner n (primary.Paren c)
unfolding read_primary
paren-reads inner n l c rest h f =
    let e = spelled-ChainParen c in
    let one = (paren-law inner.chain spelled_chain n 33 l.chain (omega arith)).reads c rest (omega (arith, h, ap length e)) (omega arith) in
    rw (e, one) refl

pub primary-law : (inner : Inner) (n : ℕ) → InnerLaw inner n → Lawful true (read_primary inner) spelled_primary (n + 2) 30
unfolding read_primary
primary-law inner n l =
    let p = paren-law inner.chain spelled_chain n 33 l.chain (omega arith) in
    record {
      sound = either-sound (starts fixed.OpenParen) (made primary.Paren (paren inner.chain)) (made primary.One (read_pick inner)) spelled_primary
          (made-sound (paren inner.chain) primary.Paren (λ (c : Chain). in_paren (spelled_chain c)) spelled_primary p.sound spelled-ChainParen)
          (made-sound (read_pick inner) primary.One spelled_pick spelled_primary (pick-law inner n l).sound spelled-One);
      reads = primary-cases (PrimaryReads inner n) (one-reads inner n l) (paren-reads inner n l);
      passed = λ s. primary-cases (λ x. length (spelled_primary x) < n + 2 → Passed (spelled_primary x))
          (λ q h. let e = spelled-One q in rw e ((pick-law inner n l).passed refl q (omega (arith, h, ap length e))))
          (λ c h. let e = spelled-ChainParen c in rw e (p.passed refl c (omega (arith, h, ap length e))));
      calm = λ s. primary-cases (λ x. (rest : Kinds) → length (spelled_primary x) < n + 2 → 30 ≤ front rest → IsCalm rest → IsCalm (spelled_primary x ++ rest))
          (λ q rest h f k. let e = spelled-One q in rw e ((pick-law inner n l).calm refl q rest (omega (arith, h, ap length e)) f k))
          (λ c rest h f k. let e = spelled-ChainParen c in rw e (p.calm refl c rest (omega (arith, h, ap length e)) (omega arith) k));
    }

pub primary-front : (x : Primary) (rest : Kinds) → front (spelled_primary x ++ rest) ≡ 39 → ⊥
primary-front = primary-cases (λ x. (rest : Kinds) → front (spelled_primary x ++ rest) ≡ 39 → ⊥)
    (λ p rest e. let h : front (spelled_pick p ++ rest) ≡ 39 = rw spelled-One at e in omega (arith, pick-front p rest))
    (λ c rest e. let h : 0 ≡ 39 = rw spelled-ChainParen at e in omega arith)

-- ---- meets

abbrev distinct_primary : Bool × Primary → Kinds
distinct_primary x = flag fixed.Distinct x.0 ++ spelled_primary x.1

distinct-primary-law : (inner : Inner) (n : ℕ) → InnerLaw inner n → Lawful true (flagged fixed.Distinct (read_primary inner)) distinct_primary (n + 2) 30
distinct-primary-law inner n l = flagged-law fixed.Distinct (read_primary inner) spelled_primary (n + 2) 30 (primary-law inner n l) (λ e. omega arith) (λ e. omega arith) (λ x rest f e. primary-front x rest e)

pub meet-link-law : (inner : Inner) (n : ℕ) → InnerLaw inner n → Lawful true (read_meet_link inner) spelled_meet_link (n + 2) 30
unfolding read_meet_link
meet-link-law inner n l = made-law (lead fixed.Intersect (flagged fixed.Distinct (read_primary inner))) meet_link_of (λ (x : MeetLink). ((out-MeetLink x).distinct, (out-MeetLink x).of))
    (λ (x : Bool × Primary). terminal.Fixed fixed.Intersect ∷ distinct_primary x) spelled_meet_link (n + 2) 30
    (lead-law fixed.Intersect (flagged fixed.Distinct (read_primary inner)) distinct_primary (n + 2) 30 (distinct-primary-law inner n l) (λ e. omega arith) (λ e. omega arith))
    roll-out-MeetLink (λ x. spelled-MeetLink x.0 x.1)

meet-link-holds : (P : Kinds → Type 0) → ((ks : Kinds) → P (terminal.Fixed fixed.Intersect ∷ ks)) → (x : MeetLink) (rest : Kinds) → P (spelled_meet_link x ++ rest)
meet-link-holds P f x rest = subst (λ (x : MeetLink). P (spelled_meet_link x ++ rest)) (roll-out-MeetLink x) (rw (spelled-MeetLink (out-MeetLink x).distinct (out-MeetLink x).of) (f _))

meet-link-some : (x : MeetLink) → 0 < length (spelled_meet_link x)
meet-link-some x = subst (λ (x : MeetLink). 0 < length (spelled_meet_link x)) (roll-out-MeetLink x) (omega (arith, ap length (spelled-MeetLink (out-MeetLink x).distinct (out-MeetLink x).of)))

pub meet-step-law : (inner : Inner) (n : ℕ) → InnerLaw inner n → StepLaw true (meet_step inner) spelled_meet_link (n + 2) 30 31
meet-step-law inner n l = when-law (starts fixed.Intersect) (read_meet_link inner) spelled_meet_link (n + 2) 30 31 (meet-link-law inner n l) meet-link-some
    (meet-link-holds (λ ks. 30 ≤ front ks) (λ ks. omega arith)) (meet-link-holds (λ ks. starts fixed.Intersect ks ≡ true) (λ ks. refl)) (λ rest f. other-nat (front rest) 30 (λ e. omega arith)) (omega arith)

pub meet-law : (inner : Inner) (n : ℕ) → InnerLaw inner n → Lawful true (read_meet inner) spelled_meet (n + 2) 31
unfolding read_meet
meet-law inner n l =
    let step = meet-step-law inner n l in
    made-law (both (read_primary inner) (list_of (meet_step inner))) meet_of (λ (x : Meet). ((out-Meet x).head, (out-Meet x).tail))
    (λ (x : Primary × List MeetLink). spelled_primary x.0 ++ flat_map spelled_meet_link x.1) spelled_meet (n + 2) 31
    (both-law (read_primary inner) (list_of (meet_step inner)) spelled_primary (flat_map spelled_meet_link) (n + 2) 30 31 (primary-law inner n l) (list-law (meet_step inner) spelled_meet_link (n + 2) 30 31 step)
    (λ xs rest f. follows spelled_meet_link 30 step.starts xs rest (omega arith)))
    roll-out-Meet (λ x. spelled-Meet x.0 x.1)

meet-front : (x : Meet) (rest : Kinds) → front (spelled_meet x ++ rest) ≡ 39 → ⊥
meet-front x rest = subst (λ (x : Meet). front (spelled_meet x ++ rest) ≡ 39 → ⊥) (roll-out-Meet x)
    (λ e. primary-front (out-Meet x).head (flat_map spelled_meet_link (out-Meet x).tail ++ rest) (rw (spelled-Meet (out-Meet x).head (out-Meet x).tail, append_assoc (spelled_primary (out-Meet x).head) (flat_map spelled_meet_link (out-Meet x).tail) rest) at e))

-- ---- chains

abbrev distinct_meet : Bool × Meet → Kinds
distinct_meet x = flag fixed.Distinct x.0 ++ spelled_meet x.1

distinct-meet-law : (inner : Inner) (n : ℕ) → InnerLaw inner n → Lawful true (flagged fixed.Distinct (read_meet inner)) distinct_meet (n + 2) 31
distinct-meet-law inner n l = flagged-law fixed.Distinct (read_meet inner) spelled_meet (n + 2) 31 (meet-law inner n l) (λ e. omega arith) (λ e. omega arith) (λ x rest f e. meet-front x rest e)

abbrev union_kinds : Bool → Bool × Meet → Kinds
union_kinds e x = terminal.Fixed (union_word e) ∷ distinct_meet x

union-law : (inner : Inner) (n : ℕ) → InnerLaw inner n → (e : Bool) → Lawful true (lead (union_word e) (flagged fixed.Distinct (read_meet inner))) (union_kinds e) (n + 2) 31
union-law inner n l true = lead-law fixed.Except (flagged fixed.Distinct (read_meet inner)) distinct_meet (n + 2) 31 (distinct-meet-law inner n l) (λ e. omega arith) (λ e. omega arith)
union-law inner n l false = lead-law fixed.Union (flagged fixed.Distinct (read_meet inner)) distinct_meet (n + 2) 31 (distinct-meet-law inner n l) (λ e. omega arith) (λ e. omega arith)

abbrev LinkReads : Inner → ℕ → ChainLink → Type 0
LinkReads inner n x = (rest : Kinds) → length (spelled_chain_link x) < n + 2 → 31 ≤ front rest → read_chain_link inner (spelled_chain_link x ++ rest) ≡ Some (x, rest)

link-reads : (inner : Inner) (n : ℕ) → InnerLaw inner n → (e : Bool) (x : Bool × Meet) → LinkReads inner n (chain_link_of e x)
unfolding read_chain_link
link-reads inner n l true x rest h f =
    let e = spelled-ChainLink true x.0 x.1 in
    let one = (union-law inner n l true).reads x rest (omega (arith, h, ap length e)) f in
    rw (e, one) refl
link-reads inner n l false x rest h f =
    let e = spelled-ChainLink false x.0 x.1 in
    let one = (union-law inner n l false).reads x rest (omega (arith, h, ap length e)) f in
    rw (e, one) refl

link-passed : (inner : Inner) (n : ℕ) → InnerLaw inner n → (e : Bool) (x : Bool × Meet) → length (spelled_chain_link (chain_link_of e x)) < n + 2 → Passed (spelled_chain_link (chain_link_of e x))
link-passed inner n l e x h = let q = spelled-ChainLink e x.0 x.1 in rw q ((union-law inner n l e).passed refl x (omega (arith, h, ap length q)))

link-calm : (inner : Inner) (n : ℕ) → InnerLaw inner n → (e : Bool) (x : Bool × Meet) (rest : Kinds) → length (spelled_chain_link (chain_link_of e x)) < n + 2 → 31 ≤ front rest → IsCalm rest → IsCalm (spelled_chain_link (chain_link_of e x) ++ rest)
link-calm inner n l e x rest h f k = let q = spelled-ChainLink e x.0 x.1 in rw q ((union-law inner n l e).calm refl x rest (omega (arith, h, ap length q)) f k)

pub chain-link-law : (inner : Inner) (n : ℕ) → InnerLaw inner n → Lawful true (read_chain_link inner) spelled_chain_link (n + 2) 31
unfolding read_chain_link
chain-link-law inner n l = record {
  sound = either-sound (starts fixed.Except) (made (chain_link_of true) (lead fixed.Except (flagged fixed.Distinct (read_meet inner)))) (made (chain_link_of false) (lead fixed.Union (flagged fixed.Distinct (read_meet inner)))) spelled_chain_link
      (made-sound (lead fixed.Except (flagged fixed.Distinct (read_meet inner))) (chain_link_of true) (union_kinds true) spelled_chain_link (union-law inner n l true).sound (λ x. spelled-ChainLink true x.0 x.1))
      (made-sound (lead fixed.Union (flagged fixed.Distinct (read_meet inner))) (chain_link_of false) (union_kinds false) spelled_chain_link (union-law inner n l false).sound (λ x. spelled-ChainLink false x.0 x.1));
  reads = λ x. subst (LinkReads inner n) (roll-out-ChainLink x) (link-reads inner n l (out-ChainLink x).except ((out-ChainLink x).distinct, (out-ChainLink x).of));
  passed = λ s x. subst (λ (x : ChainLink). length (spelled_chain_link x) < n + 2 → Passed (spelled_chain_link x)) (roll-out-ChainLink x) (link-passed inner n l (out-ChainLink x).except ((out-ChainLink x).distinct, (out-ChainLink x).of));
  calm = λ s x. subst (λ (x : ChainLink). (rest : Kinds) → length (spelled_chain_link x) < n + 2 → 31 ≤ front rest → IsCalm rest → IsCalm (spelled_chain_link x ++ rest)) (roll-out-ChainLink x) (link-calm inner n l (out-ChainLink x).except ((out-ChainLink x).distinct, (out-ChainLink x).of));
}

link-holds : (P : Kinds → Type 0) → ((e : Bool) (ks : Kinds) → P (terminal.Fixed (union_word e) ∷ ks)) → (x : ChainLink) (rest : Kinds) → P (spelled_chain_link x ++ rest)
link-holds P f x rest = subst (λ (x : ChainLink). P (spelled_chain_link x ++ rest)) (roll-out-ChainLink x) (rw (spelled-ChainLink (out-ChainLink x).except (out-ChainLink x).distinct (out-ChainLink x).of) (f _ _))

link-some : (x : ChainLink) → 0 < length (spelled_chain_link x)
link-some x = subst (λ (x : ChainLink). 0 < length (spelled_chain_link x)) (roll-out-ChainLink x) (omega (arith, ap length (spelled-ChainLink (out-ChainLink x).except (out-ChainLink x).distinct (out-ChainLink x).of)))

union-at-least : (e : Bool) (ks : Kinds) → 31 ≤ front (terminal.Fixed (union_word e) ∷ ks)
union-at-least true ks = omega arith
union-at-least false ks = omega arith

union-there : (e : Bool) (ks : Kinds) → is_union (terminal.Fixed (union_word e) ∷ ks) ≡ true
union-there true ks = refl
union-there false ks = refl

no-union : (rest : Kinds) → 33 ≤ front rest → is_union rest ≡ false
no-union rest h = rw (other-nat (front rest) 31 (λ e. omega arith), other-nat (front rest) 32 (λ e. omega arith)) refl

pub chain-step-law : (inner : Inner) (n : ℕ) → InnerLaw inner n → StepLaw true (chain_step inner) spelled_chain_link (n + 2) 31 33
chain-step-law inner n l = when-law is_union (read_chain_link inner) spelled_chain_link (n + 2) 31 33 (chain-link-law inner n l) link-some
    (link-holds (λ ks. 31 ≤ front ks) union-at-least) (link-holds (λ ks. is_union ks ≡ true) union-there) no-union (omega arith)

pub chain-law : (inner : Inner) (n : ℕ) → InnerLaw inner n → Lawful true (read_chain inner) spelled_chain (n + 2) 33
unfolding read_chain
chain-law inner n l =
    let step = chain-step-law inner n l in
    made-law (both (read_meet inner) (list_of (chain_step inner))) chain_of (λ (x : Chain). ((out-Chain x).head, (out-Chain x).tail))
    (λ (x : Meet × List ChainLink). spelled_meet x.0 ++ flat_map spelled_chain_link x.1) spelled_chain (n + 2) 33
    (both-law (read_meet inner) (list_of (chain_step inner)) spelled_meet (flat_map spelled_chain_link) (n + 2) 31 33 (meet-law inner n l) (list-law (chain_step inner) spelled_chain_link (n + 2) 31 33 step)
    (λ xs rest f. follows spelled_chain_link 31 step.starts xs rest (omega arith)))
    roll-out-Chain (λ x. spelled-Chain x.0 x.1)

-- conditions and chains of fewer than n terminals are read
pub level-law : (n : ℕ) → InnerLaw (level n) n
unfolding level
level-law zero = record {
  cond = record { sound = λ ks q e. cc e; reads = λ x rest h f. absurd (omega arith); passed = λ s x h. absurd (omega arith); calm = λ s x rest h f k. absurd (omega arith) };
  chain = record { sound = λ ks q e. cc e; reads = λ x rest h f. absurd (omega arith); passed = λ s x h. absurd (omega arith); calm = λ s x rest h f k. absurd (omega arith) };
}
level-law (suc n) = record {
  cond = weaker (read_cond (level n)) spelled_cond (n + 2) 22 (suc n) 22 (cond-law (level n) n (level-law n)) (omega arith) (omega arith);
  chain = weaker (read_chain (level n)) spelled_chain (n + 2) 33 (suc n) 33 (chain-law (level n) n (level-law n)) (omega arith) (omega arith);
}

-- what is read between parentheses is read with one level more
above : (n : ℕ) → (n ≡ 0 → ⊥) → suc (n - 1) ≡ n
above n e = omega arith

pub level-chain : (n : ℕ) (ks : Kinds) (r : Result (Chain × Bor Kinds) ReadFault) → (n ≡ 0 → ⊥) → Reads r (read_chain (level (n - 1)) ks) → Reads r ((level n).chain ks)
unfolding level
level-chain n ks r e a = subst (λ (m : ℕ). Reads r ((level m).chain ks)) (above n e) a

pub level-cond : (n : ℕ) (ks : Kinds) (r : Result (Cond × Bor Kinds) ReadFault) → (n ≡ 0 → ⊥) → Reads r (read_cond (level (n - 1)) ks) → Reads r ((level n).cond ks)
unfolding level
level-cond n ks r e a = subst (λ (m : ℕ). Reads r ((level m).cond ks)) (above n e) a

pub level-none : (n : ℕ) (ks : Kinds) → n ≡ 0 → ((level n).chain ks ≡ None) × ((level n).cond ks ≡ None)
unfolding level
level-none n ks e = rw e (refl, refl)

-- ---- all the terminals

-- what is read is spelled so
pub sql-sound : (ks : Kinds) (t : Sql) → read_sql ks ≡ Some t → spelled_sql t ≡ ks
unfolding read_sql
sql-sound ks t e =
    let c = bind-some ((level (length ks + 1)).chain ks) _ t e in
    let b = bind-some (read_end c.0.1) _ t c.2 in
    let h : sql_of (c.0.0, b.0) ≡ t = some-is _ _ b.2 in
    subst (λ (t : Sql). spelled_sql t ≡ ks) h
    (ap (λ (r : Kinds). spelled_chain c.0.0 ++ r) (sym (end-sound c.0.1 b.0 b.1)) ∙ sym ((level-law (length ks + 1)).chain.sound ks c.0 c.1))

-- every tree is read from its terminals
pub sql-reads : (t : Sql) → read_sql (spelled_sql t) ≡ Some t
unfolding read_sql
sql-reads t =
    let one = (level-law (length (spelled_sql t) + 1)).chain.reads t.chain (flag fixed.Semicolon t.semi) (omega (arith, length-append (spelled_chain t.chain) (flag fixed.Semicolon t.semi))) (end-front t.semi) in
    rw (one, end-reads t.semi) refl
