-- Items: each reader keeps to the spelling.
use Rattle.std.proofs.Common.{◌≡◌, ◌∙◌, ◌≤◌, ◌<◌, sym, ap, subst, ℕ, List, [], ◌∷◌, ◌++◌, length, refl, Bool, true, false, Option, Some, None, append_assoc, arith}
use Rattle.std.specs.List.{flat_map}
use Rattle.rt_token.specs.declared.fixed.Fixed.TheVariants as fixed
use Rattle.rt_token.specs.declared.terminal.Name.{Name}
use Rattle.rt_token.specs.declared.terminal.Terminal.TheVariants as terminal
use Rattle.rt_token.specs.Terminals.{Kinds, after, front, maybe}
use Rattle.rt_token.specs.Readers.{Parser, both, list_of, made, optional, read_name, starts}
use Rattle.rt_token.proofs.CalmLemmas.{IsCalm}
use Rattle.rt_token.proofs.ManyLemmas.{bind-some, some-is}
use Rattle.rt_token.proofs.FrontLemmas.{Passed, after-sound, other-nat, passed-cons, passed-nil}
use Rattle.rt_token.proofs.Laws.{Lawful, both-law, either-sound, made-sound}
use Rattle.rt_token.proofs.ListLaws.{StepLaw, after-law, follows, list-law}
use Rattle.rt_tree.specs.declared.tree.Alias.{Alias}
use Rattle.rt_tree.specs.declared.tree.Item.{Item}
use Rattle.rt_tree.specs.declared.tree.Item.TheVariants as item
use Rattle.rt_tree.specs.declared.tree.Items.{Items}
use Rattle.rt_tree.specs.declared.tree.Items.TheVariants as items
use Rattle.rt_tree.specs.declared.tree.Leaf.{Leaf}
use Rattle.rt_tree.specs.declared.tree.Sum.{Sum}
use Rattle.rt_tree.specs.Spelled.{sign, spelled_alias, spelled_col, spelled_item, spelled_items, spelled_leaf, spelled_sum}
use Rattle.rt_tree.proofs.SpelledLemmas.{spelled-Col, spelled-Null, spelled-Number, spelled-Str, spelled-SumParen}
use Rattle.rt_tree.specs.Reads.{is_alias, is_all, item_step, one_of, read_alias, read_all, read_item, read_items, read_star, some_of, sum_at}
use Rattle.rt_tree.proofs.SumLaws.{a-name, leaf-cases, maybe-alias-front, maybe-alias-law, not-front, starts_sum, sum-at-law, sum-front, sum-start}

-- a sum before anything but a dot is not a name, a dot and a star
col-not-all : (q : Option Name) (n : Name) (more : Kinds) → 2 ≤ front more → is_all (spelled_col q n ++ more) ≡ false
col-not-all None n more h = rw (other-nat (front more) 1 (λ e. omega arith)) refl
col-not-all (Some q) n more h = refl

leaf-not-all : (l : Leaf) (more : Kinds) → 2 ≤ front more → is_all (spelled_leaf l ++ more) ≡ false
leaf-not-all = leaf-cases (λ l. (more : Kinds) → 2 ≤ front more → is_all (spelled_leaf l ++ more) ≡ false)
    (λ k more h. rw spelled-Number refl) (λ t more h. rw spelled-Str refl) (λ more h. rw spelled-Null refl) (λ q n more h. rw (spelled-Col q n) (col-not-all q n more h)) (λ s more h. rw spelled-SumParen refl)

sign-follows : (b : Bool) (ks : Kinds) → 2 ≤ front (terminal.Fixed (sign b) ∷ ks)
sign-follows true ks = omega arith
sign-follows false ks = omega arith

sum-not-all : (x : Sum) (more : Kinds) → 2 ≤ front more → is_all (spelled_sum x ++ more) ≡ false
sum-not-all x more h = sum-start (λ ks. is_all ks ≡ false) (λ ks. 2 ≤ front ks) (length (spelled_sum x)) (record {
  leaf = λ l ks m q. leaf-not-all l ks q;
  minus = λ ks. refl;
  then_star = λ ks. omega arith;
  then_sign = sign-follows;
}) x more (omega arith) h

all-sound : (ks : Kinds) (q : Item × Kinds) → read_all ks ≡ Some q → ks ≡ spelled_item q.0 ++ q.1
all-sound ks q e =
    let n = bind-some (read_name ks) _ q e in
    let d = bind-some (after fixed.Dot n.0.1) _ q n.2 in
    let s = bind-some (after fixed.Star d.0) _ q d.2 in
    let h : (item.All n.0.0, s.0) ≡ q = some-is _ _ s.2 in
    subst (λ (q : Item × Kinds). ks ≡ spelled_item q.0 ++ q.1) h
    ((a-name 0).sound ks n.0 n.1 ∙ ap (λ (t : Kinds). terminal.Name n.0.0 ∷ t) (after-sound fixed.Dot n.0.1 d.0 d.1 ∙ ap (λ (t : Kinds). terminal.Fixed fixed.Dot ∷ t) (after-sound fixed.Star d.0 s.0 s.1)))

abbrev read_one : Parser (Sum × Option Alias)
read_one = both sum_at (optional is_alias read_alias)

abbrev spelled_one : Sum × Option Alias → Kinds
spelled_one x = spelled_sum x.0 ++ maybe spelled_alias x.1

one-law : (n : ℕ) → Lawful true read_one spelled_one n 24
one-law n = both-law sum_at (optional is_alias read_alias) spelled_sum (maybe spelled_alias) n 5 24 (sum-at-law n) (maybe-alias-law n)
    (λ a rest f. omega (arith, maybe-alias-front a rest f))

item-reads : (n : ℕ) (x : Item) (rest : Kinds) → length (spelled_item x) < n → 24 ≤ front rest → read_item (spelled_item x ++ rest) ≡ Some (x, rest)
unfolding read_item read_name
item-reads n (item.All m) rest h f = refl
item-reads n (item.One s a) rest h f =
    let one = (one-law n).reads (s, a) rest h f in
    let other : is_all ((spelled_sum s ++ maybe spelled_alias a) ++ rest) ≡ false =
    rw (append_assoc (spelled_sum s) (maybe spelled_alias a) rest) (sum-not-all s (maybe spelled_alias a ++ rest) (omega (arith, maybe-alias-front a rest f))) in
    rw (other, one) refl

item-passed : (n : ℕ) (x : Item) → length (spelled_item x) < n → Passed (spelled_item x)
item-passed n (item.All m) h = passed-cons (terminal.Name m) _ (λ e. omega arith) (λ e. omega arith) (passed-cons (terminal.Fixed fixed.Dot) _ (λ e. omega arith) (λ e. omega arith) (passed-cons (terminal.Fixed fixed.Star) [] (λ e. omega arith) (λ e. omega arith) passed-nil))
item-passed n (item.One s a) h = (one-law n).passed refl (s, a) h

item-calm : (n : ℕ) (x : Item) (rest : Kinds) → length (spelled_item x) < n → 24 ≤ front rest → IsCalm rest → IsCalm (spelled_item x ++ rest)
item-calm n (item.All m) rest h f k = k
item-calm n (item.One s a) rest h f k = (one-law n).calm refl (s, a) rest h f k

pub item-law : (n : ℕ) → Lawful true read_item spelled_item n 24
unfolding read_item
item-law n = record {
  sound = either-sound is_all read_all (made one_of read_one) spelled_item all-sound (made-sound read_one one_of spelled_one spelled_item (one-law n).sound (λ x. refl));
  reads = item-reads n;
  passed = λ s. item-passed n;
  calm = λ s. item-calm n;
}

item-front : (c : ℕ) → starts_sum c ≡ false → (c ≡ 23 → ⊥) → (x : Item) (rest : Kinds) → front (spelled_item x ++ rest) ≡ c → ⊥
item-front c e n (item.All m) rest h = n (sym h)
item-front c e n (item.One s a) rest h =
    not-front starts_sum (front (spelled_sum s ++ (maybe spelled_alias a ++ rest))) c (sum-front s (maybe spelled_alias a ++ rest)) e (rw append_assoc at h)

-- ---- all items

abbrev comma_item : Item → Kinds
comma_item x = terminal.Fixed fixed.Comma ∷ spelled_item x

pub item-step-law : (n : ℕ) → StepLaw true item_step comma_item n 24 29
item-step-law n = after-law fixed.Comma read_item spelled_item n 24 (item-law n) (λ e. omega arith) (λ e. omega arith) (omega arith)

abbrev read_some : Parser (Item × List Item)
read_some = both read_item (list_of item_step)

abbrev spelled_some : Item × List Item → Kinds
spelled_some x = spelled_item x.0 ++ flat_map comma_item x.1

some-law : (n : ℕ) → Lawful true read_some spelled_some n 29
some-law n = both-law read_item (list_of item_step) spelled_item (flat_map comma_item) n 24 29 (item-law n) (list-law item_step comma_item n 24 29 (item-step-law n))
    (λ is rest f. follows comma_item 24 (item-step-law n).starts is rest (omega arith))

star-sound : (ks : Kinds) (q : Items × Kinds) → read_star ks ≡ Some q → ks ≡ spelled_items q.0 ++ q.1
star-sound ks q e =
    let a = bind-some (after fixed.Star ks) _ q e in
    let h : (items.Star, a.0) ≡ q = some-is _ _ a.2 in
    subst (λ (q : Items × Kinds). ks ≡ spelled_items q.0 ++ q.1) h (after-sound fixed.Star ks a.0 a.1)

items-reads : (n : ℕ) (x : Items) (rest : Kinds) → length (spelled_items x) < n → 29 ≤ front rest → read_items (spelled_items x ++ rest) ≡ Some (x, rest)
unfolding read_items
items-reads n items.Star rest h f = refl
items-reads n (items.Some i is) rest h f =
    let one = (some-law n).reads (i, is) rest h f in
    let other : starts fixed.Star ((spelled_item i ++ flat_map comma_item is) ++ rest) ≡ false =
    rw (append_assoc (spelled_item i) (flat_map comma_item is) rest) (other-nat (front (spelled_item i ++ (flat_map comma_item is ++ rest))) 2 (item-front 2 refl (λ e. omega arith) i (flat_map comma_item is ++ rest))) in
    rw (other, one) refl

items-passed : (n : ℕ) (x : Items) → length (spelled_items x) < n → Passed (spelled_items x)
items-passed n items.Star h = passed-cons (terminal.Fixed fixed.Star) [] (λ e. omega arith) (λ e. omega arith) passed-nil
items-passed n (items.Some i is) h = (some-law n).passed refl (i, is) h

items-calm : (n : ℕ) (x : Items) (rest : Kinds) → length (spelled_items x) < n → 29 ≤ front rest → IsCalm rest → IsCalm (spelled_items x ++ rest)
items-calm n items.Star rest h f k = k
items-calm n (items.Some i is) rest h f k = (some-law n).calm refl (i, is) rest h f k

pub items-law : (n : ℕ) → Lawful true read_items spelled_items n 29
unfolding read_items
items-law n = record {
  sound = either-sound (starts fixed.Star) read_star (made some_of read_some) spelled_items star-sound (made-sound read_some some_of spelled_some spelled_items (some-law n).sound (λ x. refl));
  reads = items-reads n;
  passed = λ s. items-passed n;
  calm = λ s. items-calm n;
}

-- items do not begin with DISTINCT
pub items-front : (x : Items) (rest : Kinds) → front (spelled_items x ++ rest) ≡ 39 → ⊥
items-front items.Star rest h = omega arith
items-front (items.Some i is) rest h = item-front 39 refl (λ e. omega arith) i (flat_map comma_item is ++ rest) (rw append_assoc at h)
