-- Gates whose children are left out one by one.
use Rattle.std.proofs.Common.{◌≡◌, ℕ, zero, suc, ◌+◌, ◌<◌, Bool, true, false, not, ◌&&◌, ◌||◌, List, [], ◌∷◌, ◌++◌, length, take, get_or, refl, sym, ap, subst, arith, ◌∙◌, nat_eq, rules}
use Rattle.std.proofs.lemmas.List.{take_more}
use Rattle.std.proofs.lemmas.List.Folds.{list_all-append, list_any-append}
use Rattle.std.proofs.lemmas.List.Elements.{All-append}
use Rattle.std.specs.List.{list_all, list_any, All as Each}
use Rattle.std.specs.Bool.{if◌then◌else◌}
use Rattle.rt_formula.specs.declared.gather.Gate.{Gate}
use Rattle.rt_formula.specs.declared.gather.Gate.TheVariants as gate
use Rattle.rt_formula.specs.Gathering.{has_node, with_node, gate_value, deciding}

-- the value of a gate with one more child
joined : Gate → Bool → Bool → Bool
joined gate.All a b = a && b
joined gate.Any a b = a || b

and-true : (b : Bool) → (b && true) ≡ b
and-true = elim [ true ↦ refl | false ↦ refl ]

or-false : (b : Bool) → (b || false) ≡ b
or-false = elim [ true ↦ refl | false ↦ refl ]

snoc : (g : Gate) (p : ℕ → Bool) (xs : List ℕ) (a : ℕ) → gate_value g p (xs ++ a ∷ []) ≡ joined g (gate_value g p xs) (p a)
unfolding joined
snoc gate.All p xs a = list_all-append p xs (a ∷ []) ∙ ap (λ b. list_all p xs && b) (and-true (p a))
snoc gate.Any p xs a = list_any-append p xs (a ∷ []) ∙ ap (λ b. list_any p xs || b) (or-false (p a))

more : (g : Gate) (p : ℕ → Bool) (xs : List ℕ) (i a : ℕ) → i < length xs → a ≡ get_or xs i a → gate_value g p (take (i + 1) xs) ≡ joined g (gate_value g p (take i xs)) (p a)
more g p xs i a h e = ap (gate_value g p) (take_more xs i a h) ∙ ap (λ v. gate_value g p (take i xs ++ v ∷ [])) (sym e) ∙ snoc g p (take i xs) a

neutral : (g : Gate) (a b : Bool) → b ≡ not (deciding g) → joined g a b ≡ a
unfolding joined
neutral gate.All a b e = ap (λ x. a && x) e ∙ and-true a
neutral gate.Any a b e = ap (λ x. a || x) e ∙ or-false a

-- a child of the other value changes nothing
pub keeps-neutral : (g : Gate) (p : ℕ → Bool) (ks xs : List ℕ) (i a : ℕ) → i < length xs → a ≡ get_or xs i a → p a ≡ not (deciding g) → gate_value g p ks ≡ gate_value g p (take i xs)
    → gate_value g p ks ≡ gate_value g p (take (i + 1) xs)
keeps-neutral g p ks xs i a h e t s = s ∙ sym (more g p xs i a h e ∙ neutral g (gate_value g p (take i xs)) (p a) t)

-- a child that is there already changes nothing
absorbed : (g : Gate) (p : ℕ → Bool) (ks : List ℕ) (a : ℕ) → has_node ks a ≡ true → joined g (gate_value g p ks) (p a) ≡ gate_value g p ks
unfolding joined
absorbed g p [] a h = absurd (cc)
absorbed g p (k ∷ ks) a h = first g (λ f. absorbed g p ks a f) (nat_eq a k) refl h where
  all_again : (x y : Bool) → ((x && y) && x) ≡ (x && y)
  all_again true y = and-true y
  all_again false y = refl

  all_older : (x y z w : Bool) → (y && z) ≡ w → ((x && y) && z) ≡ (x && w)
  all_older true y z w q = q
  all_older false y z w q = refl

  any_again : (x y : Bool) → ((x || y) || x) ≡ (x || y)
  any_again true y = refl
  any_again false y = or-false y

  any_older : (x y z w : Bool) → (y || z) ≡ w → ((x || y) || z) ≡ (x || w)
  any_older true y z w q = refl
  any_older false y z w q = q

  first : (g : Gate) → (has_node ks a ≡ true → joined g (gate_value g p ks) (p a) ≡ gate_value g p ks) → (b : Bool) → nat_eq a k ≡ b → (b || has_node ks a) ≡ true
      → joined g (gate_value g p (k ∷ ks)) (p a) ≡ gate_value g p (k ∷ ks)
  first gate.All older true q f = (let e : k ≡ a = search rules in let P : ℕ → Type 0 = λ j. ((p k && list_all p ks) && p j) ≡ (p k && list_all p ks) in subst P e (all_again (p k) (list_all p ks)))
  first gate.All older false q f = all_older (p k) (list_all p ks) (p a) (list_all p ks) (older f)
  first gate.Any older true q f = (let e : k ≡ a = search rules in let P : ℕ → Type 0 = λ j. ((p k || list_any p ks) || p j) ≡ (p k || list_any p ks) in subst P e (any_again (p k) (list_any p ks)))
  first gate.Any older false q f = any_older (p k) (list_any p ks) (p a) (list_any p ks) (older f)

joined-with : (g : Gate) (p : ℕ → Bool) (ks : List ℕ) (a : ℕ) (b : Bool) → has_node ks a ≡ b → gate_value g p (if b then ks else ks ++ a ∷ []) ≡ joined g (gate_value g p ks) (p a)
joined-with g p ks a true h = sym (absorbed g p ks a h)
joined-with g p ks a false h = snoc g p ks a

-- a child that is put among the kept ones
pub keeps-put : (g : Gate) (p : ℕ → Bool) (ks xs : List ℕ) (i a : ℕ) → i < length xs → a ≡ get_or xs i a → gate_value g p ks ≡ gate_value g p (take i xs)
    → gate_value g p (with_node ks a) ≡ gate_value g p (take (i + 1) xs)
keeps-put g p ks xs i a h e s = joined-with g p ks a (has_node ks a) refl ∙ ap (λ b. joined g b (p a)) s ∙ sym (more g p xs i a h e)

-- and one that is there by its number
member-all : (p : ℕ → Bool) (xs : List ℕ) (a : ℕ) → has_node xs a ≡ true → p a ≡ false → list_all p xs ≡ false
member-all p [] a h f = absurd (cc)
member-all p (x ∷ xs) a h f = by (λ g. member-all p xs a g f) (nat_eq a x) refl h where
  none : (b : Bool) → (b && false) ≡ false
  none = elim [ true ↦ refl | false ↦ refl ]

  by : (has_node xs a ≡ true → list_all p xs ≡ false) → (b : Bool) → nat_eq a x ≡ b → (b || has_node xs a) ≡ true → (p x && list_all p xs) ≡ false
  by older true q g = (let e : a ≡ x = search rules in let r : p x ≡ false = ap p (sym e) ∙ f in rw r refl)
  by older false q g = (let r = older g in rw r (none (p x)))

member-any : (p : ℕ → Bool) (xs : List ℕ) (a : ℕ) → has_node xs a ≡ true → p a ≡ true → list_any p xs ≡ true
member-any p [] a h f = absurd (cc)
member-any p (x ∷ xs) a h f = by (λ g. member-any p xs a g f) (nat_eq a x) refl h where
  whole : (b : Bool) → (b || true) ≡ true
  whole = elim [ true ↦ refl | false ↦ refl ]

  by : (has_node xs a ≡ true → list_any p xs ≡ true) → (b : Bool) → nat_eq a x ≡ b → (b || has_node xs a) ≡ true → (p x || list_any p xs) ≡ true
  by older true q g = (let e : a ≡ x = search rules in let r : p x ≡ true = ap p (sym e) ∙ f in rw r refl)
  by older false q g = (let r = older g in rw r (whole (p x)))

-- two children that are never equal decide a gate of either kind
pub contrary-decides : (g : Gate) (p : ℕ → Bool) (xs : List ℕ) (a b : ℕ) → has_node xs a ≡ true → has_node xs b ≡ true → p a ≡ not (p b) → gate_value g p xs ≡ deciding g
contrary-decides gate.All p xs a b h k c = by (p b) refl where
  by : (v : Bool) → p b ≡ v → list_all p xs ≡ false
  by true e = member-all p xs a h (c ∙ ap not e)
  by false e = member-all p xs b k e
contrary-decides gate.Any p xs a b h k c = by (p b) refl where
  by : (v : Bool) → p b ≡ v → list_any p xs ≡ true
  by true e = member-any p xs b k e
  by false e = member-any p xs a h (c ∙ ap not e)

-- kept children are nodes
pub each-put : (n : ℕ) (ks : List ℕ) (a : ℕ) → Each (λ k. k < n) ks → a < n → Each (λ k. k < n) (with_node ks a)
each-put n ks a h b = by (has_node ks a) where
  one : (k d : ℕ) → k < length (a ∷ []) → get_or (a ∷ []) k d < n
  one zero d g = b
  one (suc k) d g = absurd (omega arith)

  by : (v : Bool) → Each (λ k. k < n) (if v then ks else ks ++ a ∷ [])
  by true = h
  by false = All-append (λ k. k < n) ks (a ∷ []) h one

-- a child at a place is there
pub has-at : (xs : List ℕ) (i a : ℕ) → i < length xs → a ≡ get_or xs i a → has_node xs a ≡ true
has-at [] i a h e = absurd (omega arith)
has-at (x ∷ xs) zero a h e = (let q : nat_eq a x ≡ true = search rules in rw q refl)
has-at (x ∷ xs) (suc i) a h e = (let r = has-at xs i a (omega arith) e in rw r (whole (nat_eq a x))) where
  whole : (b : Bool) → (b || true) ≡ true
  whole = elim [ true ↦ refl | false ↦ refl ]
