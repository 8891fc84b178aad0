-- The lists of watches, as the code keeps them.
use Rattle.std.proofs.Common.{◌≡◌, ℕ, ◌-◌, ◌<◌, ◌≤◌, true, nat_eq, inl, inr, List, [], length, map, take, get_or, set, sym, ap, subst, ◌∙◌, arith, rules, length-set, get_or-set_same, get_or-set_other}
use Rattle.std.specs.List.{swap_remove}
use Rattle.std.proofs.Math.Seq.{map-set_same}
use Rattle.rt_clause.specs.Literal.{Literal}
use Rattle.rt_clause.proofs.Bools.{bool-cases}
use Rattle.std.proofs.lemmas.List.{length-map, map-set, get_or-map, get_or_default}
use Rattle.rt_store.specs.Watching.{Listed, Lists, list_at, room_at, noted, IsEdited}

abbrev pub view_of : {V : Type 0} → List V → (V → List Listed) → (V → ℕ) → Lists
view_of vs f g = record { lists = map f vs; rooms = map g vs }

-- a list that is read
pub read-list : {V : Type 0} (vs : List V) (f : V → List Listed) (g : V → ℕ) (w : Lists) (k : ℕ) (v : V) → view_of vs f g ≡ w → k < length vs → v ≡ get_or vs k v → f v ≡ list_at w.lists k
read-list vs f g w k v e b r = sym (get_or-map f vs k v [] b ∙ ap f (sym r)) ∙ ap (λ x. list_at x.lists k) e

pub read-room : {V : Type 0} (vs : List V) (f : V → List Listed) (g : V → ℕ) (w : Lists) (k : ℕ) (v : V) → view_of vs f g ≡ w → k < length vs → v ≡ get_or vs k v → g v ≡ room_at w.rooms k
read-room vs f g w k v e b r = sym (get_or-map g vs k v 0 b ∙ ap g (sym r)) ∙ ap (λ x. room_at x.rooms k) e

-- there are as many as the contracts see
pub within-lists : {V : Type 0} (vs : List V) (f : V → List Listed) (g : V → ℕ) (w : Lists) (k : ℕ) → view_of vs f g ≡ w → k < length w.lists → k < length vs
within-lists vs f g w k e b = let l = length-map vs f in let q : length (map f vs) ≡ length w.lists = ap (λ x. length x.lists) e in omega (arith, l, q, b)

-- one list is replaced
pub set-list : {V : Type 0} (vs : List V) (f : V → List Listed) (g : V → ℕ) (k : ℕ) (v : V) → k < length vs → list_at (view_of (set vs k v) f g).lists k ≡ f v
set-list vs f g k v b = let l = length-map vs f in ap (λ x. list_at x k) (map-set f vs k v) ∙ get_or-set_same (map f vs) k (f v) [] (omega (arith, l, b))

pub set-room : {V : Type 0} (vs : List V) (f : V → List Listed) (g : V → ℕ) (k : ℕ) (v : V) → k < length vs → room_at (view_of (set vs k v) f g).rooms k ≡ g v
set-room vs f g k v b = let l = length-map vs g in ap (λ x. room_at x k) (map-set g vs k v) ∙ get_or-set_same (map g vs) k (g v) 0 (omega (arith, l, b))

pub edited : {V : Type 0} (vs : List V) (f : V → List Listed) (g : V → ℕ) (w : Lists) (k : ℕ) (v : V) → view_of vs f g ≡ w → IsEdited w (view_of (set vs k v) f g) k
edited vs f g w k v e = record {
  others = λ j n. ap (λ x. list_at x j) (map-set f vs k v) ∙ get_or-set_other (map f vs) k j (f v) [] n ∙ ap (λ x. list_at x.lists j) e;
  rooms = λ j n. (let q : room_at (map g (set vs k v)) j ≡ room_at w.rooms j = ap (λ x. room_at x j) (map-set g vs k v) ∙ get_or-set_other (map g vs) k j (g v) 0 n ∙ ap (λ x. room_at x.rooms j) e in omega (arith, q));
  len = ap length (map-set f vs k v) ∙ length-set (map f vs) k (f v) ∙ ap (λ x. length x.lists) e;
}

-- a list with the same entries and more room
pub same-lists : {V : Type 0} (vs : List V) (f : V → List Listed) (g : V → ℕ) (w : Lists) (k : ℕ) (u v : V) → view_of vs f g ≡ w → k < length vs → u ≡ get_or vs k u → f v ≡ f u → map f (set vs k v) ≡ w.lists
same-lists vs f g w k u v e b r s = map-set_same f vs k v u (s ∙ ap f r) ∙ ap (λ (x : Lists). x.lists) e

pub more-room : {V : Type 0} (vs : List V) (f : V → List Listed) (g : V → ℕ) (w : Lists) (k : ℕ) (u v : V) → view_of vs f g ≡ w → k < length vs → u ≡ get_or vs k u → g u ≤ g v → (j : ℕ) → room_at w.rooms j ≤ room_at (map g (set vs k v)) j
more-room vs f g w k u v e b r s j = elim (bool-cases (nat_eq j k)) [
  | inl y ↦ (let q : j ≡ k = search rules in
      let a = read-room vs f g w k u e b r in
      let z = set-room vs f g k v b in
      let P : ℕ → Type 0 = λ i. room_at w.rooms i ≤ room_at (map g (set vs k v)) i in
      subst P (sym q) (omega (arith, a, z, s)))
  | inr n ↦ (edited vs f g w k v e).rooms j (λ q. let z : nat_eq j k ≡ true = search rules in cc)
]

-- which default is read of a list with elements is all one
pub removed-any : (es : List Listed) (i : ℕ) (x y : Listed) → i < length es → swap_remove es i x ≡ swap_remove es i y
removed-any es i x y b = ap (λ e. take (length es - 1) (set es i e)) (get_or_default es (length es - 1) x y (omega (arith, b)))

-- the entry that is read at a place is noted with another literal
pub noted-one : (es old : List Listed) (i : ℕ) (e f n : Listed) (o : Literal) → es ≡ old → i < length old → f ≡ get_or es i f → e ≡ get_or old i e → n ≡ noted f o → set es i n ≡ set old i (noted e o)
noted-one es old i e f n o q b rf re s =
    let P : List Listed → Type 0 = λ xs. f ≡ get_or xs i f in
    let z : f ≡ e = subst P q rf ∙ get_or_default old i f e b ∙ sym re in
    ap (λ xs. set xs i n) q ∙ ap (set old i) (s ∙ ap (λ x. noted x o) z)
