-- Lists with the same rows.
use Rattle.std.proofs.Common.{◌≡◌, suc, Bool, true, false, cond, ◌&&◌, ◌||◌, List, [], ◌∷◌, refl, sym, ap, ap₂, arith, ◌∙◌}
use Rattle.std.specs.List.{list_all, list_any}
use Rattle.rt_value.specs.declared.value.Value.{Value}
use Rattle.rt_value.specs.Row.{row_eq}
use Rattle.rt_value.specs.Order.{row_ties, row_eq_equiv}
use Rattle.rt_schema.specs.Given.{Rows}
use Rattle.rt_algebra.specs.Answer.{has_row, same_rows}
use Rattle.rt_formula.specs.Shared.{Shared, IsGrown}
use Rattle.rt_formula.proofs.Meaning.{val-grown}
use Rattle.rt_noted.specs.Ann.{Mapped, AreOf, rows_of}
use Rattle.rt_noted.specs.Annotated.{SameRows}
use Rattle.rt_formula.proofs.GroupLemmas.{at_same}
use Rattle.rt_noted.proofs.Growing.{longer}

pub eq_same : (r x : List Value) → row_eq r x ≡ true → r ≡ x
eq_same r x h = at_same r x (sym (row_ties r x) ∙ h)

each_true : (p : List Value → Bool) (xs : Rows) → list_all p xs ≡ true → (r : List Value) → has_row xs r ≡ true → p r ≡ true
each_true p [] h r e = absurd (cc)
each_true p (x ∷ xs) h r e = go (p x) refl h (row_eq r x) refl e (λ k g. each_true p xs k r g) where
  go : (b : Bool) → p x ≡ b → (b && list_all p xs) ≡ true → (t : Bool) → row_eq r x ≡ t → (t || has_row xs r) ≡ true → (list_all p xs ≡ true → has_row xs r ≡ true → p r ≡ true) → p r ≡ true
  go true q k true u g rest = ap p (eq_same r x u) ∙ q
  go true q k false u g rest = rest k g
  go false q k t u g rest = absurd (cc)

or_true : (b : Bool) → (b || true) ≡ true
or_true true = refl
or_true false = refl

first_has : (x : List Value) (xs : Rows) → has_row (x ∷ xs) x ≡ true
first_has x xs = ap (λ b. b || has_row xs x) (row_eq_equiv.refl x)

more_has : (x : List Value) (xs : Rows) (r : List Value) → has_row xs r ≡ true → has_row (x ∷ xs) r ≡ true
more_has x xs r e = ap (λ b. row_eq r x || b) e ∙ or_true (row_eq r x)

all_true : (p : List Value → Bool) (xs : Rows) → ((r : List Value) → has_row xs r ≡ true → p r ≡ true) → list_all p xs ≡ true
all_true p [] h = refl
all_true p (x ∷ xs) h =
    let here : p x ≡ true = h x (first_has x xs) in
    let rest : list_all p xs ≡ true = all_true p xs (λ r e. h r (more_has x xs r e)) in
    ap₂ ◌&&◌ here rest

all_same : (p q : List Value → Bool) (xs ys : Rows) → ((r : List Value) → p r ≡ q r) → SameRows xs ys → list_all p xs ≡ true → list_all q ys ≡ true
all_same p q xs ys e s h = all_true q ys (λ r g. sym (e r) ∙ each_true p xs h r (s r ∙ g))

bools : (a b : Bool) → (a ≡ true → b ≡ true) → (b ≡ true → a ≡ true) → a ≡ b
bools true b f g = sym (f refl)
bools false true f g = g refl
bools false false f g = refl

pub all_is : (p q : List Value → Bool) (xs ys : Rows) → ((r : List Value) → p r ≡ q r) → SameRows xs ys → list_all p xs ≡ list_all q ys
all_is p q xs ys e s = bools (list_all p xs) (list_all q ys) (all_same p q xs ys e s) (all_same q p ys xs (λ r. sym (e r)) (λ r. sym (s r)))

-- a test that some row passes
any_has : (p : List Value → Bool) (xs : Rows) (r : List Value) → has_row xs r ≡ true → p r ≡ true → list_any p xs ≡ true
any_has p [] r h q = absurd (cc)
any_has p (x ∷ xs) r h q = go (row_eq r x) refl h (any_has p xs r) where
  go : (b : Bool) → row_eq r x ≡ b → (b || has_row xs r) ≡ true → (has_row xs r ≡ true → p r ≡ true → list_any p xs ≡ true) → (p x || list_any p xs) ≡ true
  go true e g rest = ap (λ b. b || list_any p xs) (ap p (sym (eq_same r x e)) ∙ q)
  go false e g rest = ap (λ b. p x || b) (rest g q) ∙ or_true (p x)

any_among : (p : List Value → Bool) (xs ys : Rows) → ((r : List Value) → has_row xs r ≡ true → has_row ys r ≡ true) → list_any p xs ≡ true → list_any p ys ≡ true
any_among p [] ys h e = absurd (cc)
any_among p (x ∷ xs) ys h e = go (p x) refl e (any_among p xs ys (λ r g. h r (more_has x xs r g))) where
  go : (b : Bool) → p x ≡ b → (b || list_any p xs) ≡ true → (list_any p xs ≡ true → list_any p ys ≡ true) → list_any p ys ≡ true
  go true q g rest = any_has p ys x (h x (first_has x xs)) q
  go false q g rest = rest g

pub any_is : (p : List Value → Bool) (xs ys : Rows) → SameRows xs ys → list_any p xs ≡ list_any p ys
any_is p xs ys s = bools (list_any p xs) (list_any p ys) (any_among p xs ys (λ r g. sym (s r) ∙ g)) (any_among p ys xs (λ r g. s r ∙ g))

pub same_rows_is : (us vs xs ys : Rows) → SameRows us xs → SameRows vs ys → same_rows us vs ≡ same_rows xs ys
same_rows_is us vs xs ys s t = ap₂ ◌&&◌ (all_is (has_row vs) (has_row ys) us xs t s) (all_is (has_row us) (has_row xs) vs ys s t)

-- a map's rows stay as the Dag grows
module _ {old now : Shared} (g : IsGrown old now) where
  pub mapped_stay : (a : Mapped) → AreOf old a → AreOf now a
  mapped_stay a b k p l = let m = longer g in let h = b k p l in omega arith

  pub rows_stay : (s : List Bool) (a : Mapped) → AreOf old a → rows_of now s a ≡ rows_of old s a
  rows_stay s [] b = refl
  rows_stay s (p ∷ a) b =
      ap₂ (λ (v : Bool) (rs : Rows). cond v (p.0 ∷ rs) rs) (val-grown old now g s p.1 (b 0 p (omega arith))) (rows_stay s a (λ k q l. b (suc k) q (omega arith)))
