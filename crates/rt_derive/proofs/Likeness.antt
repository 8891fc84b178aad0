-- Of lines with the same literals the same is left.
use Rattle.std.proofs.Common.{◌≡◌, Bool, true, false, not, ◌&&◌, List, [], ◌∷◌, refl, sym, ap, ap₂, ◌∙◌, subst, inl, inr, arith, Option, Some, None}
use Rattle.std.specs.List.{list_all}
use Rattle.rt_clause.specs.Literal.{Literal, lit_eq}
use Rattle.rt_clause.specs.Lists.{has, is_false, left, line_at}
use Rattle.rt_clause.proofs.Bools.{bool-cases}
use Rattle.rt_clause.proofs.Literals.{has-head, has-tail, lit_eq-same, lit_eq-refl}
use Rattle.rt_derive.proofs.Spending.{all-same}
use Rattle.rt_derive.specs.Alike.{Alike}
use Rattle.rt_derive.specs.Remaining.{IsRest}
use Rattle.rt_derive.specs.declared.checker.Rest.{Rest}
use Rattle.rt_derive.specs.declared.checker.Rest.TheVariants.{Nothing, One, Several}

has-left : (set c : List Literal) (l : Literal) → has (left set c) l ≡ (has c l && not (is_false set l))
has-left set [] l = refl
has-left set (x ∷ c) l = elim (bool-cases (is_false set x)) [
  | inl f ↦ rw f (has-left set c l ∙ elim (bool-cases (lit_eq l x)) [
    | inl e ↦ let g : is_false set l ≡ true = ap (is_false set) (lit_eq-same l x e) ∙ f in rw (e, g) (both_false (has c l))
    | inr e ↦ rw e refl
  ])
  | inr f ↦ rw f (elim (bool-cases (lit_eq l x)) [
    | inl e ↦ let g : is_false set l ≡ false = ap (is_false set) (lit_eq-same l x e) ∙ f in rw (e, g) refl
    | inr e ↦ rw e (has-left set c l)
  ])
] where
  both_false : (b : Bool) → (b && false) ≡ false
  both_false true = refl
  both_false false = refl

left-alike : (set a b : List Literal) → Alike a b → Alike (left set a) (left set b)
left-alike set a b h l = has-left set a l ∙ ap (λ x. x && not (is_false set l)) (h l) ∙ sym (has-left set b l)

all-from : (k : Literal) (xs : List Literal) → ((x : Literal) → has xs x ≡ true → x ≡ k) → list_all (lit_eq k) xs ≡ true
all-from k [] h = refl
all-from k (x ∷ xs) h = let e : lit_eq k x ≡ true = subst (λ j. lit_eq k j ≡ true) (sym (h x (has-head x xs))) (lit_eq-refl k) in
    rw e (all-from k xs (λ y t. h y (has-tail x y xs t)))

rest-moves : (xs ys : List Literal) → Alike xs ys → (r : Rest) → IsRest xs r → IsRest ys r
rest-moves xs [] h Nothing e = refl
rest-moves xs (y ∷ ys) h Nothing e = absurd (let f : has [] y ≡ true = subst (λ (zs : List Literal). has zs y ≡ true) e (h y ∙ has-head y ys) in cc)
rest-moves xs [] h (One l) m = absurd (let f : has [] l ≡ true = sym (h l) ∙ subst (λ (zs : List Literal). has zs l ≡ true) (sym m.1) (has-head l m.0) in cc)
rest-moves xs (y ∷ ys) h (One l) m = (ys, ap (λ k. k ∷ ys) (only y (has-head y ys)), all-from l ys (λ x t. only x (has-tail y x ys t))) where
  only : (x : Literal) → has (y ∷ ys) x ≡ true → x ≡ l
  only x t = all-same l m.0 x m.2 (subst (λ (zs : List Literal). has zs x ≡ true) m.1 (h x ∙ t))
rest-moves xs [] h Several m = absurd (let f : has [] m.0 ≡ true = sym (h m.0) ∙ subst (λ (zs : List Literal). has zs m.0 ≡ true) (sym m.2) (has-head m.0 m.1) in cc)
rest-moves xs (y ∷ ys) h Several m = (y, ys, refl, elim (bool-cases (list_all (lit_eq y) ys)) [ inl t ↦ absurd (never t) | inr f ↦ f ]) where
  never : list_all (lit_eq y) ys ≡ true → ⊥
  never t =
      let there : (x : Literal) → has (m.0 ∷ m.1) x ≡ true → x ≡ y = λ x s. all-same y ys x t (sym (h x) ∙ subst (λ (zs : List Literal). has zs x ≡ true) (sym m.2) s) in
      let first : m.0 ≡ y = there m.0 (has-head m.0 m.1) in
      let every : list_all (lit_eq m.0) m.1 ≡ true = all-from m.0 m.1 (λ x s. there x (has-tail m.0 x m.1 s) ∙ sym first) in
      cc (m.3, every)

pub rest-alike : (set a b : List Literal) → Alike a b → (r : Rest) → IsRest (left set a) r → IsRest (left set b) r
rest-alike set a b h r m = rest-moves (left set a) (left set b) (left-alike set a b h) r m
