-- A text is cut at a byte in one way.
use Rattle.std.proofs.Common.{◌≡◌, ◌≢◌, ◌+◌, ℕ, length, take, drop, take-append-drop, true, false, Option, Some, None, [], ◌∷◌, ◌++◌, refl, sym, ap, ◌∙◌, subst}
use Rattle.std.specs.Prelude.{MatchOption, nat_eq}
use lib.Pointwise.{pointwise}
use Rattle.std.specs.Cmp.Lexicographic.{other_text, same_text}
use Rattle.std.specs.List.{AllByRecursion as Each}
use Rattle.rt_recorder.specs.Certificate.{Text}
use Rattle.rt_recorder.specs.Reading.{IsAhead}

pub head-same : (x y : ℕ) (xs ys : Text) → x ∷ xs ≡ y ∷ ys → x ≡ y
head-same x y xs ys e = cc

tail-same : (x y : ℕ) (xs ys : Text) → x ∷ xs ≡ y ∷ ys → xs ≡ ys
tail-same x y xs ys e = cc

pub cut-same : (at : ℕ) (f b g c : Text) → f ++ b ≡ g ++ c → Each (λ x. x ≢ at) f → IsAhead at b → Each (λ x. x ≢ at) g → IsAhead at c → (f ≡ g) × (b ≡ c)
cut-same at [] b [] c e ff ab fg ac = (refl, e)
cut-same at [] b (y ∷ g) c e ff ab fg ac = absurd (fg.0 (subst (IsAhead at) e ab))
cut-same at (x ∷ f) b [] c e ff ab fg ac = absurd (ff.0 (subst (IsAhead at) (sym e) ac))
cut-same at (x ∷ f) b (y ∷ g) c e ff ab fg ac =
    let r = cut-same at f b g c (tail-same x y (f ++ b) (g ++ c) e) ff.1 ab fg.1 ac in
    let h = head-same x y (f ++ b) (g ++ c) e in
    (cc, r.1)

pub free-append : (P : ℕ → Type 0) (f g : Text) → Each P f → Each P g → Each P (f ++ g)
free-append P [] g ff fg = fg
free-append P (x ∷ f) g ff fg = (ff.0, free-append P f g ff.1 fg)

snoc-cons : (x : ℕ) (f : Text) (b : ℕ) → f ++ b ∷ [] ≡ [] → ⊥
snoc-cons x [] b e = absurd (cc)
snoc-cons x (y ∷ f) b e = absurd (cc)

-- without their last byte, which is the same, they are the same
pub front-same : (f g : Text) (b : ℕ) → f ++ b ∷ [] ≡ g ++ b ∷ [] → f ≡ g
front-same [] [] b e = refl
front-same [] (y ∷ g) b e = absurd (snoc-cons y g b (sym (tail-same b y [] (g ++ b ∷ []) e)))
front-same (x ∷ f) [] b e = absurd (snoc-cons x f b (tail-same x b (f ++ b ∷ []) [] e))
front-same (x ∷ f) (y ∷ g) b e =
    let t = front-same f g b (tail-same x y (f ++ b ∷ []) (g ++ b ∷ []) e) in
    let h = head-same x y (f ++ b ∷ []) (g ++ b ∷ []) e in
    cc

-- ---- what begins with another text

pub take-front : (front text : Text) → take (length front) (front ++ text) ≡ front
take-front [] text = refl
take-front (x ∷ front) text = ap (λ (t : Text). x ∷ t) (take-front front text)

after-none : (text front : Text) → pointwise nat_eq (take (length front) text) front ≡ false → (rest : Text) → text ≡ front ++ rest → ⊥
after-none text front e rest is =
    let same : take (length front) text ≡ front = ap (λ (t : Text). take (length front) t) is ∙ take-front front rest in
    other_text (take (length front) text) front (sym e) same

pub after-cases : {R : Type 0} (now : R → Text) (text front : Text) (o : Option R)
    → MatchOption o (pointwise nat_eq (take (length front) text) front ≡ false) (λ x. (pointwise nat_eq (take (length front) text) front ≡ true) × (now x ≡ drop (length front) text) × (length (now x) + length front ≡ length text))
    → MatchOption o ((rest : Text) → text ≡ front ++ rest → ⊥) (λ x. text ≡ front ++ now x)
after-cases now text front None e = after-none text front e
after-cases now text front (Some x) e =
    let same : take (length front) text ≡ front = same_text (take (length front) text) front (sym e.0) in
    sym (take-append-drop (length front) text) ∙ ap (λ (t : Text). t ++ drop (length front) text) same ∙ ap (λ (t : Text). front ++ t) (sym e.1)
