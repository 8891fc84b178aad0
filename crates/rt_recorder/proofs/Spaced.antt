-- Pieces after spaces, read one after another.
use Rattle.std.proofs.Common.{◌≡◌, ◌≢◌, ◌<◌, ℕ, length, arith, List, [], ◌∷◌, ◌++◌, refl, sym, ap, ◌∙◌, subst, append_assoc, Some, None}
use Rattle.std.specs.Prelude.{◌==◌, Bool, false}
use Rattle.std.proofs.lemmas.Bool.Decides.{nat_tests}
use Rattle.std.specs.List.{AllByRecursion as Each}
use Rattle.rt_recorder.specs.Certificate.{Text, spaced}
use Rattle.rt_recorder.specs.Reading.{IsAhead, IsCut, Reads}
use Rattle.rt_recorder.proofs.Cuts.{cut-same}

-- the spelling of what fits has no space
abbrev pub IsFree : {X : Type 0} → (X → Type 0) → (X → Text) → Type 0
IsFree {X} Fits spell = (x : X) → Fits x → Each (λ b. b ≢ 32) (spell x)

pub spaced-ahead : {X : Type 0} (spell : X → Text) (xs : List X) → IsAhead 32 (spaced spell xs)
spaced-ahead spell [] = tt
spaced-ahead spell (x ∷ xs) = refl

pub spaced-append : {X : Type 0} (spell : X → Text) (xs : List X) (x : X) (rest : Text) → spaced spell xs ++ (32 ∷ (spell x ++ rest)) ≡ spaced spell (xs ++ x ∷ []) ++ rest
spaced-append spell [] x rest = ap (λ (t : Text). 32 ∷ t) (ap (λ (t : Text). t ++ rest) (sym (nil (spell x)))) where
  nil : (t : Text) → t ++ [] ≡ t
  nil [] = refl
  nil (b ∷ t) = ap (λ (s : Text). b ∷ s) (nil t)
spaced-append spell (y ∷ xs) x rest =
    ap (λ (t : Text). 32 ∷ t) (append_assoc (spell y) (spaced spell xs) (32 ∷ (spell x ++ rest)) ∙ ap (λ (t : Text). spell y ++ t) (spaced-append spell xs x rest)
    ∙ sym (append_assoc (spell y) (spaced spell (xs ++ x ∷ [])) rest))

-- one piece more is read
record IsPiece {X : Type 0} (Fits : X → Type 0) (spell : X → Text) (word behind : Text) : Type 0 where
  pub first : X
  pub others : List X
  pub fits : Fits first
  pub fit : Each Fits others
  pub is : word ≡ spell first
  pub more : behind ≡ spaced spell others

next-piece : {X : Type 0} (Fits : X → Type 0) (spell : X → Text) → IsFree Fits spell → (word behind : Text) (xs : List X) → Each (λ b. b ≢ 32) word → IsAhead 32 behind
    → Each Fits xs → 32 ∷ (word ++ behind) ≡ spaced spell xs → IsPiece Fits spell word behind
next-piece Fits spell free word behind [] fw ab f e = absurd (cc)
next-piece Fits spell free word behind (x ∷ xs) fw ab f e =
    let t : word ++ behind ≡ spell x ++ spaced spell xs = cc in
    let r = cut-same 32 word behind (spell x) (spaced spell xs) t fw ab (free x f.0) (spaced-ahead spell xs) in
    record { first = x; others = xs; fits = f.0; fit = f.1; is = r.0; more = r.1 }

-- of a text the pieces up to the rest are read, and if the whole is spelled, so is the rest
pub record IsAlong {X : Type 0} (Fits : X → Type 0) (spell : X → Text) (text : Text) (out : List X) (rest : Text) : Type 0 where
  pub parts : text ≡ spaced spell out ++ rest
  pub fit : Each Fits out
  pub onward : (xs : List X) → Each Fits xs → text ≡ spaced spell xs → (ys : List X) × Each Fits ys × (rest ≡ spaced spell ys)

each-snoc : {X : Type 0} (Fits : X → Type 0) (xs : List X) (x : X) → Each Fits xs → Fits x → Each Fits (xs ++ x ∷ [])
each-snoc Fits [] x f h = (h, tt)
each-snoc Fits (y ∷ xs) x f h = (f.0, each-snoc Fits xs x f.1 h)

pub along-more : {X : Type 0} (Fits : X → Type 0) (spell : X → Text) → IsFree Fits spell → (text : Text) (out : List X) (rest more word behind : Text) (x : X)
    → IsAlong Fits spell text out rest → rest ≡ 32 ∷ more → IsCut 32 more word behind → Reads Fits spell word (Some x) → IsAlong Fits spell text (out ++ x ∷ []) behind
along-more {X} Fits spell free text out rest more word behind x a e c r = record {
  parts = a.parts ∙ ap (λ (t : Text). spaced spell out ++ t) whole ∙ spaced-append spell out x behind;
  fit = each-snoc Fits out x a.fit r.0;
  onward = λ xs f g. let o = a.onward xs f g in let p = next-piece Fits spell free word behind o.0 c.free c.ahead o.1 (sym (e ∙ ap (λ (t : Text). 32 ∷ t) c.parts) ∙ o.2) in (p.others, p.fit, p.more);
} where
  whole : rest ≡ 32 ∷ (spell x ++ behind)
  whole = e ∙ ap (λ (t : Text). 32 ∷ t) (c.parts ∙ ap (λ (t : Text). t ++ behind) r.1)

pub along-no_piece : {X : Type 0} (Fits : X → Type 0) (spell : X → Text) → IsFree Fits spell → (text : Text) (out : List X) (rest more word behind : Text)
    → IsAlong Fits spell text out rest → rest ≡ 32 ∷ more → IsCut 32 more word behind → Reads Fits spell word None → Reads (Each Fits) (spaced spell) text None
along-no_piece Fits spell free text out rest more word behind a e c r xs f g =
    let o = a.onward xs f g in
    let p = next-piece Fits spell free word behind o.0 c.free c.ahead o.1 (sym (e ∙ ap (λ (t : Text). 32 ∷ t) c.parts) ∙ o.2) in
    r p.first p.fits p.is

spaced-not : {X : Type 0} (spell : X → Text) (rest : Text) (ys : List X) → rest ≡ spaced spell ys → 0 < length rest → ((more : Text) → rest ≡ 32 ∷ more → ⊥) → ⊥
spaced-not spell rest [] e n none = let z : length rest ≡ 0 = ap length e in absurd (omega arith)
spaced-not spell rest (y ∷ ys) e n none = none (spell y ++ spaced spell ys) e

pub along-no_space : {X : Type 0} (Fits : X → Type 0) (spell : X → Text) (text : Text) (out : List X) (rest : Text) → IsAlong Fits spell text out rest → 0 < length rest → ((more : Text) → rest ≡ 32 ∷ more → ⊥) → Reads (Each Fits) (spaced spell) text None
along-no_space Fits spell text out rest a n none xs f g = let o = a.onward xs f g in spaced-not spell rest o.0 o.2 n none

pub not-empty : (rest : Text) (b : Bool) → b ≡ (length rest == 0) → b ≡ false → 0 < length rest
not-empty rest b e f = grind (arith, nat_tests)

pub cut-at : (at : ℕ) (more front back : Text) → IsCut at more front back → (word behind : Text) → word ≡ front → behind ≡ back → IsCut at more word behind
cut-at at more front back c word behind e f = subst (λ (w : Text). IsCut at more w behind) (sym e) (subst (λ (b : Text). IsCut at more front b) (sym f) c)

-- what is spelled in one way is one
pub spaced-same : {X : Type 0} (Fits : X → Type 0) (spell : X → Text) → IsFree Fits spell → ((x y : X) → Fits x → Fits y → spell x ≡ spell y → x ≡ y)
    → (xs ys : List X) → Each Fits xs → Each Fits ys → spaced spell xs ≡ spaced spell ys → xs ≡ ys
spaced-same Fits spell free one [] [] f g e = refl
spaced-same Fits spell free one [] (y ∷ ys) f g e = absurd (cc)
spaced-same Fits spell free one (x ∷ xs) [] f g e = absurd (cc)
spaced-same Fits spell free one (x ∷ xs) (y ∷ ys) f g e =
    let t : spell x ++ spaced spell xs ≡ spell y ++ spaced spell ys = cc in
    let r = cut-same 32 (spell x) (spaced spell xs) (spell y) (spaced spell ys) t (free x f.0) (spaced-ahead spell xs) (free y g.0) (spaced-ahead spell ys) in
    let a = one x y f.0 g.0 r.0 in
    let b = spaced-same Fits spell free one xs ys f.1 g.1 r.1 in
    cc
