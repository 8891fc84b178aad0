-- At most one choice is a smallest counterexample, so a call has one answer.
use Rattle.std.proofs.Common.{◌≡◌, ℕ, Bool, true, false, List, length, Ok, inl, inr, refl, sym, ap, subst, ◌∙◌, arith}
use Rattle.rt_least.specs.declared.best.Best.{Best}
use Rattle.rt_least.specs.declared.best.Best.TheVariants.{Least, Never, Spent}
use Rattle.rt_least.specs.Least.{IsLeast}
use Rattle.rt_least.proofs.Keeps.{either-before}
use Rattle.rt_input.specs.declared.outcome.Outcome.{Outcome}
use Rattle.rt_input.specs.declared.outcome.Outcome.TheVariants as outcome
use Rattle.rt_input.specs.Accepted.{Accepted}
use Rattle.rt_input.specs.Reading.{Call, IsRead}
use Rattle.rt_top.specs.Answers.{IsTextOf}
use Rattle.rt_input.specs.Judged.{judged}
use Rattle.rt_top.specs.One.{AreAlike, AreGivenAlike, IsDecided, IsFinal}
use Rattle.rt_top.specs.Smallest.{Agrees, IsFirst, IsSmallest}
use Rattle.rt_top.specs.GivenUp.{IsVerdict}
use Rattle.rt_top.specs.Texts.{agree_of, witness_of}

pub smallest-one : (input : Accepted) (s t : List Bool) → IsSmallest input s → IsSmallest input t → s ≡ t
unfolding IsFirst
smallest-one input s t a b =
    let x = a.smallest t b.counterexample in
    let y = b.smallest s a.counterexample in
    elim (either-before s t (a.counterexample.0 ∙ sym b.counterexample.0)) [
      | inl e ↦ e
      | inr r ↦ elim r [
        | inl f ↦ absurd (b.first s a.counterexample (omega (arith, x, y)) f)
        | inr f ↦ absurd (a.first t b.counterexample (omega (arith, x, y)) f)
      ]
    ]

-- at most one choice of so many rows is the first of the least of its kind
pub least-one : (IsTarget : List Bool → Type 0) (rows : ℕ) → ((keep : List Bool) → IsTarget keep → length keep ≡ rows) → (s t : List Bool) → IsLeast IsTarget s → IsLeast IsTarget t → s ≡ t
least-one IsTarget rows long s t a b =
    let x = a.least t b.is_target in
    let y = b.least s a.is_target in
    elim (either-before s t (long s a.is_target ∙ sym (long t b.is_target))) [
      | inl e ↦ e
      | inr r ↦ elim r [
        | inl f ↦ absurd (b.first s a.is_target (omega (arith, x, y)) f)
        | inr f ↦ absurd (a.first t b.is_target (omega (arith, x, y)) f)
      ]
    ]

pub smallest-none : (input : Accepted) (s : List Bool) → IsSmallest input s → Agrees input → ⊥
smallest-none input s a n = let t = a.counterexample.1 in let f = n s a.counterexample.0 in clash t f where
  clash : {b : Bool} → b ≡ true → b ≡ false → ⊥
  clash p q = cc

pub verdict-one : (input : Accepted) (a b : Best) → IsFinal a → IsFinal b → IsVerdict input a → IsVerdict input b → a ≡ b
verdict-one input (Least s) (Least t) f g v w = ap Least (smallest-one input s t v w)
verdict-one input (Least s) Never f g v w = absurd (smallest-none input s v w)
verdict-one input (Least s) (Spent x) f g v w = absurd g
verdict-one input Never (Least t) f g v w = absurd (smallest-none input t w v)
verdict-one input Never Never f g v w = refl
verdict-one input Never (Spent x) f g v w = absurd g
verdict-one input (Spent x) b f g v w = absurd f

-- two calls on the same arguments and contents read the same input
pub same-input : (a b : Call) → AreAlike a b → (input other : Accepted) → IsRead a input → IsRead b other → input ≡ other
same-input a b h input other r s =
    let same : judged a.words a.files.held ≡ judged b.words b.files.held = (λ i. judged (h.words i) (h.held i)) in
    let e : Ok input ≡ Ok other = sym (r.told h.told) ∙ same ∙ s.told h.told_too in
    cc

pub same-given : (a b : Call) → AreGivenAlike a b → (input other : Accepted) → IsRead a input → IsRead b other → input ≡ other
same-given a b h input other r s =
    let e : Ok input ≡ Ok other = sym (r.given h.held h.fits) ∙ ap (λ words. judged words h.held) h.words ∙ s.given h.held h.fits_too in
    cc

pub answer-one : (a b : Call) → ((input other : Accepted) → IsRead a input → IsRead b other → input ≡ other) → (o p : Outcome) → IsDecided o → IsDecided p → (said told : List ℕ) → IsTextOf a o said → IsTextOf b p told → (o ≡ p) × (said ≡ told)
answer-one a b h outcome.Agree outcome.Agree d e said told x y =
    let same = h x.0 y.0 x.1 y.1 in (refl, x.3 ∙ ap agree_of same ∙ sym y.3)
answer-one a b h outcome.Agree (outcome.Witness t) d e said told x y =
    let A : Accepted → Type 0 = Agrees in
    absurd (smallest-none y.0 t y.2 (subst A (h x.0 y.0 x.1 y.1) x.2))
answer-one a b h (outcome.Witness s) outcome.Agree d e said told x y =
    let A : Accepted → Type 0 = Agrees in
    absurd (smallest-none x.0 s x.2 (subst A (sym (h x.0 y.0 x.1 y.1)) y.2))
answer-one a b h (outcome.Witness s) (outcome.Witness t) d e said told x y =
    let S : Accepted → Type 0 = λ i. IsSmallest i s in
    let same = h x.0 y.0 x.1 y.1 in
    let one = smallest-one y.0 s t (subst S same x.2) y.2 in
    (ap outcome.Witness one, x.3 ∙ (λ i. witness_of (same i) (one i)) ∙ sym y.3)
answer-one a b h outcome.Agree outcome.Usage d e said told x y = absurd e
answer-one a b h outcome.Agree (outcome.Refused part fault) d e said told x y = absurd e
answer-one a b h outcome.Agree (outcome.Spent s) d e said told x y = absurd e
answer-one a b h outcome.Agree (outcome.Limit limit) d e said told x y = absurd e
answer-one a b h outcome.Agree (outcome.ReadFault part) d e said told x y = absurd e
answer-one a b h outcome.Agree outcome.WriteFault d e said told x y = absurd e
answer-one a b h outcome.Agree outcome.NoMemory d e said told x y = absurd e
answer-one a b h (outcome.Witness k) outcome.Usage d e said told x y = absurd e
answer-one a b h (outcome.Witness k) (outcome.Refused part fault) d e said told x y = absurd e
answer-one a b h (outcome.Witness k) (outcome.Spent s) d e said told x y = absurd e
answer-one a b h (outcome.Witness k) (outcome.Limit limit) d e said told x y = absurd e
answer-one a b h (outcome.Witness k) (outcome.ReadFault part) d e said told x y = absurd e
answer-one a b h (outcome.Witness k) outcome.WriteFault d e said told x y = absurd e
answer-one a b h (outcome.Witness k) outcome.NoMemory d e said told x y = absurd e
answer-one a b h outcome.Usage p d e said told x y = absurd d
answer-one a b h (outcome.Refused part fault) p d e said told x y = absurd d
answer-one a b h (outcome.Spent s) p d e said told x y = absurd d
answer-one a b h (outcome.Limit limit) p d e said told x y = absurd d
answer-one a b h (outcome.ReadFault part) p d e said told x y = absurd d
answer-one a b h outcome.WriteFault p d e said told x y = absurd d
answer-one a b h outcome.NoMemory p d e said told x y = absurd d
