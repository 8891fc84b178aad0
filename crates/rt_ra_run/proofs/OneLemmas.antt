-- At most one choice is a smallest counterexample of two texts, so a call has one answer.
use Rattle.std.proofs.Common.{◌≡◌, ℕ, Bool, true, false, List, Ok, refl, sym, ap, subst, ◌∙◌}
use Rattle.rt_schema.specs.Given.{places}
use Rattle.rt_input.specs.declared.outcome.Outcome.{Outcome}
use Rattle.rt_input.specs.declared.outcome.Outcome.TheVariants as outcome
use Rattle.rt_input.specs.Reading.{Call}
use Rattle.rt_top.specs.One.{IsDecided}
use Rattle.rt_top.proofs.OneLemmas.{least-one}
use Rattle.rt_ra_run.specs.declared.asked.Asked.{Asked}
use Rattle.rt_ra_run.specs.Answers.{IsRead, IsVerdictText}
use Rattle.rt_ra_run.specs.Judged.{ra_judged}
use Rattle.rt_ra_run.specs.One.{AreAlike}
use Rattle.rt_ra_run.specs.Smallest.{Agrees, IsCounterexample, IsSmallest}
use Rattle.rt_ra_run.specs.Texts.{witness_of}

pub smallest-one : (asked : Asked) (s t : List Bool) → IsSmallest asked s → IsSmallest asked t → s ≡ t
smallest-one asked s t a b = least-one (IsCounterexample asked) (places asked.input.given.tables) (λ keep h. h.0) s t a b

smallest-none : (asked : Asked) (s : List Bool) → IsSmallest asked s → Agrees asked → ⊥
smallest-none asked s a n = clash a.is_target.1 (n s a.is_target.0) where
  clash : {b : Bool} → b ≡ true → b ≡ false → ⊥
  clash p q = cc

-- two calls on the same arguments and contents ask the same
same-asked : (a b : Call) → AreAlike a b → (asked other : Asked) → IsRead a asked → IsRead b other → asked ≡ other
same-asked a b h asked other r s =
    let same : ra_judged a.words a.files.held ≡ ra_judged b.words b.files.held = (λ i. ra_judged (h.words i) (h.held i)) in
    let e : Ok asked ≡ Ok other = sym (r.told h.told) ∙ same ∙ s.told h.told_too in
    cc

pub answer-one : (a b : Call) → AreAlike a b → (o p : Outcome) → IsDecided o → IsDecided p → (said told : List ℕ) → IsVerdictText a o said → IsVerdictText b p told → (o ≡ p) × (said ≡ told)
answer-one a b h outcome.Agree outcome.Agree d e said told x y = (refl, x.3 ∙ sym y.3)
answer-one a b h outcome.Agree (outcome.Witness t) d e said told x y =
    let A : Asked → Type 0 = Agrees in
    absurd (smallest-none y.0 t y.2 (subst A (same-asked a b h x.0 y.0 x.1 y.1) x.2))
answer-one a b h (outcome.Witness s) outcome.Agree d e said told x y =
    let A : Asked → Type 0 = Agrees in
    absurd (smallest-none x.0 s x.2 (subst A (sym (same-asked a b h x.0 y.0 x.1 y.1)) y.2))
answer-one a b h (outcome.Witness s) (outcome.Witness t) d e said told x y =
    let S : Asked → Type 0 = λ i. IsSmallest i s in
    let same = same-asked a b h x.0 y.0 x.1 y.1 in
    let one = smallest-one y.0 s t (subst S same x.2) y.2 in
    (ap outcome.Witness one, x.3 ∙ (λ i. witness_of (same i) (one i)) ∙ sym y.3)
answer-one a b h outcome.Agree outcome.Usage d e said told x y = absurd e
answer-one a b h outcome.Agree (outcome.Refused part fault) d e said told x y = absurd e
answer-one a b h outcome.Agree (outcome.Spent s) d e said told x y = absurd e
answer-one a b h outcome.Agree (outcome.Limit limit) d e said told x y = absurd e
answer-one a b h outcome.Agree (outcome.ReadFault part) d e said told x y = absurd e
answer-one a b h outcome.Agree outcome.WriteFault d e said told x y = absurd e
answer-one a b h outcome.Agree outcome.NoMemory d e said told x y = absurd e
answer-one a b h (outcome.Witness k) outcome.Usage d e said told x y = absurd e
answer-one a b h (outcome.Witness k) (outcome.Refused part fault) d e said told x y = absurd e
answer-one a b h (outcome.Witness k) (outcome.Spent s) d e said told x y = absurd e
answer-one a b h (outcome.Witness k) (outcome.Limit limit) d e said told x y = absurd e
answer-one a b h (outcome.Witness k) (outcome.ReadFault part) d e said told x y = absurd e
answer-one a b h (outcome.Witness k) outcome.WriteFault d e said told x y = absurd e
answer-one a b h (outcome.Witness k) outcome.NoMemory d e said told x y = absurd e
answer-one a b h outcome.Usage p d e said told x y = absurd d
answer-one a b h (outcome.Refused part fault) p d e said told x y = absurd d
answer-one a b h (outcome.Spent s) p d e said told x y = absurd d
answer-one a b h (outcome.Limit limit) p d e said told x y = absurd d
answer-one a b h (outcome.ReadFault part) p d e said told x y = absurd d
answer-one a b h outcome.WriteFault p d e said told x y = absurd d
answer-one a b h outcome.NoMemory p d e said told x y = absurd d
