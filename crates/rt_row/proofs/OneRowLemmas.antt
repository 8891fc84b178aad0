-- At most one choice is the first of the smallest at which a row holds, so a call has one answer.
use Rattle.std.proofs.Common.{◌≡◌, ℕ, Bool, true, false, List, Ok, refl, sym, ap, subst, ◌∙◌}
use Rattle.rt_value.specs.declared.value.Value.{Value}
use Rattle.rt_schema.specs.Given.{places}
use Rattle.rt_least.specs.Least.{IsLeast}
use Rattle.rt_input.specs.Accepted.{Accepted}
use Rattle.rt_input.specs.Reading.{Call}
use Rattle.rt_top.specs.One.{AreAlike}
use Rattle.rt_top.proofs.OneLemmas.{least-one, same-input}
use Rattle.rt_row.specs.OneRow.{IsDecided}
use Rattle.rt_row.specs.RowVerdicts.{Finds, FindsRow, HoldsIn, IsRowAnswer, Judges}
use Rattle.rt_row.specs.Said.{row_text}
use Rattle.rt_row.specs.declared.outcome.RowAnswer.{RowAnswer}
use Rattle.rt_row.specs.declared.outcome.RowVerdict.{RowVerdict}
use Rattle.rt_row.specs.declared.outcome.RowVerdict.TheVariants.{Witness, Never, Spent, Refused}

pub least_row-one : (input : Accepted) (row : List Value) (s t : List Bool) → IsLeast (HoldsIn input row) s → IsLeast (HoldsIn input row) t → s ≡ t
least_row-one input row s t a b = least-one (HoldsIn input row) (places input.given.tables) (λ keep h. h.0) s t a b

clash : {b : Bool} → b ≡ true → b ≡ false → ⊥
clash p q = cc

-- the rows that a text is are one
found-one : (input : Accepted) (text : List ℕ) (v w : RowVerdict) → FindsRow input text v → FindsRow input text w → ((row : List Value) → Finds input row v → Finds input row w → v ≡ w) → v ≡ w
found-one input text v w f g same =
    let e : Ok f.0 ≡ Ok g.0 = sym f.1 ∙ g.1 in
    let rows : f.0 ≡ g.0 = cc in
    let F : List Value → Type 0 = λ row. Finds input row v in
    same g.0 (subst F rows f.2) g.2

judged-one : (input : Accepted) (text : List ℕ) (v w : RowVerdict) → IsDecided v → IsDecided w → Judges input text v → Judges input text w → v ≡ w
judged-one input text (Witness s) (Witness t) d e f g = found-one input text (Witness s) (Witness t) f g (λ row x y. ap Witness (least_row-one input row s t x y))
judged-one input text (Witness s) Never d e f g = found-one input text (Witness s) Never f g (λ row x n. absurd (clash x.is_target.1 (n s x.is_target.0)))
judged-one input text (Witness s) (Spent x) d e f g = absurd e
judged-one input text (Witness s) (Refused fault) d e f g = absurd (let k = sym f.1 ∙ g.1 in cc)
judged-one input text Never (Witness t) d e f g = found-one input text Never (Witness t) f g (λ row n x. absurd (clash x.is_target.1 (n t x.is_target.0)))
judged-one input text Never Never d e f g = refl
judged-one input text Never (Spent x) d e f g = absurd e
judged-one input text Never (Refused fault) d e f g = absurd (let k = sym f.1 ∙ g.1 in cc)
judged-one input text (Spent x) w d e f g = absurd d
judged-one input text (Refused fault) (Witness t) d e f g = absurd (let k = sym f.1 ∙ g.1 in cc)
judged-one input text (Refused fault) Never d e f g = absurd (let k = sym f.1 ∙ g.1 in cc)
judged-one input text (Refused fault) (Spent x) d e f g = absurd e
judged-one input text (Refused fault) (Refused other) d e f g = (let k = sym f.1 ∙ g.1 in let same : fault ≡ other = cc in ap Refused same)

pub row-one : (a b : Call) → AreAlike a b → (text : List ℕ) (x y : RowAnswer) → IsDecided x.verdict → IsDecided y.verdict → IsRowAnswer a text x → IsRowAnswer b text y → (x.verdict ≡ y.verdict) × (x.text ≡ y.text)
row-one a b h text x y d e f g =
    let same = same-input a b h f.input g.input f.read g.read in
    let J : Accepted → Type 0 = λ input. Judges input text x.verdict in
    let one = judged-one g.input text x.verdict y.verdict d e (subst J same f.judges) g.judges in
    (one, f.said ∙ (λ i. row_text (same i) (one i)) ∙ sym g.said)
