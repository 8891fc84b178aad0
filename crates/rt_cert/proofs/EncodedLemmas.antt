-- What the lines of a formula, and of a counter after them, say of the choices of rows.
use Rattle.std.proofs.Common.{◌≡◌, ◌∙◌, ℕ, zero, suc, [], ◌∷◌, get_or, ◌<◌, ◌≤◌, ◌-◌, nat_le, Bool, true, false, not, List, ◌++◌, length, sym, ap, subst, refl, arith, rules}
use Rattle.std.specs.Prelude.{Option, None, Some}
use Rattle.rt_value.specs.Keep.{size}
use Rattle.rt_clause.specs.Literal.{Literal, negated}
use Rattle.rt_clause.specs.Lists.{AreBelow, Determined, IsBelow}
use Rattle.rt_clause.specs.Models.{lit_true, IsModel}
use Rattle.rt_clause.specs.Gates.{AgreeBelow, Extends}
use Rattle.rt_clause.proofs.Bools.{not-true}
use Rattle.rt_clause.proofs.Extending.{index-front, model-older}
use Rattle.rt_clause.proofs.Following.{lit_true-negated}
use Rattle.rt_totalizer.specs.Outputs.{CountsRows, output_at}
use Rattle.rt_totalizer.proofs.Rows.{cell-has}
use Rattle.rt_cert.specs.Encodes.{Encodes}

abbrev Lines : Type 0
Lines = List (List Literal)

-- over each choice at which f is true the lines have a model with a Bool a variable
abbrev IsComplete : ℕ → (List Bool → Bool) → ℕ → Lines → Type 0
IsComplete rows f next lines = (keep : List Bool) → length keep ≡ rows → f keep ≡ true → (bools : List Bool) × (length bools ≡ next) × AgreeBelow rows keep bools × IsModel lines bools

-- and over no other one
abbrev AreSound : ℕ → (List Bool → Bool) → Lines → Type 0
AreSound rows f lines = (keep bools : List Bool) → AgreeBelow rows keep bools → IsModel lines bools → f keep ≡ true

-- the lines of the formula alone
pub formula-encodes : (rows next : ℕ) (f : List Bool → Bool) (lines : Lines) → AreBelow next lines → IsComplete rows f next lines → AreSound rows f lines → Determined lines rows next
    → Encodes rows (λ keep. f keep ≡ true) 0 lines None
formula-encodes rows next f lines below complete sound determined = record {
  asked = refl;
  means = λ keep long. (
    λ m. (sound keep m.0 m.1 m.2, tt),
    λ w. (let c = complete keep long w.0 in (c.0, c.2, c.3, tt)),
  );
  next = next;
  below = below;
  low = tt;
  determined = determined;
}

-- the value of the literal that fewer rows are kept
fewer-value : (rows most : ℕ) (lines : Lines) (outs : List Literal) → CountsRows rows lines outs → 0 < most → most ≤ length outs → (keep bools : List Bool) → length keep ≡ rows → AgreeBelow rows keep bools → IsModel lines bools
    → lit_true bools (negated (output_at outs most)) ≡ not (nat_le most (size keep))
fewer-value rows most lines outs counts some within keep bools long agree model =
    lit_true-negated bools (output_at outs most) ∙ ap not (counts keep bools long agree model most (omega (arith, some)) within)

is-fewer : (a b : ℕ) → nat_le a b ≡ false → b < a
is-fewer a b h = search rules

fewer-is : (a b : ℕ) → b < a → nat_le a b ≡ false
fewer-is a b h = search rules

-- the lines of the formula and of a counter
pub counter-encodes : (rows next m most : ℕ) (f : List Bool → Bool) (lines new : Lines) (outs : List Literal) → rows ≤ next → AreBelow next lines → IsComplete rows f next lines → AreSound rows f lines → Determined lines rows next
    → Extends lines next new m → CountsRows rows new outs → IsBelow m outs → length outs ≡ most → 0 < most → Encodes rows (λ keep. f keep ≡ true) most new (Some (negated (output_at outs most)))
counter-encodes rows next m most f lines new outs wide below complete sound determined over counts low all some =
    let within : most ≤ length outs = omega (arith, all) in
    let fewer = fewer-value rows most new outs counts some within in
    record {
      asked = some;
      means = λ keep long. (
        λ h. (
          sound keep h.0 h.1 (let M : Lines → Type 0 = λ ls. IsModel ls h.0 in model-older lines over.more h.0 (subst M over.lines h.2)),
          is-fewer most (size keep) (not-true (nat_le most (size keep)) (sym (fewer keep h.0 long h.1 h.2) ∙ h.3)),
        ),
        λ w.
            let c = complete keep long w.0 in
            let x = over.extends below c.0 c.1 c.3 in
            let agree : AgreeBelow rows keep (c.0 ++ x.0) = λ v b. c.2 v b ∙ sym (index-front c.0 x.0 v (let l = c.1 in omega (arith, b, l, wide))) in
            (c.0 ++ x.0, agree, x.2, fewer keep (c.0 ++ x.0) long agree x.2 ∙ ap not (fewer-is most (size keep) w.1)),
      );
      next = m;
      below = over.below below;
      low = low (output_at outs most) (cell-has outs (most - 1) (omega (arith, some, within)));
      determined = over.determined rows determined;
    }

-- what is wanted may be said in other words
pub wanted-as : (rows most : ℕ) (f g : List Bool → Bool) (lines : Lines) (assume : Option Literal) → ((keep : List Bool) → length keep ≡ rows → f keep ≡ g keep)
    → Encodes rows (λ keep. f keep ≡ true) most lines assume → Encodes rows (λ keep. g keep ≡ true) most lines assume
wanted-as rows most f g lines assume same e = record {
  asked = e.asked;
  means = λ keep long. (
    λ h. (let w = (e.means keep long).0 h in (sym (same keep long) ∙ w.0, w.1)),
    λ w. (e.means keep long).1 (same keep long ∙ w.0, w.1),
  );
  next = e.next;
  below = e.below;
  low = e.low;
  determined = e.determined;
}

-- an output that is there, whatever the default for others
abbrev pub output_by : List Literal → ℕ → Literal → Literal
output_by outs j d = get_or outs (j - 1) d

pub at-any : (outs : List Literal) (j : ℕ) (d : Literal) → j - 1 < length outs → output_by outs j d ≡ output_at outs j
at-any outs j d h = by outs (j - 1) h where
  by : (ls : List Literal) (i : ℕ) → i < length ls → get_or ls i d ≡ get_or ls i (record { var = 0; on = false })
  by [] i h = absurd (omega (arith, h))
  by (l ∷ ls) zero h = refl
  by (l ∷ ls) (suc i) h = by ls i (omega (arith, h))
