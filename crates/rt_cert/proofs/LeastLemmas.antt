-- What an encoding and its refutation say of the counterexamples.
use Rattle.std.proofs.Common.{◌≡◌, ◌∙◌, ℕ, ◌+◌, ◌<◌, nat_lt, Bool, true, false, List, length, slice_index_or, map, refl, sym, ap, arith, rules, inl, inr}
use Rattle.std.specs.Prelude.{Option, None, Some, IfSome}
use Rattle.std.specs.Option.{ForSome}
use Rattle.std.specs.List.{range_with_len}
use Rattle.std.proofs.lemmas.List.FromFn.{get_or-map-range_with_len, length-map-range_with_len}
use Rattle.rt_value.specs.Keep.{size}
use Rattle.rt_schema.specs.Given.{places}
use Rattle.rt_clause.specs.Literal.{Literal}
use Rattle.rt_clause.specs.Models.{lit_true, IsModel}
use Rattle.rt_clause.specs.Gates.{AgreeBelow}
use Rattle.rt_clause.proofs.Bools.{bool-cases}
use Rattle.rt_recorder.specs.Checking.{HasNoModel}
use Rattle.rt_cert.specs.Encodes.{Encodes, IsAsked, KeepsFewer}
use Rattle.rt_cert.specs.Encoding.{IsEncoding}
use Rattle.rt_input.specs.Accepted.{Accepted}
use Rattle.rt_top.specs.Smallest.{IsCounterexample, is_counterexample}
use Rattle.rt_cert.specs.Least.{IsLeastOrNone, IsSmallestOrNone}
use Rattle.rt_cert.specs.Certified.{IsToBeRefuted}

-- the choice of so many rows that a list of Bools makes
abbrev row_at : List Bool → ℕ → Bool
row_at bools row = slice_index_or bools row false

abbrev rows_in : ℕ → List Bool → List Bool
rows_in rows bools = map (row_at bools) (range_with_len 0 rows)

rows-agree : (rows : ℕ) (bools : List Bool) → AgreeBelow rows (rows_in rows bools) bools
rows-agree rows bools v h = let z : 0 + v ≡ v = omega arith in get_or-map-range_with_len (row_at bools) 0 rows v v false h z

rows-long : (rows : ℕ) (bools : List Bool) → length (rows_in rows bools) ≡ rows
rows-long rows bools = length-map-range_with_len (row_at bools) 0 rows

-- what a model says of its rows
model-wanted : (rows most : ℕ) (IsWanted : List Bool → Type 0) (lines : List (List Literal)) (assume : Option Literal) → Encodes rows IsWanted most lines assume → (bools : List Bool) → IsModel lines bools
    → IfSome assume (λ a. lit_true bools a ≡ true) → IsWanted (rows_in rows bools) × KeepsFewer most assume (rows_in rows bools)
model-wanted rows most IsWanted lines assume e bools model assumed =
    (e.means (rows_in rows bools) (rows-long rows bools)).0 (bools, rows-agree rows bools, model, assumed)

-- nothing is assumed where there is no number of rows to be beaten
unasked : (assume : Option Literal) (most : ℕ) → IsAsked most assume → most ≡ 0 → (keep : List Bool) → KeepsFewer most assume keep
unasked None most asked none keep = tt
unasked (Some l) most asked none keep = absurd (omega (arith, asked, none))

fewer-asked : (assume : Option Literal) (most : ℕ) (keep : List Bool) → IsAsked most assume → size keep < most → KeepsFewer most assume keep
fewer-asked None most keep asked h = tt
fewer-asked (Some l) most keep asked h = h

asked-fewer : (assume : Option Literal) (most : ℕ) (keep : List Bool) → IsAsked most assume → 0 < most → KeepsFewer most assume keep → size keep < most
asked-fewer None most keep asked some h = absurd (omega (arith, asked, some))
asked-fewer (Some l) most keep asked some h = h

clash : {b : Bool} → b ≡ true → b ≡ false → ⊥
clash p q = cc

-- where the verdict holds, no model makes true what is assumed
pub verdict-refutes : (input : Accepted) (keep : Option (List Bool)) (lines : List (List Literal)) (assume : Option Literal) → IsEncoding input keep lines assume → IsSmallestOrNone input keep → IsToBeRefuted keep
    → HasNoModel lines assume
verdict-refutes input None lines assume e agrees t = λ bools model assumed.
    let rows = places input.given.tables in
    let w = model-wanted rows 0 (λ s. is_counterexample input s ≡ true) lines assume e bools model assumed in
    let n : is_counterexample input (rows_in rows bools) ≡ false = agrees (rows_in rows bools) (rows-long rows bools) in
    clash w.0 n
verdict-refutes input (Some keep) lines assume e smallest t = λ bools model assumed.
    let rows = places input.given.tables in
    let w = model-wanted rows (size keep) (λ s. is_counterexample input s ≡ true) lines assume e bools model assumed in
    let fewer = asked-fewer assume (size keep) (rows_in rows bools) e.asked t w.1 in
    let least = smallest.smallest (rows_in rows bools) (rows-long rows bools, w.0) in
    omega (arith, fewer, least)

-- where none does, the verdict holds but for the order of rows
pub refutation-least : (input : Accepted) (keep : Option (List Bool)) (lines : List (List Literal)) (assume : Option Literal) → IsEncoding input keep lines assume → ForSome keep (IsCounterexample input)
    → (IsToBeRefuted keep → HasNoModel lines assume) → IsLeastOrNone input keep
refutation-least input None lines assume e counter none = λ t long. elim (bool-cases (is_counterexample input t)) [
  | inl y ↦ absurd (let m = (e.means t long).1 (y, unasked assume 0 e.asked refl t) in none tt m.0 m.2 m.3)
  | inr n ↦ n
]
refutation-least input (Some keep) lines assume e counter none = record {
  counterexample = counter keep refl;
  fewest = λ t c. elim (bool-cases (nat_lt (size t) (size keep))) [
    | inl y ↦ absurd (let h : size t < size keep = search rules in
        let some : 0 < size keep = omega (arith, h) in
        let m = (e.means t c.0).1 (c.1, fewer-asked assume (size keep) t e.asked h) in none some m.0 m.2 m.3)
    | inr n ↦ search rules
  ];
}

-- a verdict's choice has a Bool for each row
pub verdict-long : (input : Accepted) (keep : Option (List Bool)) → IsSmallestOrNone input keep → ForSome keep (λ k. length k ≡ places input.given.tables)
verdict-long input None h = λ k e. cc
verdict-long input (Some keep) h = λ k e. let same : keep ≡ k = cc in ap length (sym same) ∙ h.counterexample.0
