-- The lines of the formula of the counterexamples, as those of an input.
use Rattle.std.proofs.Common.{◌≡◌, ◌∙◌, ℕ, ◌≤◌, Bool, true, not, ◌&&◌, List, length, refl, sym, subst, arith, Result, Ok, Err}
use Rattle.std.specs.Prelude.{Option, None, Some, IfOk}
use Rattle.std.specs.Option.{ForSome}
use Rattle.rt_value.specs.declared.no_memory.NoMemory.{NoMemory}
use Rattle.rt_schema.specs.declared.table.Table.{Table}
use Rattle.rt_schema.specs.Given.{Instance, places}
use Rattle.rt_schema.specs.Kept.{kept}
use Rattle.rt_schema.specs.Law.{lawful}
use Rattle.rt_algebra.specs.Answer.{plain, same_rows}
use Rattle.rt_algebra.specs.declared.typed.Typed.{Typed}
use Rattle.rt_clause.specs.Literal.{Literal}
use Rattle.rt_formula.specs.Shared.{Shared, val}
use Rattle.rt_least.proofs.Keeps.{size-most}
use Rattle.rt_input.specs.Accepted.{Accepted}
use Rattle.rt_top.specs.Smallest.{is_counterexample}
use Rattle.rt_cert.specs.Encodes.{Encodes}
use Rattle.rt_cert.specs.Encoding.{IsEncoding, most_of}
use Rattle.rt_cert.proofs.EncodedLemmas.{wanted-as}

abbrev Lines : Type 0
Lines = List (List Literal)

-- a choice keeps at most all rows
pub most-within : (rows : ℕ) (keep : Option (List Bool)) → ForSome keep (λ k. length k ≡ rows) → most_of keep ≤ rows
most-within rows None h = omega arith
most-within rows (Some keep) h = let l = h keep refl in let m = size-most keep in omega (arith, l, m)

-- whether the kept rows are a counterexample, from the parts of an input
abbrev differs_lawfully : List Table → Instance → Typed → Typed → List Bool → Bool
differs_lawfully schema given left right keep =
    lawful schema (kept given.tables keep) && not (same_rows (plain left.query (kept given.tables keep)) (plain right.query (kept given.tables keep)))

counter-is : (input : Accepted) (schema : List Table) (given : Instance) (left right : Typed) (keep : List Bool) → schema ≡ input.schema → given ≡ input.given → left ≡ input.left → right ≡ input.right
    → differs_lawfully schema given left right keep ≡ is_counterexample input keep
unfolding is_counterexample
counter-is input schema given left right keep s g l r = rw (s, g, l, r) refl

pub encoded-input : (input : Accepted) (keep : Option (List Bool)) (schema : List Table) (given : Instance) (left right : Typed) (d : Shared) (goal rows most : ℕ) (lines : Lines) (r : Result (Option Literal) NoMemory)
    → schema ≡ input.schema → given ≡ input.given → left ≡ input.left → right ≡ input.right → most ≡ most_of keep → d.rows ≡ places input.given.tables → rows ≡ d.rows
    → ((s : List Bool) → length s ≡ rows → val d s goal ≡ differs_lawfully schema given left right s)
    → IfOk r (Encodes d.rows (λ s. val d s goal ≡ true) most lines) → IfOk r (IsEncoding input keep lines)
encoded-input input keep schema given left right d goal rows most lines (Err e) s g l q m n same means h = tt
encoded-input input keep schema given left right d goal rows most lines (Ok assume) s g l q m n same means h =
    let wanted : Encodes d.rows (λ t. is_counterexample input t ≡ true) most lines assume =
    wanted-as d.rows most (λ t. val d t goal) (is_counterexample input) lines assume (λ t long. means t (long ∙ sym same) ∙ counter-is input schema given left right t s g l q) h in
    subst (λ (x : ℕ). Encodes x (λ t. is_counterexample input t ≡ true) (most_of keep) lines assume) n (subst (λ (x : ℕ). Encodes d.rows (λ t. is_counterexample input t ≡ true) x lines assume) m wanted)
