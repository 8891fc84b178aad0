-- Places of tokens.
use Rattle.std.proofs.Common.{◌<◌, subst, ℕ, suc, List, ◌∷◌, length, arith, map}
use Rattle.std.specs.Prelude.{slice_index_or}
use Rattle.std.proofs.lemmas.List.{get_or-map, length-map}
use Rattle.std.proofs.lemmas.List.Elements.{Contains-get_or}
use Rattle.rt_token.specs.declared.token.Token.{Token}
use Rattle.rt_token.specs.Places.{IsPlace, end_or}

pub start_is_place : (ts : List Token) (i : ℕ) (d : Token) → i < length ts → IsPlace ts (slice_index_or ts i d).span.from
start_is_place ts i d h =
    let one = Contains-get_or (end_or 0 ts ∷ map (λ (t : Token). t.span.from) ts) (suc i) d.span.from (omega (arith, length-map ts (λ (t : Token). t.span.from))) in
    subst (λ (n : ℕ). IsPlace ts n) (get_or-map (λ (t : Token). t.span.from) ts i d d.span.from h) one

pub end_is_place : (ts : List Token) → IsPlace ts (end_or 0 ts)
end_is_place ts = Contains-get_or (end_or 0 ts ∷ map (λ (t : Token). t.span.from) ts) 0 0 (omega arith)
