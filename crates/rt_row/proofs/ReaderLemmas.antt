-- The cells of the parts that are still to be read.
use Rattle.std.proofs.Common.{◌≡◌, ◌∙◌, ◌<◌, ◌+◌, ℕ, List, [], ◌∷◌, ◌++◌, length, drop, get_or, refl, sym, ap, arith}
use Rattle.std.specs.Prelude.{Option, None, Some}
use Rattle.std.specs.Option.{option_map, option_and_then}
use Rattle.std.proofs.lemmas.List.{append-nil, append_assoc, at_drop_more, at_drop_all}
use Rattle.rt_value.specs.declared.value.Value.{Value}
use Rattle.rt_token.specs.declared.token.Token.{Token}
use Rattle.rt_row.specs.Rows.{cell, each_cell}

-- these cells and then those
abbrev pub after : List Value → Option (List Value) → Option (List Value)
after row o = option_map (λ more. row ++ more) o

push : (row : List Value) (value : Value) (o : Option (List Value))
    → after row (option_and_then (λ v. option_map (λ more. v ∷ more) o) (Some value)) ≡ after (row ++ value ∷ []) o
push row value None = refl
push row value (Some more) = ap Some (sym (append_assoc row (value ∷ []) more))

step : (parts : List (List Token)) (n : ℕ) (part : List Token) → n < length parts → part ≡ get_or parts n part
    → each_cell (drop n parts) ≡ option_and_then (λ v. option_map (λ more. v ∷ more) (each_cell (drop (n + 1) parts))) (cell part)
step parts n part within is = at_drop_more each_cell parts n part within ∙ ap (λ x. option_and_then (λ v. option_map (λ more. v ∷ more) (each_cell (drop (n + 1) parts))) (cell x)) (sym is)

-- a part that is a cell
pub more_cells : (whole : Option (List Value)) (row : List Value) (parts : List (List Token)) (n : ℕ) (part : List Token) (value : Value)
    → n < length parts → part ≡ get_or parts n part → cell part ≡ Some value → whole ≡ after row (each_cell (drop n parts))
    → whole ≡ after (row ++ value ∷ []) (each_cell (drop (n + 1) parts))
more_cells whole row parts n part value within is found so_far =
    so_far ∙ ap (after row) (step parts n part within is ∙ ap (option_and_then (λ v. option_map (λ more. v ∷ more) (each_cell (drop (n + 1) parts)))) found)
    ∙ push row value (each_cell (drop (n + 1) parts))

-- a part that is none
pub no_cells : (whole : Option (List Value)) (row : List Value) (parts : List (List Token)) (n : ℕ) (part : List Token)
    → n < length parts → part ≡ get_or parts n part → cell part ≡ None → whole ≡ after row (each_cell (drop n parts)) → whole ≡ None
no_cells whole row parts n part within is found so_far =
    so_far ∙ ap (after row) (step parts n part within is ∙ ap (option_and_then (λ v. option_map (λ more. v ∷ more) (each_cell (drop (n + 1) parts)))) found)

-- no part is left
pub all_cells : (whole : Option (List Value)) (row : List Value) (parts : List (List Token)) (n : ℕ)
    → n ≡ length parts → whole ≡ after row (each_cell (drop n parts)) → whole ≡ Some row
all_cells whole row parts n all so_far = so_far ∙ ap (after row) (at_drop_all each_cell parts n (omega (arith, all))) ∙ ap Some (append-nil row)
