-- Which places a syntax error can name.
use Rattle.std.specs.Prelude.{ℕ, List, [], ◌∷◌, map, Contains}
use Rattle.rt_token.specs.declared.token.Token.{Token}

-- the end of the last token, or n where there is none
abbrev pub end_or : ℕ → List Token → ℕ
end_or n [] = n
end_or n (t ∷ ts) = end_or t.span.to ts

-- the start of a token, or the end of the last one; 0 where there is no token
abbrev pub IsPlace : List Token → ℕ → Type 0
IsPlace ts at = Contains (end_or 0 ts ∷ map (λ t. t.span.from) ts) at
