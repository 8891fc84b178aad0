-- A text that grows part by part.
use Rattle.std.proofs.Common.{◌≡◌, ◌∙◌, ◌++◌, ℕ, List, append_assoc, ap}

pub grow : (new mid old a b : List ℕ) → mid ≡ old ++ a → new ≡ mid ++ b → new ≡ old ++ (a ++ b)
grow new mid old a b e h = h ∙ ap (λ (t : List ℕ). t ++ b) e ∙ append_assoc old a b
