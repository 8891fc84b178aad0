-- Lemmas on the parts of a text.
use Rattle.std.proofs.Common.{◌≡◌, ◌<◌, ◌+◌, ℕ, List, [], ◌∷◌, length, refl, None, arith, IsTrue, true, false, Bool, take, cond, suc}
use Rattle.std.specs.List.{prefix_len, list_all}
use Rattle.rt_token.specs.Lexed.{comment_end}

pub comment-short : (z : List ℕ) → length z < 2 → None ≡ comment_end z
comment-short [] h = refl
comment-short (c ∷ []) h = refl
comment-short (c ∷ d ∷ z) h = absurd (omega arith)

suc-front : (n : ℕ) → 1 + n ≡ suc n
suc-front n = omega arith

front-more : (p : ℕ → Bool) (b : ℕ) (z : List ℕ) (q : Bool) → p b ≡ q → IsTrue (list_all p (take (prefix_len p z) z)) → IsTrue (list_all p (take (cond q (1 + prefix_len p z) 0) (b ∷ z)))
front-more p b z true e h = rw (suc-front (prefix_len p z), e) h
front-more p b z false e h = refl

-- each byte of the front passes
pub front-passes : (p : ℕ → Bool) (z : List ℕ) → IsTrue (list_all p (take (prefix_len p z) z))
front-passes p [] = refl
front-passes p (b ∷ z) = front-more p b z (p b) refl (front-passes p z)
