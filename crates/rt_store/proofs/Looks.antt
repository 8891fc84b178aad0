-- What a clause is, literal by literal.
use Rattle.std.proofs.Common.{◌≡◌, ℕ, zero, suc, ◌+◌, ◌<◌, true, false, List, [], ◌∷◌, ◌++◌, length, take, get_or, sym, ap, subst, ◌∙◌, ◌⊎◌, inl, inr, None, arith}
use Rattle.std.proofs.lemmas.List.{take_more}
use Rattle.rt_clause.specs.Literal.{Literal, negated}
use Rattle.rt_clause.specs.Lists.{has, is_false}
use Rattle.rt_clause.proofs.Literals.{has-head, has-tail, has-cases, has-append_cases}
use Rattle.rt_store.specs.declared.trail.Step.{Step}
use Rattle.rt_store.specs.Trail.{lits, value_in}
use Rattle.rt_store.proofs.FreshLaws.{absent-lit}

pub has-at : (c : List Literal) (i : ℕ) (l : Literal) → i < length c → l ≡ get_or c i l → has c l ≡ true
has-at [] i l h e = absurd (omega arith)
has-at (x ∷ c) zero l h e = let P : Literal → Type 0 = λ k. has (k ∷ c) l ≡ true in subst P e (has-head l c)
has-at (x ∷ c) (suc i) l h e = has-tail x l c (has-at c i l (omega arith) e)

pub has-more : (c : List Literal) (i : ℕ) (l k : Literal) → i < length c → l ≡ get_or c i l → has (take (i + 1) c) k ≡ true → (has (take i c) k ≡ true) ⊎ (k ≡ l)
has-more c i l k h e g =
    let q : take (i + 1) c ≡ take i c ++ l ∷ [] = take_more c i l h ∙ ap (λ v. take i c ++ v ∷ []) (sym e) in
    let P : List Literal → Type 0 = λ d. has d k ≡ true in
    elim (has-append_cases (take i c) (l ∷ []) k (subst P q g)) [ inl a ↦ inl a | inr b ↦ elim (has-cases l k [] b) [ inl x ↦ inr x | inr y ↦ absurd (cc) ] ]

pub open-not-false : (t : List Step) (l : Literal) → value_in t l.var ≡ None → is_false (lits t) l ≡ false
open-not-false t l v = absent-lit t (negated l) v
