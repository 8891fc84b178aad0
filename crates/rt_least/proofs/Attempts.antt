-- What an attempt finds, from what each call of solve does.
use Rattle.std.proofs.Common.{◌≡◌, ℕ, ◌<◌, ◌≤◌, Bool, true, List, [], ◌∷◌, ◌++◌, inl, inr, append_assoc, length, refl, ap, subst, ◌∙◌, Option, Some, None, IfSome, arith}
use Rattle.std.specs.List.{list_any, list_all}
use Rattle.rt_clause.specs.Literal.{Literal, negated, lit_eq}
use Rattle.rt_clause.specs.Lists.{line_at}
use Rattle.rt_clause.specs.Models.{lit_true}
use Rattle.rt_clause.specs.Refuting.{is_negation, IsDenial}
use Rattle.rt_clause.specs.declared.denial.Denial.{Denial}
use Rattle.rt_clause.specs.declared.denial.Denial.TheVariants.{Opposite, Line}
use Rattle.rt_clause.proofs.Bools.{or-cases, and-both}
use Rattle.rt_clause.proofs.Literals.{lit_eq-same}
use Rattle.rt_formula.specs.Shared.{Shared}
use Rattle.rt_solver.specs.Solving.{variables, HasSearched}
use Rattle.rt_solver.specs.Answers.{IsFound, IsModelled}
use Rattle.rt_solver.specs.Answers.{IsReply as IsFoundFor}
use Rattle.rt_solver.specs.declared.solver.Found.{Found}
use Rattle.rt_solver.specs.declared.solver.Found.TheVariants.{Model, Refuted, Spent}
use Rattle.rt_least.specs.Aimed.{IsAimed}
use Rattle.rt_solver.proofs.Ordered.{not-both}
use Rattle.rt_least.specs.Attempts.{IsGrown, IsTold, HasNone}
use Rattle.rt_least.proofs.Aiming.{aimed-on, model-long}

pub grown-on : (old new : List (List Literal)) (fo fn : List Bool) (assume question : Option Literal) (next first : ℕ) → first ≤ next → IfSome question (λ q. q.var < next) → HasSearched old new fo fn assume question first (variables old assume first) → IsGrown old new assume next
grown-on old new fo fn assume question next first f b s = record {
  more = _;
  lines = s.lines;
  aims = λ d goal cone a h. aimed-on d goal cone old new fo fn assume question next first f h a b s;
}

pub grown-trans : (old mid new : List (List Literal)) (assume : Option Literal) (next : ℕ) → IsGrown old mid assume next → IsGrown mid new assume next → IsGrown old new assume next
grown-trans old mid new assume next g h = record {
  more = g.more ++ h.more;
  lines = h.lines ∙ ap (λ ls. ls ++ h.more) g.lines ∙ append_assoc old g.more h.more;
  aims = λ d goal cone a k. h.aims d goal cone a (g.aims d goal cone a k);
}

told-model : (old new lines : List (List Literal)) (assume : Option Literal) (next rows first : ℕ) (budget : Option ℕ) (bools : List Bool) → rows ≤ first → IsModelled new assume (variables lines assume first) bools → IsTold old new assume next rows budget (Model bools)
told-model old new lines assume next rows first budget bools r h = (
  (let l = model-long lines assume first bools h.each in omega (arith, l, r)),
  record { each = refl; model = h.model; assumed = h.assumed },
)

-- the search over the rows
pub told-second : (old mid new : List (List Literal)) (fo fn : List Bool) (assume : Option Literal) (next rows : ℕ) (budget : Option ℕ) (found : Found) → rows ≤ next → IsGrown old mid assume next → HasSearched mid new fo fn assume None rows (variables mid assume rows)
    → IsFound mid new assume rows (variables mid assume rows) budget found → IsTold old new assume next rows budget found
told-second old mid new fo fn assume next rows budget (Model bools) r g s h = told-model old new mid assume next rows rows budget bools (omega arith) h
told-second old mid new fo fn assume next rows budget Refuted r g s h = h
told-second old mid new fo fn assume next rows None (Spent list) r g s h = absurd h
told-second old mid new fo fn assume next rows (Some b) (Spent list) r g s h = record { mid = mid; grown = g; keeps = s.sound; spent = h }

-- the aim after an attempt
pub aimed-grown : (d : Shared) (goal : ℕ) (cone : List Bool) (old new : List (List Literal)) (assume : Option Literal) (next n : ℕ) → n ≡ next → IfSome assume (λ a. a.var < next) → IsAimed d goal cone old next → IsGrown old new assume n → IsAimed d goal cone new next
aimed-grown d goal cone old new assume next n e a h g = let P : ℕ → Type 0 = λ m. IsGrown old new assume m in (subst P e g).aims d goal cone a h

-- the model that a question finds
pub reply-model : (old new : List (List Literal)) (held asked : Literal) (next rows : ℕ) (bools : List Bool) → rows ≤ next → IsFoundFor new (Some held) asked (variables old (Some held) next) (Some bools) → (rows ≤ length bools) × IsModelled new (Some held) (length bools) bools × (lit_true bools asked ≡ true)
reply-model old new held asked next rows bools r h = (
  (let l = model-long old (Some held) next bools h.0.each in omega (arith, l, r)),
  record { each = refl; model = h.0.model; assumed = h.0.assumed },
  h.1,
)

-- what the lines deny has no model
pub denied-none : (lines : List (List Literal)) (assume : Option Literal) (question : Literal) (denial : Denial) → IsDenial lines assume question denial → HasNone lines assume question
denied-none lines assume question Opposite e bools m a q = (let P : Option Literal → Type 0 = λ o. IfSome o (λ x. lit_true bools x ≡ true) in not-both bools question q (subst P e a))
denied-none lines assume question (Line i) d bools m a q = by assume a (any-all (line_at lines i) (m i d.0) d.1) where
  any-all : {p r : Literal → Bool} (ls : List Literal) → list_any p ls ≡ true → list_all r ls ≡ true → (l : Literal) × (p l ≡ true) × (r l ≡ true)
  any-all [] h g = absurd (cc)
  any-all {p = p} {r = r} (l ∷ ls) h g = let b = and-both (r l) (list_all r ls) g in elim (or-cases (p l) (list_any p ls) h) [ inl x ↦ (l, x, b.0) | inr y ↦ any-all ls y b.1 ]

  by : (o : Option Literal) → IfSome o (λ x. lit_true bools x ≡ true) → (l : Literal) × (lit_true bools l ≡ true) × (is_negation o question l ≡ true) → ⊥
  by None t k = (let P : Literal → Type 0 = λ l. lit_true bools l ≡ true in not-both bools question q (subst P (lit_eq-same k.0 (negated question) k.2) k.1))
  by (Some x) t k = (let P : Literal → Type 0 = λ l. lit_true bools l ≡ true in elim (or-cases (lit_eq k.0 (negated question)) (lit_eq k.0 (negated x)) k.2) [
    | inl y ↦ not-both bools question q (subst P (lit_eq-same k.0 (negated question) y) k.1)
    | inr y ↦ not-both bools x t (subst P (lit_eq-same k.0 (negated x) y) k.1)
  ])
