-- What a call of solve answers, from how its search ended.
use Rattle.std.proofs.Common.{◌≡◌, ℕ, max, Bool, true, List, [], ◌∷◌, ◌++◌, length, length-append, refl, sym, ap, subst, ◌∙◌, inl, Option, Some, None, IfSome, IsSomeAnd, arith}
use Rattle.std.specs.Option.{option_to_list}
use Rattle.std.proofs.Math.Nat.{le-max_right}
use Rattle.rt_clause.specs.Literal.{Literal}
use Rattle.rt_clause.specs.Lists.{has}
use Rattle.rt_clause.specs.Models.{lit_true, IsModel}
use Rattle.rt_clause.specs.Refuting.{Refutes, IsRefuted}
use Rattle.rt_store.specs.Trail.{lits, IsApart}
use Rattle.rt_store.specs.Table.{Tracked}
use Rattle.rt_solver.specs.Search.{IsReady, IsWhole, IsEnd}
use Rattle.rt_solver.specs.Solving.{reach, width, HasSearched, IsSpent}
use Rattle.rt_solver.specs.Answers.{Reads, IsModelled, IsBegun}
use Rattle.rt_store.proofs.Number.{pow-pos}
use Rattle.rt_solver.proofs.Counting.{append-nil}
use Rattle.rt_store.proofs.FreshLaws.{line_at-end}
use Rattle.rt_solver.proofs.Finish.{closed-quiet}
use Rattle.rt_solver.proofs.Ends.{whole-model, not-false-true}
use Rattle.rt_solver.proofs.Returning.{has-var}
use Rattle.rt_solver.proofs.Widths.{reach-least, width-below}

-- nothing was done
pub searched-none : (a b : List (List Literal)) (fo fn : List Bool) (assume question : Option Literal) (first m : ℕ) → a ≡ b → fo ≡ fn → HasSearched a b fo fn assume question first m
searched-none a b fo fn assume question first m e f = record {
  learned = [];
  last = [];
  lines = sym e ∙ sym (append-nil a);
  derived = sym f ∙ sym (nil fo);
  sound = λ bools q. (let P : List (List Literal) → Type 0 = λ ls. IsModel ls bools in subst P e q);
  fresh = tt;
  ends = inl refl;
  below = ((λ i h. absurd (omega arith)), (λ d i h. absurd (omega arith)));
  few = (pow-pos m, λ d. pow-pos first);
} where
  nil : (xs : List Bool) → xs ++ [] ≡ xs
  nil [] = refl
  nil (x ∷ xs) = ap (λ (ys : List Bool). x ∷ ys) (nil xs)

-- a search may begin
pub begun-ready : (lines : List (List Literal)) (assume : Option Literal) (first vars m : ℕ) (trail : Tracked) → vars ≡ width lines → m ≡ reach (max first vars) (option_to_list assume) → IsBegun m assume trail
    → IsReady lines assume trail
begun-ready lines assume first vars m trail e f b =
    let A : ℕ → Type 0 = λ n. IsApart n trail.steps in
    let l = le-max_right first vars in
    let r = reach-least (max first vars) (option_to_list assume) in
    let v = b.vars in
    record {
      founded = b.founded lines;
      assumed = b.assumed;
      below = width-below 0 trail.vars lines (omega (arith, e, f, l, r, v));
      apart = subst A (sym b.vars) b.apart;
    }

pub modelled : (a lines : List (List Literal)) (assume : Option Literal) (m : ℕ) (trail : Tracked) (bools : List Bool) → a ≡ lines → trail.vars ≡ m → IsReady lines assume trail → IsWhole lines trail
    → length bools ≡ trail.vars → Reads trail.vars trail.steps bools → IsModelled a assume m bools
modelled a lines assume m trail bools e v r w l reads =
    let closed = closed-quiet trail.vars lines trail.steps r.apart w.met in
    let P : List (List Literal) → Type 0 = λ ls. IsModelled ls assume m bools in
    subst P (sym e) (record {
      each = l ∙ v;
      model = whole-model trail.vars lines trail.steps bools reads closed r.below;
      assumed = true_at assume r.assumed;
    }) where
      true_at : (o : Option Literal) → IfSome o (λ x. has (lits trail.steps) x ≡ true) → IfSome o (λ x. lit_true bools x ≡ true)
      true_at None h = tt
      true_at (Some x) h = not-false-true trail.vars trail.steps bools reads x (has-var trail.vars trail.steps x r.apart h)
          ((closed-quiet trail.vars lines trail.steps r.apart w.met).consistent x h)

pub refuted : (a lines new : List (List Literal)) (assume : Option Literal) → a ≡ new → IsEnd lines new assume → IsRefuted a assume
refuted a lines new assume e h =
    let P : List (List Literal) → Type 0 = λ ls. IsRefuted ls assume in
    let R : List Literal → Type 0 = λ c. Refutes assume c in
    subst P (sym (e ∙ h.1)) (length lines, (let l = length-append lines (h.0 ∷ []) in omega (arith, l)), subst R (sym (line_at-end lines h.0)) h.2)

-- the budget is spent
pub spent-found : (a old b new : List (List Literal)) (assume : Option Literal) (first m vars : ℕ) (budget : Option ℕ) (list : List (List Literal)) → a ≡ old → b ≡ new → vars ≡ m
    → IsSomeAnd budget (λ n. IsSpent old new assume first vars n list) → IsSomeAnd budget (λ n. IsSpent a b assume first m n list)
spent-found a old b new assume first m vars budget list ea eb em h =
    let A : List (List Literal) → Type 0 = λ x. IsSomeAnd budget (λ n. IsSpent x b assume first m n list) in
    let B : List (List Literal) → Type 0 = λ x. IsSomeAnd budget (λ n. IsSpent old x assume first m n list) in
    let M : ℕ → Type 0 = λ x. IsSomeAnd budget (λ n. IsSpent old new assume first x n list) in
    subst A (sym ea) (subst B (sym eb) (subst M em h))
