-- From the choices within the cone to all choices: a choice that is cut to the cone keeps no more
-- rows, and the goal stays true.
use Rattle.std.proofs.Common.{◌≡◌, ℕ, ◌+◌, ◌<◌, ◌≤◌, Bool, true, false, cond, inl, inr, List, [], ◌∷◌, refl, sym, ap, subst, ◌∙◌, Option, Some, None, IfSome, IsSomeAnd, arith}
use Rattle.std.proofs.lemmas.List.Sums.{sum_by-cons}
use Rattle.std.specs.Bool.{beq}
use Rattle.rt_value.specs.Keep.{size}
use Rattle.rt_clause.specs.Literal.{Literal}
use Rattle.rt_clause.specs.Lists.{has, line_at, IsBelow}
use Rattle.rt_clause.specs.Models.{lit_true, clause_true}
use Rattle.rt_clause.proofs.Bools.{bool-cases, or-cases, or-false, or-left, or-right}
use Rattle.rt_clause.proofs.Literals.{has-head, has-tail}
use Rattle.rt_formula.specs.Cut.{cut}
use Rattle.rt_formula.specs.Shared.{Shared, bool_at, val}
use Rattle.rt_formula.proofs.Cutting.{cut-length, cut-in, cut-out, cut-size}
use Rattle.rt_least.specs.Least.{HasFewest, IsBest, IsEnough, IsGoal, IsLeast, IsSpentBest}
use Rattle.rt_least.specs.Nogoods.{IsBetter}
use Rattle.rt_least.specs.Sought.{IsBestWithin, IsSought, IsSpentWithin, not_kept}
use Rattle.rt_least.specs.declared.best.Best.{Best}
use Rattle.rt_least.specs.declared.best.Best.TheVariants.{Least, Never, Spent}

clash : {b : Bool} → b ≡ true → b ≡ false → ⊥
clash p q = cc

one-more : (xs : List Bool) → size (true ∷ xs) ≡ 1 + size xs
one-more xs = sum_by-cons (λ b. cond b 1 0) true xs

none-more : (xs : List Bool) → size (false ∷ xs) ≡ 0 + size xs
none-more xs = sum_by-cons (λ b. cond b 1 0) false xs

-- a choice that keeps as many rows after the cut is the same after it
cut-same : (keep set : List Bool) → size keep ≤ size (cut keep set) → cut keep set ≡ keep
cut-same [] set h = refl
cut-same (false ∷ keep) [] h =
    let a = none-more keep in
    let b = none-more (cut keep []) in
    ap (λ (xs : List Bool). false ∷ xs) (cut-same keep [] (omega (arith, h, a, b)))
cut-same (true ∷ keep) [] h = absurd (let a = one-more keep in let b = none-more (cut keep []) in let c = cut-size keep [] in omega (arith, h, a, b, c))
cut-same (true ∷ keep) (true ∷ set) h =
    let a = one-more keep in
    let b = one-more (cut keep set) in
    ap (λ (xs : List Bool). true ∷ xs) (cut-same keep set (omega (arith, h, a, b)))
cut-same (true ∷ keep) (false ∷ set) h = absurd (let a = one-more keep in let b = none-more (cut keep set) in let c = cut-size keep set in omega (arith, h, a, b, c))
cut-same (false ∷ keep) (c ∷ set) h =
    let a = none-more keep in
    let b = none-more (cut keep set) in
    ap (λ (xs : List Bool). false ∷ xs) (cut-same keep set (omega (arith, h, a, b)))

cut-sought : (d : Shared) (goal : ℕ) (cone keep : List Bool) → IsEnough d goal cone → IsGoal d goal keep → IsSought d goal cone (cut keep cone)
cut-sought d goal cone keep enough g = (cut-length keep cone ∙ g.0, enough keep g, λ v l o. cut-out keep cone v o)

whole-fewest : (d : Shared) (goal : ℕ) (cone keep : List Bool) → IsEnough d goal cone → HasFewest (IsSought d goal cone) keep → HasFewest (IsGoal d goal) keep
whole-fewest d goal cone keep enough f other g =
    let m = f (cut other cone) (cut-sought d goal cone other enough g) in
    let c = cut-size other cone in
    omega (arith, m, c)

whole-least : (d : Shared) (goal : ℕ) (cone keep : List Bool) → IsEnough d goal cone → IsLeast (IsSought d goal cone) keep → IsLeast (IsGoal d goal) keep
whole-least d goal cone keep enough l = record {
  is_target = (l.is_target.0, l.is_target.1);
  least = whole-fewest d goal cone keep enough l.least;
  first = λ other g e b.
      let s = cut-sought d goal cone other enough g in
      let m = l.least (cut other cone) s in
      let S : List Bool → Type 0 = IsSought d goal cone in
      l.first other (subst S (cut-same other cone (omega (arith, m, e))) s) e b;
}

-- a clause that is true at a cut choice is true before the cut, where it does not have the
-- literal that a row outside of the cone is not kept
true-uncut : (rows : ℕ) (cone keep : List Bool) (c : List Literal) → IsBelow rows c → ((v : ℕ) → v < rows → bool_at cone v ≡ false → has c (not_kept v) ≡ false) → clause_true (cut keep cone) c ≡ true → clause_true keep c ≡ true
true-uncut rows cone keep [] b n h = h
true-uncut rows cone keep (l ∷ ls) b n h = elim (or-cases (lit_true (cut keep cone) l) (clause_true (cut keep cone) ls) h) [
  | inl y ↦ or-left (lit_true keep l) (clause_true keep ls) (one l (b l (has-head l ls)) (λ e. (let P : Literal → Type 0 = λ k. has (l ∷ ls) k ≡ true in subst P e (has-head l ls))) y)
  | inr y ↦ or-right (lit_true keep l) (clause_true keep ls) (true-uncut rows cone keep ls (λ k g. b k (has-tail l k ls g)) (λ v w o. (or-false _ (has ls (not_kept v)) (n v w o)).1) y)
] where
  off : (k : Literal) → bool_at (cut keep cone) k.var ≡ false → lit_true (cut keep cone) k ≡ true → k ≡ not_kept k.var
  off k f t = by k.on (ap (λ x. beq x k.on) (sym f) ∙ t) refl where
    by : (b : Bool) → beq false b ≡ true → b ≡ k.on → k ≡ not_kept k.var
    by true p q = absurd (cc)
    by false p q = ap (λ x. record { var = k.var; on = x }) (sym q)

  one : (k : Literal) → k.var < rows → (k ≡ not_kept k.var → has (l ∷ ls) (not_kept k.var) ≡ true) → lit_true (cut keep cone) k ≡ true → lit_true keep k ≡ true
  one k w m t = elim (bool-cases (bool_at cone k.var)) [
    | inl i ↦ ap (λ x. beq x k.on) (sym (cut-in keep cone k.var i)) ∙ t
    | inr o ↦ absurd (clash (m (off k (cut-out keep cone k.var o) t)) (n k.var w o))
  ]

cut-better : (best : Option (List Bool)) (least : Bool) (cone keep : List Bool) → IsBetter best least keep → IsBetter best least (cut keep cone)
cut-better None least cone keep b = b
cut-better (Some x) true cone keep b = let c = cut-size keep cone in omega (arith, b, c)
cut-better (Some x) false cone keep b = let c = cut-size keep cone in omega (arith, b, c)

whole-best_is : (d : Shared) (goal : ℕ) (cone : List Bool) (best : Option (List Bool)) → IfSome best (IsSought d goal cone) → IfSome best (IsGoal d goal)
whole-best_is d goal cone None h = tt
whole-best_is d goal cone (Some keep) h = (h.0, h.1)

whole-least_is : (d : Shared) (goal : ℕ) (cone : List Bool) (best : Option (List Bool)) → IsEnough d goal cone → IsSomeAnd best (HasFewest (IsSought d goal cone)) → IsSomeAnd best (HasFewest (IsGoal d goal))
whole-least_is d goal cone None enough h = h
whole-least_is d goal cone (Some keep) enough h = whole-fewest d goal cone keep enough h

whole-spent : (d : Shared) (goal : ℕ) (cone : List Bool) (budget : ℕ) (best : Option (List Bool)) (least : Bool) (nogoods : List (List Literal)) → IsEnough d goal cone → IsSpentWithin d goal cone budget best least nogoods
    → IsSpentBest d.rows (IsGoal d goal) budget best least nogoods
whole-spent d goal cone budget best least nogoods enough w = record {
  small = w.0.small;
  best_is = whole-best_is d goal cone best w.0.best_is;
  least_is = λ t. whole-least_is d goal cone best enough (w.0.least_is t);
  spent = record {
    all = w.0.spent.all;
    each = λ i l. (let n = w.0.spent.each i l in record {
      some = n.some;
      below = n.below;
      holds = λ keep g b. true-uncut d.rows cone keep (line_at nogoods i) n.below (w.1 i l) (n.holds (cut keep cone) (cut-sought d goal cone keep enough g) (cut-better best least cone keep b));
    });
    fresh = w.0.spent.fresh;
    apart = w.0.spent.apart;
  };
}

-- what is found within the cone is found of all choices
pub whole-best : (d : Shared) (goal : ℕ) (cone : List Bool) (budget : Option ℕ) (best : Best) → IsEnough d goal cone → IsBestWithin d goal cone budget best → IsBest d goal budget best
whole-best d goal cone budget (Least keep) enough l = whole-least d goal cone keep enough l
whole-best d goal cone budget Never enough n = λ keep l. elim (bool-cases (val d keep goal)) [
  | inl y ↦ absurd (clash (enough keep (l, y)) (n (cut keep cone) (cut-length keep cone ∙ l) (λ v b o. cut-out keep cone v o)))
  | inr y ↦ y
]
whole-best d goal cone None (Spent s) enough w = w
whole-best d goal cone (Some b) (Spent s) enough w = whole-spent d goal cone b s.best s.least s.nogoods enough w
