-- What a spent budget leaves.
use Rattle.std.proofs.Common.{◌≡◌, ℕ, ◌<◌, ◌≤◌, ◌^◌, Bool, true, false, not, ◌||◌, ◌⊎◌, inl, inr, List, [], ◌∷◌, ◌++◌, map, length, length-append, refl, sym, ap, subst, ◌∙◌, Option, Some, None, IfSome, IsSomeAnd, arith}
use Rattle.std.specs.Bool.{beq}
use Rattle.rt_value.specs.Keep.{size}
use Rattle.rt_clause.specs.Literal.{Literal, negated}
use Rattle.rt_clause.specs.Lists.{has, line_at, IsMet, Closed, Determined, Fresh, IsBelow, AreBelow}
use Rattle.rt_clause.specs.Models.{lit_true, clause_true, IsModel}
use Rattle.rt_clause.specs.Gates.{AgreeBelow}
use Rattle.rt_clause.proofs.Literals.{has-head, has-tail, has-cases, has-append_cases, negated-twice}
use Rattle.rt_clause.proofs.Following.{lit_true-negated}
use Rattle.rt_clause.proofs.EachLine.{EachLine, each-none, each-cons, each-head, each-tail, each-append, each-front, each-back, closed-front}
use Rattle.rt_clause.proofs.GateLaws.{IsTrueAt}
use Rattle.rt_clause.proofs.Bools.{bool-cases}
use Rattle.rt_formula.specs.Shared.{Shared}
use Rattle.rt_solver.specs.Search.{KeepsModels, line_of, AreFresh}
use Rattle.rt_solver.specs.Solving.{variables, IsSpent}
use Rattle.rt_least.specs.Sought.{AreInside, IsSought, IsSpentWithin, not_kept}
use Rattle.rt_least.specs.Nogoods.{IsBetter, AreFreshAlone}
use Rattle.rt_least.specs.Aimed.{IsAimed, HasCounter, fewer_than}
use Rattle.rt_least.proofs.Apart.{fresh-apart}
use Rattle.rt_least.proofs.Aiming.{variables-le, determined-less, fewer-means, lt-not-le}

pub fresh-some : (lines : List (List Literal)) (assume : Option Literal) (cs : List (List Literal)) → AreFresh lines assume cs → EachLine (λ c. 0 < length c) cs
fresh-some lines assume [] h = each-none (λ c. 0 < length c)
fresh-some lines assume (c ∷ cs) h =
    each-cons (λ x. 0 < length x) c cs (let e = ap length h.0.parts in let l = length-append h.0.front (h.0.last ∷ []) in omega (arith, e, l)) (fresh-some (lines ++ line_of assume c ∷ []) assume cs h.1)

clash : {b : Bool} → b ≡ true → b ≡ false → ⊥
clash p q = cc

-- under a set with the assumption its negation does not count
pub met-without : (set : List Literal) (assume : Option Literal) (c : List Literal) → ((k : Literal) → has set k ≡ true → has set (negated k) ≡ false) → IfSome assume (λ a. has set a ≡ true) → IsMet set (line_of assume c) → IsMet set c
met-without set assume c once a m = elim m [
  | inl x ↦ elim (among assume a x.0 x.1) [ inl h ↦ inl (x.0, h, x.2) | inr n ↦ absurd (clash n (once x.0 x.2)) ]
  | inr y ↦ elim (among assume a y.0 y.2) [
    | inl h ↦ elim (among assume a y.1 y.3) [ inl g ↦ inr (y.0, y.1, h, g, y.4, y.5, y.6) | inr n ↦ absurd (clash n y.6) ]
    | inr n ↦ absurd (clash n y.5)
  ]
] where
  among : (o : Option Literal) → IfSome o (λ x. has set x ≡ true) → (k : Literal) → has (line_of o c) k ≡ true → (has c k ≡ true) ⊎ (has set (negated k) ≡ true)
  among None t k h = elim (has-append_cases c [] k h) [ inl p ↦ inl p | inr q ↦ absurd (cc) ]
  among (Some x) t k h = elim (has-append_cases c (negated x ∷ []) k h) [
    | inl p ↦ inl p
    | inr q ↦ elim (has-cases (negated x) k [] q) [ inl e ↦ inr (ap (λ y. has set (negated y)) e ∙ ap (has set) (negated-twice x) ∙ t) | inr r ↦ absurd (cc) ]
  ]

-- the clauses are fresh over one another, without the lines and the assumption
fresh-alone : (lines before : List (List Literal)) (assume : Option Literal) (cs : List (List Literal))
    → ((set : List Literal) → Closed lines set → IfSome assume (λ a. has set a ≡ true) → EachLine (IsMet set) before) → AreFresh lines assume cs → AreFreshAlone before cs
fresh-alone lines before assume [] h f = tt
fresh-alone lines before assume (c ∷ cs) h f = (
  (let x = f.0 in record {
    front = x.front;
    last = x.last;
    parts = x.parts;
    once = x.once;
    set = x.set;
    closed = record { consistent = x.closed.consistent; met = h x.set x.closed x.assumed };
    assumed = tt;
    denied = x.denied;
    unset = x.unset;
    unset_negated = x.unset_negated;
  }),
  fresh-alone (lines ++ line_of assume c ∷ []) (before ++ c ∷ []) assume cs
      (λ set k a. each-append (IsMet set) before (c ∷ []) (h set (record { consistent = k.consistent; met = each-front (IsMet set) lines (line_of assume c ∷ []) k.met }) a)
      (each-cons (IsMet set) c [] (met-without set assume c k.consistent a (each-head (IsMet set) (line_of assume c) [] (each-back (IsMet set) lines (line_of assume c ∷ []) k.met))) (each-none (IsMet set))))
      f.1,
)

pub any-append : (bools : List Bool) (xs ys : List Literal) → clause_true bools (xs ++ ys) ≡ (clause_true bools xs || clause_true bools ys)
any-append bools [] ys = refl
any-append bools (x ∷ xs) ys = ap (λ b. lit_true bools x || b) (any-append bools xs ys) ∙ by (lit_true bools x) (clause_true bools xs) (clause_true bools ys) where
  by : (a b c : Bool) → (a || (b || c)) ≡ ((a || b) || c)
  by true b c = refl
  by false b c = refl

or-none : (b c : Bool) → (b || c) ≡ true → c ≡ false → b ≡ true
or-none true c h e = refl
or-none false c h e = cc

-- where the assumption is true the clause alone is
pub line-true : (bools : List Bool) (assume : Option Literal) (c : List Literal) → IfSome assume (λ a. lit_true bools a ≡ true) → clause_true bools (line_of assume c) ≡ true → clause_true bools c ≡ true
line-true bools None c a h = or-none (clause_true bools c) (clause_true bools []) (sym (any-append bools c []) ∙ h) refl
line-true bools (Some x) c a h =
    let n = lit_true-negated bools x ∙ ap not a in
    or-none (clause_true bools c) (clause_true bools (negated x ∷ [])) (sym (any-append bools c (negated x ∷ [])) ∙ h) (ap (λ b. b || false) n)

pub each-line : (P : List Literal → Type 0) (assume : Option Literal) (cs : List (List Literal)) → EachLine P (map (line_of assume) cs) → EachLine (λ c. P (line_of assume c)) cs
each-line P assume [] h = each-none (λ c. P (line_of assume c))
each-line P assume (c ∷ cs) h = each-cons (λ x. P (line_of assume x)) c cs (each-head P (line_of assume c) (map (line_of assume) cs) h) (each-line P assume cs (each-tail P (line_of assume c) (map (line_of assume) cs) h))

pub clause-agrees : (n : ℕ) (xs ys : List Bool) (c : List Literal) → AgreeBelow n xs ys → IsBelow n c → clause_true xs c ≡ clause_true ys c
clause-agrees n xs ys [] a b = refl
clause-agrees n xs ys (l ∷ ls) a b =
    let p : lit_true xs l ≡ lit_true ys l = ap (λ x. beq x l.on) (a l.var (b l (has-head l ls))) in
    let q = clause-agrees n xs ys ls a (λ k h. b k (has-tail l k ls h)) in
    ap (λ x. x || clause_true xs ls) p ∙ ap (λ x. lit_true ys l || x) q

-- a literal that propagation over the lines gives is in no fresh clause
pub fresh-without : (lines : List (List Literal)) (assume : Option Literal) (given : Literal) (cs : List (List Literal)) → ((set : List Literal) → Closed lines set → has set given ≡ true) → AreFresh lines assume cs
    → EachLine (λ c. has c given ≡ false) cs
fresh-without lines assume given [] h f = each-none (λ c. has c given ≡ false)
fresh-without lines assume given (c ∷ cs) h f =
    each-cons (λ x. has x given ≡ false) c cs (elim (bool-cases (has c given)) [ inl y ↦ absurd (among f.0 y) | inr n ↦ n ])
    (fresh-without (lines ++ line_of assume c ∷ []) assume given cs (λ set k. h set (closed-front lines (line_of assume c ∷ []) set k)) f.1) where
      among : (x : Fresh lines assume c) → has c given ≡ true → ⊥
      among x y =
          let g = h x.set x.closed in
          let P : List Literal → Type 0 = λ ls. has ls given ≡ true in
          elim (has-append_cases x.front (x.last ∷ []) given (subst P x.parts y)) [
            | inl z ↦ clash (x.denied given z) (x.closed.consistent given g)
            | inr z ↦ elim (has-cases x.last given [] z) [ inl e ↦ clash (ap (has x.set) (sym e) ∙ g) x.unset | inr n ↦ absurd (cc) ]
          ]

-- no fresh clause has the literal that a row outside of the cone is not kept
pub inside-fresh : (d : Shared) (goal : ℕ) (cone : List Bool) (lines : List (List Literal)) (next : ℕ) (assume : Option Literal) (cs : List (List Literal)) → IsAimed d goal cone lines next → AreFresh lines assume cs → AreInside d.rows cone cs
inside-fresh d goal cone lines next assume cs h f i l v b o = fresh-without lines assume (not_kept v) cs (h.outside v b o) f i l

-- what solve says of a spent budget, as the search says it
pub spent-best : (d : Shared) (goal : ℕ) (cone : List Bool) (lines new : List (List Literal)) (assume : Option Literal) (next rows budget : ℕ) (best : Option (List Bool)) (list : List (List Literal)) → rows ≡ d.rows → IsAimed d goal cone lines next → IfSome assume (λ a. a.var < next)
    → KeepsModels lines new → ((keep bools : List Bool) → IsSought d goal cone keep → IsBetter best false keep → AgreeBelow d.rows keep bools → IsModel lines bools → IfSome assume (λ a. lit_true bools a ≡ true))
    → IfSome best (IsSought d goal cone) → IsSpent lines new assume rows (variables lines assume rows) budget list → IsSpentWithin d goal cone budget best false list
spent-best d goal cone lines new assume next rows budget best list e h a keeps assumed b s =
    let w = h.wide in
    let alone = fresh-alone lines [] assume list (λ set k t. each-none (IsMet set)) s.fresh in
    let det : Determined lines d.rows (variables lines assume rows) = determined-less lines d.rows (variables lines assume rows) next (variables-le next lines assume rows (omega (arith, e, w)) h.below a) h.determined in
    let D : ℕ → Type 0 = λ n. Determined lines n (variables lines assume rows) in
    let S : ℕ → Type 0 = λ n. budget < 2 ^ n in
    let B : ℕ → Type 0 = λ n. AreBelow n list in
    let low = subst B e (s.below.1 (subst D (sym e) det)) in (
      record {
        small = subst S e (s.small.1 (subst D (sym e) det));
        best_is = b;
        least_is = λ t. cc;
        spent = record {
          all = s.all;
          each = λ i l. record {
            some = fresh-some lines assume list s.fresh i l;
            below = low i l;
            holds = λ keep g better.
                let x = h.complete keep g in
                let M : List (List Literal) → Type 0 = λ ls. IsModel ls x.0 in
                let lines_true = each-line (IsTrueAt x.0) assume list (each-back (IsTrueAt x.0) lines (map (line_of assume) list) (subst M s.lines (keeps x.0 x.3))) i l in
                clause-agrees d.rows keep x.0 (line_at list i) x.2 (low i l) ∙ line-true x.0 assume (line_at list i) (assumed keep x.0 g better x.2 x.3) lines_true;
          };
          fresh = alone;
          apart = λ i j b l. fresh-apart [] list alone i j b (omega arith) l;
        };
      },
      inside-fresh d goal cone lines next assume list h s.fresh,
    )

pub spent-none : (d : Shared) (goal : ℕ) (cone : List Bool) (lines new : List (List Literal)) (next rows : ℕ) (budget : Option ℕ) (list : List (List Literal)) → rows ≡ d.rows → IsAimed d goal cone lines next → KeepsModels lines new
    → IsSomeAnd budget (λ b. IsSpent lines new None rows (variables lines None rows) b list) → IsSomeAnd budget (λ b. IsSpentWithin d goal cone b None false list)
spent-none d goal cone lines new next rows None list e h k s = absurd s
spent-none d goal cone lines new next rows (Some n) list e h k s = spent-best d goal cone lines new None next rows n None list e h tt k (λ keep bools g t a m. tt) tt s

pub spent-some : (d : Shared) (goal : ℕ) (cone : List Bool) (lines new : List (List Literal)) (a : Literal) (next rows : ℕ) (budget : Option ℕ) (best : List Bool) (outs : List Literal) (most : ℕ) (list : List (List Literal)) → rows ≡ d.rows → IsAimed d goal cone lines next → HasCounter d lines next outs
    → a.var < next → a ≡ fewer_than outs most → most ≡ size best → 0 < most → most ≤ length outs → KeepsModels lines new → IsSought d goal cone best
    → IsSomeAnd budget (λ b. IsSpent lines new (Some a) rows (variables lines (Some a) rows) b list) → IsSomeAnd budget (λ b. IsSpentWithin d goal cone b (Some best) false list)
spent-some d goal cone lines new a next rows None best outs most list e h c low ae me z o k b s = absurd s
spent-some d goal cone lines new a next rows (Some n) best outs most list e h c low ae me z o k b s =
    spent-best d goal cone lines new (Some a) next rows n (Some best) list e h low k
    (λ keep bools g t ag m. ap (lit_true bools) ae ∙ fewer-means d lines next outs most c z o keep bools g.0 ag m ∙ ap not (lt-not-le most (size keep) (omega (arith, t, me)))) b s
