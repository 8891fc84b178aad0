-- Lines that go on over more variables.
use Rattle.std.proofs.Common.{◌≡◌, ℕ, zero, suc, ◌+◌, ◌<◌, ◌≤◌, nat_lt, Bool, true, false, not, ◌||◌, ◌⊎◌, inl, inr, List, [], ◌∷◌, ◌++◌, append_assoc, map, length, length-append, slice_index_or, refl, sym, ap, subst, ◌∙◌, arith, rules}
use Rattle.std.specs.Bool.{beq}
use Rattle.std.specs.List.{list_all}
use Rattle.rt_clause.specs.Literal.{Literal, negated}
use Rattle.rt_clause.specs.Lists.{has, line_at, IsMet, Decides, IsBelow, AreBelow}
use Rattle.rt_clause.specs.Models.{lit_true, clause_true, IsModel}
use Rattle.rt_clause.specs.Gates.{gate, Extends}
use Rattle.rt_clause.proofs.Bools.{bool-cases}
use Rattle.rt_clause.proofs.Literals.{has-head, has-tail, has-cases, has-map_negated}
use Rattle.rt_clause.proofs.EachLine.{each-none, each-cons, each-append, each-front, each-back, closed-front}
use Rattle.rt_clause.proofs.GateLaws.{IsTrueAt, IsDecided, gate-true, gate-forces, gate-decides}

pub index-front : (xs ys : List Bool) (v : ℕ) → v < length xs → slice_index_or (xs ++ ys) v false ≡ slice_index_or xs v false
index-front [] ys v h = absurd (omega arith)
index-front (x ∷ xs) ys zero h = refl
index-front (x ∷ xs) ys (suc v) h = index-front xs ys v (omega arith)

pub index-end : (xs : List Bool) (b : Bool) → slice_index_or (xs ++ b ∷ []) (length xs) false ≡ b
index-end [] b = refl
index-end (x ∷ xs) b = index-end xs b

pub lit_true-front : (xs ys : List Bool) (l : Literal) → l.var < length xs → lit_true (xs ++ ys) l ≡ lit_true xs l
lit_true-front xs ys l h = ap (λ b. beq b l.on) (index-front xs ys l.var h)

pub clause_true-front : (xs ys : List Bool) (c : List Literal) → IsBelow (length xs) c → clause_true (xs ++ ys) c ≡ clause_true xs c
clause_true-front xs ys [] b = refl
clause_true-front xs ys (l ∷ ls) b =
    let p = lit_true-front xs ys l (b l (has-head l ls)) in
    let q = clause_true-front xs ys ls (λ k h. b k (has-tail l k ls h)) in
    ap (λ x. x || clause_true (xs ++ ys) ls) p ∙ ap (λ x. lit_true xs l || x) q

pub all_true-front : (xs ys : List Bool) (c : List Literal) → IsBelow (length xs) c → list_all (lit_true (xs ++ ys)) c ≡ list_all (lit_true xs) c
all_true-front xs ys [] b = refl
all_true-front xs ys (l ∷ ls) b =
    let p = lit_true-front xs ys l (b l (has-head l ls)) in
    let q = all_true-front xs ys ls (λ k h. b k (has-tail l k ls h)) in cc

pub model-front : (xs ys : List Bool) (lines : List (List Literal)) → AreBelow (length xs) lines → IsModel lines xs → IsModel lines (xs ++ ys)
model-front xs ys lines b m i h = clause_true-front xs ys (line_at lines i) (b i h) ∙ m i h

below-wider : (n m : ℕ) → n ≤ m → (lines : List (List Literal)) → AreBelow n lines → AreBelow m lines
below-wider n m h lines b i g l q = let p = b i g l q in omega (arith, p, h)

pairs-below : (m : ℕ) (out : Literal) (lits : List Literal) → out.var < m → IsBelow m lits → AreBelow m (map (λ l. negated out ∷ l ∷ []) lits)
pairs-below m out [] o b = each-none (IsBelow m)
pairs-below m out (x ∷ xs) o b = each-cons (IsBelow m) (negated out ∷ x ∷ []) (map (λ l. negated out ∷ l ∷ []) xs) here (pairs-below m out xs o (λ k g. b k (has-tail x k xs g))) where
  here : (l : Literal) → has (negated out ∷ x ∷ []) l ≡ true → l.var < m
  here l h = elim (has-cases (negated out) l (x ∷ []) h) [
    | inl e ↦ (let P : ℕ → Type 0 = λ v. v < m in subst P (ap (λ (k : Literal). k.var) (sym e)) o)
    | inr r ↦ elim (has-cases x l [] r) [ inl e ↦ (let P : ℕ → Type 0 = λ v. v < m in subst P (ap (λ (k : Literal). k.var) (sym e)) (b x (has-head x xs))) | inr c ↦ absurd (cc) ]
  ]

pub gate-below : (m : ℕ) (out : Literal) (lits : List Literal) → out.var < m → IsBelow m lits → AreBelow m (gate out lits)
gate-below m out lits o b =
    each-append (IsBelow m) (map (λ l. negated out ∷ l ∷ []) lits) ((out ∷ map negated lits) ∷ []) (pairs-below m out lits o b)
    (each-cons (IsBelow m) (out ∷ map negated lits) [] here (each-none (IsBelow m))) where
      here : (l : Literal) → has (out ∷ map negated lits) l ≡ true → l.var < m
      here l h = elim (has-cases out l (map negated lits) h) [
        | inl e ↦ (let P : ℕ → Type 0 = λ v. v < m in subst P (ap (λ (k : Literal). k.var) (sym e)) o)
        | inr r ↦ b (negated l) (has-map_negated lits l r)
      ]

-- a closed set that decides the variables below n decides literals over them
pub decides-lit : (set : List Literal) (n : ℕ) (l : Literal) → Decides set n → l.var < n → IsDecided set l
decides-lit set n l d h = by l.on (d l.var h).0 (d l.var h).1 where
  by : (on x : Bool) → has set (record { var = l.var; on = x }) ≡ true → (has set (record { var = l.var; on = on }) ≡ true) ⊎ (has set (record { var = l.var; on = not on }) ≡ true)
  by true true h = inl h
  by true false h = inr h
  by false true h = inr h
  by false false h = inl h

decides-more : (set : List Literal) (n : ℕ) (out : Literal) → out.var ≡ n → Decides set n → IsDecided set out → Decides set (n + 1)
decides-more set n out e d o v h = elim (bool-cases (nat_lt v n)) [
  | inl y ↦ d v (search rules)
  | inr y ↦ (let g : n ≤ v = search rules in let q : v ≡ out.var = omega (arith, g, h, e) in
      let P : ℕ → Type 0 = λ w. (on : Bool) × (has set (record { var = w; on = on }) ≡ true) in
      subst P (sym q) (elim o [ inl t ↦ (out.on, t) | inr t ↦ (not out.on, t) ]))
]

pub extends-none : (lines : List (List Literal)) (n : ℕ) → Extends lines n lines n
extends-none lines n = record {
  more = [];
  lines = sym (nil lines);
  wider = omega arith;
  below = λ b. b;
  extends = λ b bools l m. ([], ap length (nils bools) ∙ l, (let P : List Bool → Type 0 = IsModel lines in subst P (sym (nils bools)) m));
  determined = λ k d. d;
} where
  nil : (xs : List (List Literal)) → xs ++ [] ≡ xs
  nil [] = refl
  nil (x ∷ xs) = ap (λ ys. x ∷ ys) (nil xs)

  nils : (xs : List Bool) → xs ++ [] ≡ xs
  nils [] = refl
  nils (x ∷ xs) = ap (λ (ys : List Bool). x ∷ ys) (nils xs)

pub extends-on : (a b c : List (List Literal)) (n k m : ℕ) → Extends a n b k → Extends b k c m → Extends a n c m
extends-on a b c n k m e f = record {
  more = e.more ++ f.more;
  lines = f.lines ∙ ap (λ ls. ls ++ f.more) e.lines ∙ append_assoc a e.more f.more;
  wider = (let x = e.wider in let y = f.wider in omega (arith, x, y));
  below = λ g. f.below (e.below g);
  extends = λ g bools l h.
      let x = e.extends g bools l h in
      let y = f.extends (e.below g) (bools ++ x.0) x.1 x.2 in
      let q : (bools ++ x.0) ++ y.0 ≡ bools ++ (x.0 ++ y.0) = append_assoc bools x.0 y.0 in
      let M : List Bool → Type 0 = IsModel c in
      (x.0 ++ y.0, ap length (sym q) ∙ y.1, subst M q y.2);
  determined = λ j d. f.determined j (e.determined j d);
}

-- a gate over older variables with a new one as its output
pub extends-gate : (lines : List (List Literal)) (n : ℕ) (out : Literal) (lits : List Literal) → out.var ≡ n → IsBelow n lits → Extends lines n (lines ++ gate out lits) (n + 1)
extends-gate lines n out lits e low = record {
  more = gate out lits;
  lines = refl;
  wider = omega arith;
  below = λ b. each-append (IsBelow (n + 1)) lines (gate out lits) (below-wider n (n + 1) (omega arith) lines b)
      (gate-below (n + 1) out lits (omega (arith, e)) (λ l h. let p = low l h in omega (arith, p)));
  extends = λ b bools l m.
      let value = beq (list_all (lit_true bools) lits) out.on in
      let AB : ℕ → Type 0 = λ k. AreBelow k lines in
      let IB : ℕ → Type 0 = λ k. IsBelow k lits in
      let LB = length-append bools (value ∷ []) in
      let at : slice_index_or (bools ++ value ∷ []) out.var false ≡ value = ap (λ v. slice_index_or (bools ++ value ∷ []) v false) (e ∙ sym l) ∙ index-end bools value in
      let gives : lit_true (bools ++ value ∷ []) out ≡ list_all (lit_true (bools ++ value ∷ [])) lits =
      ap (λ x. beq x out.on) at ∙ twice (list_all (lit_true bools) lits) out.on ∙ sym (all_true-front bools (value ∷ []) lits (subst IB (sym l) low)) in (
        value ∷ [],
        omega (arith, LB, l),
        each-append (IsTrueAt (bools ++ value ∷ [])) lines (gate out lits) (model-front bools (value ∷ []) lines (subst AB (sym l) b) m) (gate-true (bools ++ value ∷ []) out lits gives),
      );
  determined = λ k d set c g.
      let old = d set (closed-front lines (gate out lits) set c) g in
      decides-more set n out e old (gate-decides set out lits c.consistent (each-back (IsMet set) lines (gate out lits) c.met) (λ l h. decides-lit set n l old (low l h)));
} where
  twice : (a b : Bool) → beq (beq a b) b ≡ a
  twice true true = refl
  twice true false = refl
  twice false true = refl
  twice false false = refl

-- and what it means there
pub gate-means : (lines : List (List Literal)) (out : Literal) (lits : List Literal) (bools : List Bool) → IsModel (lines ++ gate out lits) bools → lit_true bools out ≡ list_all (lit_true bools) lits
gate-means lines out lits bools m = gate-forces bools out lits (each-back (IsTrueAt bools) lines (gate out lits) m)

pub model-older : (lines more : List (List Literal)) (bools : List Bool) → IsModel (lines ++ more) bools → IsModel lines bools
model-older lines more bools m = each-front (IsTrueAt bools) lines more m
