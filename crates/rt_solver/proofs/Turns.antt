-- A watched literal that is false, and what becomes of it.
use Rattle.std.proofs.Common.{◌≡◌, ◌≢◌, ℕ, ◌-◌, ◌<◌, ◌≤◌, true, false, nat_eq, List, [], length, get_or, swap, sym, ap, subst, ◌∙◌, ◌⊎◌, inl, inr, Some, arith, rules}
use Rattle.std.proofs.lemmas.List.Edits.{length-swap, swapped_from_swap}
use Rattle.rt_clause.specs.Literal.{Literal}
use Rattle.rt_clause.specs.Lists.{has, is_false}
use Rattle.rt_clause.proofs.Bools.{bool-cases}
use Rattle.rt_store.specs.declared.trail.Step.{Step}
use Rattle.rt_store.specs.Trail.{lits, IsUnit}
use Rattle.rt_store.specs.Watching.{literal_in}
use Rattle.rt_solver.specs.Turning.{AreFalseFrom, IsMoved}
use Rattle.rt_store.proofs.Looks.{has-at}
use Rattle.rt_store.proofs.Copies.{place-of, read-same, literal-at, literal-long, literal-read, spread-from, swap-same}

-- all but the other watched literal are false
pub others-false : (t : List Step) (c : List Literal) (p : ℕ) (l other : Literal) → p < 2 → literal_in c p ≡ Some l → is_false (lits t) l ≡ true → literal_in c (1 - p) ≡ Some other → AreFalseFrom t c other
    → (k : Literal) → has c k ≡ true → (k ≡ other) ⊎ (is_false (lits t) k ≡ true)
others-false t c p l other b e f o rest k h =
    let q = place-of c k h in
    let j = q.0 in
    let long = literal-long c p l e in
    elim (bool-cases (nat_eq j p)) [
      | inl y ↦ (let s : j ≡ p = search rules in
          let r : k ≡ l = (let P : ℕ → Type 0 = λ n. k ≡ get_or c n k in read-same c p k l (omega (arith, b, long)) (subst P s q.2) (literal-read c p l b e)) in
          inr (let P : Literal → Type 0 = λ x. is_false (lits t) x ≡ true in subst P (sym r) f))
      | inr y ↦ elim (bool-cases (nat_eq j (1 - p))) [
        | inl z ↦ (let s : j ≡ 1 - p = search rules in
            inl (let P : ℕ → Type 0 = λ n. k ≡ get_or c n k in read-same c (1 - p) k other (omega (arith, b, long)) (subst P s q.2) (literal-read c (1 - p) other (omega arith) o)))
        | inr z ↦ (let a : j ≢ p = differ j p y in let d : j ≢ 1 - p = differ j (1 - p) z in
            rest j k (omega (arith, a, d, b)) q.1 q.2)
      ]
    ] where
      differ : (i n : ℕ) → nat_eq i n ≡ false → i ≢ n
      differ i n g w = let s : nat_eq i n ≡ true = search rules in cc

pub held-unit : (t : List Step) (c : List Literal) (p : ℕ) (l other : Literal) → p < 2 → literal_in c p ≡ Some l → is_false (lits t) l ≡ true → literal_in c (1 - p) ≡ Some other → AreFalseFrom t c other → IsUnit c (lits t) other
held-unit t c p l other b e f o rest = record {
  among = has-at c (1 - p) other (let long = literal-long c p l e in omega (arith, b, long)) (literal-read c (1 - p) other (omega arith) o);
  others = others-false t c p l other b e f o rest;
}

pub moved : (c new : List Literal) (p j : ℕ) (other l : Literal) → p < 2 → literal_in c (1 - p) ≡ Some other → 2 ≤ j → j < length c → l ≡ get_or c j l → l ≢ other → new ≡ swap c p j → IsMoved c new p l
moved c new p j other l b w low jw e d s =
    let long = literal-long c (1 - p) other w in
    let o = literal-read c (1 - p) other (omega arith) w in
    let x = swapped_from_swap c new p j l (omega (arith, b, long)) jw s in
    let y = swapped_from_swap c new p j other (omega (arith, b, long)) jw s in
    let n : length new ≡ length c = ap length s ∙ length-swap c p j in
    let at : literal_in new p ≡ Some l = literal-at new p l b (omega (arith, n, long)) (e ∙ sym x.0) in
    let kept : literal_in new (1 - p) ≡ Some other = literal-at new (1 - p) other (omega arith) (omega (arith, n, long)) (o ∙ sym (y.2 (1 - p) (λ q. omega (arith, q, b)) (λ q. omega (arith, q, b, low)))) in
    record {
      same = swap-same c new p j (omega (arith, b, long)) jw s;
      at = at;
      other = kept ∙ sym (literal-at c (1 - p) other (omega arith) long o);
      spread = spread-from new p l other b at kept d;
    }

pub literal-below : (m : ℕ) (c : List Literal) (p : ℕ) (l : Literal) → p < 2 → literal_in c p ≡ Some l → ((k : Literal) → has c k ≡ true → k.var < m) → l.var < m
literal-below m c p l b e h = let long = literal-long c p l e in h l (has-at c p l (omega (arith, b, long)) (literal-read c p l b e))

-- the other watched literal, as it is read
pub other-read : (c : List Literal) (p : ℕ) (k l : Literal) → p < 2 → literal_in c p ≡ Some k → l ≡ get_or c (1 - p) l → literal_in c (1 - p) ≡ Some l
other-read c p k l b w o = literal-at c (1 - p) l (omega arith) (literal-long c p k w) o
