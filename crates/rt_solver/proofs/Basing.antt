-- The lines and their copies, as a line comes and as propagation goes on.
use Rattle.std.proofs.Common.{◌≡◌, ℕ, ◌+◌, ◌*◌, ◌<◌, ◌≤◌, ◌^◌, true, false, cond, Bool, List, [], ◌∷◌, ◌++◌, length, sym, ap, subst, ◌∙◌, arith}
use Rattle.std.specs.List.{All as Each}
use Rattle.rt_clause.specs.Literal.{Literal}
use Rattle.rt_store.specs.Same.{IsSame, AreSame}
use Rattle.rt_solver.specs.Solving.{reach, width}
use Rattle.rt_store.specs.Watching.{Listed, list_at, times}
use Rattle.rt_solver.specs.Propagating.{IsEntry, AreListed, AreShort, HasLists}
use Rattle.rt_solver.specs.Looking.{IsBelow}
use Rattle.rt_solver.specs.Based.{IsBased}
use Rattle.rt_solver.proofs.Widths.{width-push, reach-below}
use Rattle.rt_solver.proofs.Putting.{same-push}

-- there are lists for all literals of so many variables
pub has-lists : (n : ℕ) (c : List Literal) (lists : List (List Listed)) → IsBelow n c → 2 * n ≤ length lists → HasLists lists c
has-lists n c lists h b l g = let x = h l g in small l.var l.on (omega (arith, x, b)) where
  small : (v : ℕ) (on : Bool) → 2 * v + 1 < length lists → 2 * v + cond on 1 0 < length lists
  small v true q = q
  small v false q = omega (arith, q)

pub copy-below : (n vars : ℕ) (ls c : List Literal) → IsSame ls c → vars ≡ reach n ls → IsBelow vars c
copy-below n vars ls c s e l h = let x = reach-below n ls l (s.from l h) in omega (arith, x, e)

pub based-push : (lines new copies after : List (List Literal)) (w mid : List (List Listed)) (n vars : ℕ) (short more : List ℕ) (ls c : List Literal) → IsBased lines copies w n short → new ≡ lines ++ ls ∷ [] → after ≡ copies ++ c ∷ [] → IsSame ls c → AreListed after mid → AreShort after more → vars ≡ reach n ls → vars ≤ 2 ^ 62
    → IsBased new after mid vars more
based-push lines new copies after w mid n vars short more ls c h en ea s listed brief e few = record {
  same = (let P : List (List Literal) → Type 0 = λ x. AreSame x after in let Q : List (List Literal) → Type 0 = λ y. AreSame (lines ++ ls ∷ []) y in
      subst P (sym en) (subst Q (sym ea) (same-push lines copies ls c h.same s)));
  listed = listed;
  brief = brief;
  wide = e ∙ ap (λ m. reach m ls) h.wide ∙ sym (width-push 0 lines ls) ∙ ap width (sym en);
  few = few;
}

-- room for more lists and entries leaves each list as it is
pub grown-listed : (clauses after : List (List Literal)) (lists mid new : List (List Listed)) → AreListed clauses lists → after ≡ clauses → ((k : ℕ) → list_at mid k ≡ list_at lists k) → length lists ≤ length mid → (length lists ≤ 2 ^ 32 → length mid ≤ 2 ^ 32) → new ≡ mid → AreListed after new
grown-listed clauses after lists mid new h e same longer few n =
    let C : List (List Literal) → Type 0 = λ x. AreListed x mid in
    let N : List (List Listed) → Type 0 = AreListed after in
    subst N (sym n) (subst C (sym e) (record {
      entries = λ k. (let P : List Listed → Type 0 = Each (IsEntry clauses k) in subst P (sym (same k)) (h.entries k));
      once = λ k w i. ap (times w) (same k) ∙ h.once k w i;
      spread = h.spread;
      wide = λ i b l t. (let q = h.wide i b l t in omega (arith, q, longer));
      few = few h.few;
    }))

-- so the lines and their copies stay the same
pub based-room : (lines copies after : List (List Literal)) (w mid : List (List Listed)) (n : ℕ) (short kept : List ℕ) → IsBased lines copies w n short → after ≡ copies → kept ≡ short → AreListed after mid → IsBased lines after mid n kept
based-room lines copies after w mid n short kept h e s listed =
    let P : List (List Literal) → Type 0 = λ x. AreSame lines x in
    let Q : List (List Literal) → Type 0 = λ x. AreShort x kept in
    let R : List ℕ → Type 0 = λ x. AreShort copies x in
    record {
      same = subst P (sym e) h.same;
      listed = listed;
      brief = subst Q (sym e) (subst R (sym s) h.brief);
      wide = h.wide;
      few = h.few;
    }
