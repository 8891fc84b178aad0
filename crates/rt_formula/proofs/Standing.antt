-- The rows under a node decide its value.
use Rattle.std.proofs.Common.{◌≡◌, ℕ, zero, suc, ◌+◌, ◌<◌, Bool, true, not, List, [], ◌∷◌, length, slice_get, Some, refl, sym, ap, arith, ◌∙◌}
use Rattle.std.specs.List.{list_all, list_any, All as Each}
use Rattle.rt_formula.specs.declared.entry.Entry.{Entry}
use Rattle.rt_formula.specs.declared.entry.Entry.TheVariants.{Yes, No, Row, Not, All, Any}
use Rattle.rt_formula.specs.Cut.{cut}
use Rattle.rt_formula.specs.Shared.{Shared, IsSound, val, values, bool_at, entry_value, children, named_rows}
use Rattle.rt_formula.specs.Under.{StandsUnder, RowStands}
use Rattle.rt_formula.proofs.Cutting.{cut-in}
use Rattle.rt_formula.proofs.MarkLemmas.{child-stands, goal-stands}
use Rattle.rt_formula.proofs.Meaning.{val-entry}

all-each : (f g : ℕ → Bool) (ks : List ℕ) → Each (λ k. f k ≡ g k) ks → list_all f ks ≡ list_all g ks
all-each f g [] b = refl
all-each f g (x ∷ xs) b = let p = b 0 0 (omega arith) in let q = all-each f g xs (λ k d l. b (suc k) d (omega arith)) in cc

any-each : (f g : ℕ → Bool) (ks : List ℕ) → Each (λ k. f k ≡ g k) ks → list_any f ks ≡ list_any g ks
any-each f g [] b = refl
any-each f g (x ∷ xs) b = let p = b 0 0 (omega arith) in let q = any-each f g xs (λ k d l. b (suc k) d (omega arith)) in cc

entry-each : (keep other vs ws : List Bool) (e : Entry) → Each (λ k. bool_at vs k ≡ bool_at ws k) (children e) → Each (λ v. bool_at keep v ≡ bool_at other v) (named_rows e) → entry_value keep vs e ≡ entry_value other ws e
entry-each keep other vs ws Yes c r = refl
entry-each keep other vs ws No c r = refl
entry-each keep other vs ws (Row v) c r = r 0 0 (omega arith)
entry-each keep other vs ws (Not a) c r = ap not (c 0 0 (omega arith))
entry-each keep other vs ws (All of) c r = all-each (bool_at vs) (bool_at ws) of c
entry-each keep other vs ws (Any of) c r = any-each (bool_at vs) (bool_at ws) of c

there : {X : Type 0} (xs : List X) (n : ℕ) → n < length xs → (x : X) × (slice_get xs n ≡ Some x)
there [] n h = absurd (omega arith)
there (x ∷ xs) zero h = (x, refl)
there (x ∷ xs) (suc n) h = there xs n (omega (arith, h))

-- the row that a node under the goal names
row-stands : (d : Shared) (goal n : ℕ) (e : Entry) → slice_get d.entries n ≡ Some e → StandsUnder d goal n → Each (RowStands d goal) (named_rows e)
row-stands d goal n (Row v) h s zero x b = record { node = n; stands = s; names = h }
row-stands d goal n (Row v) h s (suc i) x b = absurd (omega (arith, b))
row-stands d goal n Yes h s i x b = absurd (omega (arith, b))
row-stands d goal n No h s i x b = absurd (omega (arith, b))
row-stands d goal n (Not a) h s i x b = absurd (omega (arith, b))
row-stands d goal n (All of) h s i x b = absurd (omega (arith, b))
row-stands d goal n (Any of) h s i x b = absurd (omega (arith, b))

-- two choices that agree on the rows under the goal give it the same value
pub val-stands : (d : Shared) (goal : ℕ) (keep other : List Bool) → IsSound d → ((v : ℕ) → RowStands d goal v → bool_at keep v ≡ bool_at other v)
    → (most n : ℕ) → n < most → n < length d.entries → StandsUnder d goal n → val d keep n ≡ val d other n
val-stands d goal keep other s same zero n m b u = absurd (omega (arith, m))
val-stands d goal keep other s same (suc most) n m b u =
    let t = there d.entries n b in
    let below = (s.fits n t.0 t.1).below in
    let c = child-stands d goal n t.0 t.1 u in
    let r = row-stands d goal n t.0 t.1 u in
    val-entry d keep n t.0 s t.1
    ∙ entry-each keep other (values keep d.entries) (values other d.entries) t.0
    (λ i x l. (let k = below i x l in val-stands d goal keep other s same most _ (omega (arith, k, m)) (omega (arith, k, b)) (c i x l)))
    (λ i x l. same _ (r i x l))
    ∙ sym (val-entry d other n t.0 s t.1)

-- so to cut a choice to a set with these rows leaves the value as it was
pub val-cut : (d : Shared) (goal : ℕ) (set : List Bool) → IsSound d → goal < length d.entries → ((v : ℕ) → RowStands d goal v → bool_at set v ≡ true) → (keep : List Bool) → val d (cut keep set) goal ≡ val d keep goal
val-cut d goal set s b all keep = val-stands d goal (cut keep set) keep s (λ v r. cut-in keep set v (all v r)) (goal + 1) goal (omega arith) b (goal-stands d goal)
