-- From the least choice at which a node is true to the least one of what the node means.
use Rattle.std.proofs.Common.{◌≡◌, ◌∙◌, sym, subst, refl, ℕ, Bool, true, false, List, length, ◌&&◌}
use Rattle.std.specs.Prelude.{Option, Some, None, IfSome, IsSomeAnd, ◌<◌, ◌^◌}
use Rattle.rt_clause.specs.Literal.{Literal}
use Rattle.rt_formula.specs.Cut.{cut}
use Rattle.rt_formula.specs.Shared.{IsGrown, Shared, val}
use Rattle.rt_formula.proofs.Cutting.{cut-length}
use Rattle.rt_least.specs.Least.{HasFewest, IsEnough, IsGoal, IsLeast, IsSpentBest}
use Rattle.rt_least.specs.Nogoods.{IsSpentBy}
use Rattle.rt_least.proofs.Targets.{spent-narrowed}

-- a test of choices of so many rows
abbrev pub IsAt : ℕ → (List Bool → Bool) → List Bool → Type 0
IsAt rows f keep = (length keep ≡ rows) × (f keep ≡ true)

-- the node is true just where the test is
abbrev pub Means : Shared → ℕ → (List Bool → Bool) → Type 0
Means d goal f = (keep : List Bool) → length keep ≡ d.rows → val d keep goal ≡ f keep

to_goal : (d : Shared) (goal rows : ℕ) (f : List Bool → Bool) → d.rows ≡ rows → Means d goal f → (keep : List Bool) → IsAt rows f keep → IsGoal d goal keep
to_goal d goal rows f same m keep c = let l : length keep ≡ d.rows = c.0 ∙ sym same in (l, m keep l ∙ c.1)

from_goal : (d : Shared) (goal rows : ℕ) (f : List Bool → Bool) → d.rows ≡ rows → Means d goal f → (keep : List Bool) → IsGoal d goal keep → IsAt rows f keep
from_goal d goal rows f same m keep g = (g.0 ∙ same, sym (m keep g.0) ∙ g.1)

pub least_of : (d : Shared) (goal rows : ℕ) (f : List Bool → Bool) → d.rows ≡ rows → Means d goal f → (keep : List Bool) → IsLeast (IsGoal d goal) keep → IsLeast (IsAt rows f) keep
least_of d goal rows f same m keep l = record {
  is_target = from_goal d goal rows f same m keep l.is_target;
  least = λ t c. l.least t (to_goal d goal rows f same m t c);
  first = λ t c. l.first t (to_goal d goal rows f same m t c);
}

pub never_of : (d : Shared) (goal rows : ℕ) (f : List Bool → Bool) → d.rows ≡ rows → Means d goal f → ((keep : List Bool) → length keep ≡ d.rows → val d keep goal ≡ false)
    → (keep : List Bool) → length keep ≡ rows → f keep ≡ false
never_of d goal rows f same m n keep c = let l : length keep ≡ d.rows = c ∙ sym same in sym (m keep l) ∙ n keep l

best_of : (d : Shared) (goal rows : ℕ) (f : List Bool → Bool) (best : Option (List Bool)) → d.rows ≡ rows → Means d goal f → IfSome best (IsGoal d goal) → IfSome best (IsAt rows f)
best_of d goal rows f None same m h = tt
best_of d goal rows f (Some keep) same m h = from_goal d goal rows f same m keep h

fewest_of : (d : Shared) (goal rows : ℕ) (f : List Bool → Bool) (best : Option (List Bool)) → d.rows ≡ rows → Means d goal f
    → IsSomeAnd best (HasFewest (IsGoal d goal)) → IsSomeAnd best (HasFewest (IsAt rows f))
fewest_of d goal rows f None same m h = h
fewest_of d goal rows f (Some keep) same m h = λ t c. h t (to_goal d goal rows f same m t c)

pub spent_of : (d : Shared) (goal rows budget : ℕ) (f : List Bool → Bool) (best : Option (List Bool)) (least : Bool) (nogoods : List (List Literal)) → d.rows ≡ rows → Means d goal f
    → IsSpentBest d.rows (IsGoal d goal) budget best least nogoods → IsSpentBest rows (IsAt rows f) budget best least nogoods
spent_of d goal rows budget f best least nogoods same m s = record {
  small = subst (λ (r : ℕ). budget < 2 ^ r) same s.small;
  best_is = best_of d goal rows f best same m s.best_is;
  least_is = λ t. fewest_of d goal rows f best same m (s.least_is t);
  spent = subst (λ (r : ℕ). IsSpentBy r (IsAt rows f) best least budget nogoods) same
      (spent-narrowed d.rows (IsGoal d goal) (IsAt rows f) best least budget nogoods (to_goal d goal rows f same m) s.spent);
}

pub some_spent : (d : Shared) (goal rows : ℕ) (f : List Bool → Bool) (budget : Option ℕ) (best : Option (List Bool)) (least : Bool) (nogoods : List (List Literal)) → d.rows ≡ rows → Means d goal f
    → IsSomeAnd budget (λ b. IsSpentBest d.rows (IsGoal d goal) b best least nogoods) → IsSomeAnd budget (λ b. IsSpentBest rows (IsAt rows f) b best least nogoods)
some_spent d goal rows f None best least nogoods same m h = h
some_spent d goal rows f (Some b) best least nogoods same m h = spent_of d goal rows b f best least nogoods same m h

-- wherever the goal is true, it is true where no row outside of the cone is kept
pub enough : (old d : Shared) (goal told : ℕ) (cone : List Bool) (law : List Bool → Bool) → IsGrown old d → ((keep : List Bool) → length keep ≡ old.rows → val d keep goal ≡ (law keep && val d keep told))
    → ((keep : List Bool) → length keep ≡ d.rows → law keep ≡ true → law (cut keep cone) ≡ true) → ((keep : List Bool) → val d (cut keep cone) told ≡ val d keep told) → IsEnough d goal cone
enough old d goal told cone law grown parts lawful same keep g =
    let l : length keep ≡ old.rows = g.0 ∙ grown.rows in
    let q : (law keep && val d keep told) ≡ true = sym (parts keep l) ∙ g.1 in
    parts (cut keep cone) (cut-length keep cone ∙ l)
    ∙ both (law keep) (law (cut keep cone)) (val d keep told) (val d (cut keep cone) told) q (lawful keep g.0) (same keep) where
      both : (a b x y : Bool) → (a && x) ≡ true → (a ≡ true → b ≡ true) → y ≡ x → (b && y) ≡ true
      both false b x y q f e = absurd (cc)
      both true b x y q f e = rw (f refl, e) q
