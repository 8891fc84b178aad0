-- Which variables may be decided next.
use Rattle.std.specs.Prelude.{◌≡◌, ◌≢◌, ℕ, suc, ◌<◌, ◌≤◌, Bool, true, false, cond, List, [], ◌∷◌, slice_index_or, None, IsSome}
use Rattle.rt_store.specs.declared.trail.Step.{Step}
use Rattle.rt_store.specs.Trail.{value_in}
use Rattle.rt_solver.specs.Search.{HasValues}

-- which variables the heap holds, those below the bound come from it, and each smaller one than the next has a value or does
pub record Picking : Type 0 where
  pub held : List Bool
  pub bound : ℕ
  pub next : ℕ

abbrev pub holds : List Bool → ℕ → Bool
holds held v = slice_index_or held v false

-- how many variables a heap holds
abbrev pub held_count : List Bool → ℕ
held_count [] = 0
held_count (b ∷ bs) = cond b (suc (held_count bs)) (held_count bs)

-- each open variable below the bound is in the heap
abbrev pub HasOpen : ℕ → List Bool → List Step → Type 0
HasOpen bound held steps = (v : ℕ) → v < bound → value_in steps v ≡ None → holds held v ≡ true

-- each but one
abbrev pub HasOpenBut : ℕ → List Bool → List Step → ℕ → Type 0
HasOpenBut bound held steps w = (v : ℕ) → v ≢ w → v < bound → value_in steps v ≡ None → holds held v ≡ true

-- each variable from one on and before another has a value
abbrev pub AreSet : ℕ → ℕ → List Step → Type 0
AreSet from to steps = (v : ℕ) → from ≤ v → v < to → IsSome (value_in steps v)

-- no open variable is overlooked
pub record IsOffered (picking : Picking) (steps : List Step) : Type 0 where
  pub heaped : HasOpen picking.bound picking.held steps
  pub passed : AreSet picking.bound picking.next steps

-- the variable is open and, where it is none of the heap's, the smallest open one
pub record IsPicked (picking : Picking) (vars : ℕ) (steps : List Step) (v : ℕ) : Type 0 where
  pub within : v < vars
  pub unset : value_in steps v ≡ None
  pub smallest : picking.bound ≤ v → HasValues v steps
  pub offered : (s : Step) → s.lit.var ≡ v → IsOffered picking (s ∷ steps)
