-- What a gate is when the children that do not matter are left out.
use Rattle.std.specs.Prelude.{◌≡◌, ℕ, ◌<◌, Bool, true, false, not, nat_eq, List, [], ◌∷◌, ◌++◌, length, if◌then◌else◌, Option, None, Some}
use Rattle.std.specs.List.{list_all, list_any, All as Each}
use Rattle.rt_formula.specs.Shared.{Shared, val}
use Rattle.rt_formula.specs.declared.gather.Gate.{Gate}
use Rattle.rt_formula.specs.declared.gather.Gate.TheVariants as gate
use Rattle.rt_formula.specs.declared.gather.Gathered.{Gathered}
use Rattle.rt_formula.specs.declared.gather.Gathered.TheVariants.{Decided, Kept}

abbrev pub has_node : List ℕ → ℕ → Bool
has_node nodes n = list_any (nat_eq n) nodes

abbrev pub with_node : List ℕ → ℕ → List ℕ
with_node nodes n = if has_node nodes n then nodes else nodes ++ n ∷ []

-- the value of a gate, given those of its children
abbrev pub gate_value : Gate → (ℕ → Bool) → List ℕ → Bool
gate_value gate.All value children = list_all value children
gate_value gate.Any value children = list_any value children

-- the value that one child alone gives the gate
abbrev pub deciding : Gate → Bool
deciding gate.All = false
deciding gate.Any = true

-- two of the nodes are never equal
pub record AreContrary (d : Shared) (nodes : List ℕ) : Type 0 where
  pub one : ℕ
  pub other : ℕ
  pub has_one : has_node nodes one ≡ true
  pub has_other : has_node nodes other ≡ true
  pub contrary : (keep : List Bool) → val d keep one ≡ not (val d keep other)

-- a constant among the children decides the gate, or these give the gate its value
abbrev pub IsSifted : Shared → Gate → List ℕ → Option (List ℕ) → Type 0
IsSifted d g children None = (keep : List Bool) → gate_value g (val d keep) children ≡ deciding g
IsSifted d g children (Some kept) = Each (λ n. n < length d.entries) kept
    × ((keep : List Bool) → gate_value g (val d keep) kept ≡ gate_value g (val d keep) children)

-- the children decide the gate, or these give it its value
abbrev pub IsGathered : Shared → Gate → List ℕ → Gathered → Type 0
IsGathered d g children Decided = (keep : List Bool) → gate_value g (val d keep) children ≡ deciding g
IsGathered d g children (Kept kept) = Each (λ n. n < length d.entries) kept
    × ((keep : List Bool) → gate_value g (val d keep) kept ≡ gate_value g (val d keep) children)
