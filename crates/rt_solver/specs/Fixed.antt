-- Decisions in the order of the variables.
use Rattle.std.specs.Prelude.{◌≡◌, ℕ, ◌<◌, Bool, true, false, List, [], ◌∷◌, slice_index_or, Option, IfSome}
use Rattle.rt_clause.specs.Literal.{Literal}
use Rattle.rt_clause.specs.Models.{lit_true, IsModel}
use Rattle.rt_store.specs.declared.trail.Step.{Step}
use Rattle.rt_solver.specs.declared.order.Order.{Order}
use Rattle.rt_solver.specs.declared.order.Order.TheVariants.{Free, Fixed}
use Rattle.rt_solver.specs.declared.solver.Found.{Found}
use Rattle.rt_solver.specs.declared.solver.Found.TheVariants.{Model, Refuted, Spent}
use Rattle.rt_store.specs.Trail.{IfDecided}
use Rattle.rt_solver.specs.Search.{HasValues}

-- where the order is fixed
abbrev pub IfFixed : Order → Type 0 → Type 0
IfFixed Free P = Unit {0}
IfFixed Fixed P = P

-- each decision set the smallest open variable, and to true
abbrev pub AreSmallest : List Step → Type 0
AreSmallest [] = Unit {0}
AreSmallest (s ∷ before) = IfDecided s.why ((s.lit.on ≡ true) × HasValues s.lit.var before) × AreSmallest before

-- no model of the lines and of the assumption is true where this one is false, at the first variable below n at which the two differ
abbrev pub IsGreatest : List (List Literal) → Option Literal → ℕ → List Bool → Type 0
IsGreatest lines assume n bools = (other : List Bool) → IsModel lines other → IfSome assume (λ a. lit_true other a ≡ true)
    → (v : ℕ) → v < n → ((u : ℕ) → u < v → slice_index_or other u false ≡ slice_index_or bools u false) → slice_index_or bools v false ≡ false → slice_index_or other v false ≡ false

-- what a model is where the order is fixed
abbrev pub IsInOrder : Order → List (List Literal) → Option Literal → ℕ → Found → Type 0
IsInOrder order lines assume n (Model bools) = IfFixed order (IsGreatest lines assume n bools)
IsInOrder order lines assume n Refuted = Unit {0}
IsInOrder order lines assume n (Spent list) = Unit {0}
