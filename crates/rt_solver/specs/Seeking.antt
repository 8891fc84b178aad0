-- A question that is decided before all else.
use Rattle.std.specs.Prelude.{◌≡◌, ℕ, ◌<◌, ◌≤◌, Bool, true, List, [], ◌∷◌, ◌++◌, Option, Some, None, IfSome, ◌⊎◌}
use Rattle.rt_clause.specs.Literal.{Literal, negated}
use Rattle.rt_clause.specs.Lists.{has, is_false}
use Rattle.rt_store.specs.declared.trail.Step.{Step}
use Rattle.rt_solver.specs.declared.order.Order.{Order}
use Rattle.rt_solver.specs.declared.order.Order.TheVariants.{Fixed}
use Rattle.rt_solver.specs.declared.next.Next.{Next}
use Rattle.rt_solver.specs.declared.next.Next.TheVariants.{Whole, Missed, Decide}
use Rattle.rt_store.specs.Trail.{lits, value_in, IfDecided, decisions}
use Rattle.rt_solver.specs.Search.{HasValues, KeepsModels, line_of}
use Rattle.rt_solver.specs.Picking.{Picking, IsOffered}

-- each decision is the question, or came when the question was true
abbrev pub IsLed : Literal → List Step → Type 0
IsLed a [] = Unit {0}
IsLed a (s ∷ before) = IfDecided s.why ((s.lit ≡ a) ⊎ (has (lits before) a ≡ true)) × IsLed a before

-- the question is false, and nothing is decided
abbrev pub IsFalseAtRoot : List Step → Literal → Type 0
IsFalseAtRoot steps a = (is_false (lits steps) a ≡ true) × (decisions steps ≡ [])

-- how the lines changed for a question that is false at the root: not at all where it is the negation
-- of what is assumed; else by the line that it is false where what is assumed is true
abbrev pub HasDenied : (old new : List (List Literal)) (flags_old flags_new : List Bool) → Option Literal → Literal → Type 0
HasDenied old new flags_old flags_new assume question = ((assume ≡ Some (negated question)) × (new ≡ old) × (flags_new ≡ flags_old))
    ⊎ ((new ≡ old ++ line_of assume (negated question ∷ []) ∷ []) × (flags_new ≡ flags_old ++ true ∷ []) × KeepsModels old new)

-- an open literal that may be decided next
pub record IsChosen (picking : Picking) (vars : ℕ) (order : Order) (question : Option Literal) (steps : List Step) (lit : Literal) : Type 0 where
  pub within : lit.var < vars
  pub unset : value_in steps lit.var ≡ None
  pub smallest : picking.bound ≤ lit.var → HasValues lit.var steps
  pub fixed : order ≡ Fixed → lit.on ≡ true
  pub offered : (s : Step) → s.lit.var ≡ lit.var → IsOffered picking (s ∷ steps)
  pub led : IfSome question (λ a. (lit ≡ a) ⊎ (has (lits steps) a ≡ true))

-- what comes next where nothing is left to propagate
abbrev pub IsNext : Picking → ℕ → Order → Option Literal → List Step → Next → Type 0
IsNext picking vars order question steps Whole = HasValues vars steps × IfSome question (λ a. has (lits steps) a ≡ true)
IsNext picking vars order question steps (Missed a) = (question ≡ Some a) × (is_false (lits steps) a ≡ true)
IsNext picking vars order question steps (Decide lit) = IsChosen picking vars order question steps lit
