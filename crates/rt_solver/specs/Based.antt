-- The lines and the solver's own copies.
use Rattle.std.specs.Prelude.{◌≡◌, ℕ, ◌≤◌, ◌^◌, Bool, List, refl}
use Rattle.std.specs.Coded.{Coded, code_by, coded×, coded_ℕ, coded_bool}
use Rattle.rt_clause.specs.Literal.{Literal}
use Rattle.rt_store.specs.Same.{AreSame}
use Rattle.rt_store.specs.Watching.{Listed}
use Rattle.rt_solver.specs.Solving.{width}
use Rattle.rt_solver.specs.Propagating.{AreListed, AreShort}

-- a literal is stored as the pair of its fields
abbrev pub coded_literal : Coded Literal
coded_literal = code_by (ℕ × Bool) (coded× coded_ℕ coded_bool) (λ l. (l.var, l.on)) (λ p. record { var = p.0; on = p.1 }) (λ _. refl)

pub record IsBased (lines copies : List (List Literal)) (lists : List (List Listed)) (vars : ℕ) (short : List ℕ) : Type 0 where
  pub same : AreSame lines copies
  pub listed : AreListed copies lists
  pub brief : AreShort copies short
  pub wide : vars ≡ width lines
  pub few : vars ≤ 2 ^ 62
