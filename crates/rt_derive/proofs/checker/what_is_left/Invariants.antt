use Rattle.std.proofs.Common.{◌≡◌, List, [], ◌∷◌, take, true}
use Rattle.std.specs.Prelude.{MatchOption}
use Rattle.std.specs.List.{list_all}
use Rattle.rt_clause.specs.Literal.{Literal, lit_eq}
use Rattle.rt_clause.specs.Lists.{left}
use Rattle.rt_derive.proofs.checker.what_is_left.Given as goal

abbrev pub invariant-loop-l : goal.invariant-loop-l
invariant-loop-l l = MatchOption l.one (left l.held (take l.l-index l.line) ≡ [])
    (λ k. (more : List Literal) × (left l.held (take l.l-index l.line) ≡ k ∷ more) × (list_all (lit_eq k) more ≡ true))
