-- Lines with the same literals, and those that are kept with longer ones.
use Rattle.std.specs.Prelude.{◌≡◌, ℕ, ◌<◌, List, length}
use Rattle.std.specs.BTreeMap.{BTreeMap, get}
use Rattle.std.specs.Option.{IfSome}
use Rattle.std.specs.Ordering.{nat_cmp}
use Rattle.rt_clause.specs.Literal.{Literal}
use Rattle.rt_clause.specs.Lists.{has, line_at}

abbrev pub Alike : List Literal → List Literal → Type 0
Alike a b = (l : Literal) → has a l ≡ has b l

-- what is kept for a number has the literals of that line
abbrev pub AreBrief : List (List Literal) → BTreeMap ℕ (List Literal) → Type 0
AreBrief lines brief = (h : ℕ) → IfSome (get nat_cmp brief h) (λ line. (h < length lines) × Alike line (line_at lines h))
