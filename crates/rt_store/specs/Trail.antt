-- The trail, newest step first.
use Rattle.std.specs.Prelude.{◌≡◌, ℕ, ◌+◌, ◌-◌, ◌*◌, ◌^◌, ◌<◌, Bool, true, cond, nat_eq, nat_lt, ◌⊎◌, List, [], ◌∷◌, drop, length, Option, Some, None, IfSome}
use Rattle.rt_clause.specs.Literal.{Literal}
use Rattle.rt_clause.specs.Lists.{has, is_false, line_at, Closed}
use Rattle.rt_store.specs.declared.trail.Step.{Step}
use Rattle.rt_store.specs.declared.trail.Why.{Why}
use Rattle.rt_store.specs.declared.trail.Why.TheVariants.{Line, Decided, Assumed}

-- the literals of the steps
abbrev pub lits : List Step → List Literal
lits [] = []
lits (s ∷ trail) = s.lit ∷ lits trail

-- the value that the steps give a variable
abbrev pub value_in : List Step → ℕ → Option Bool
value_in [] v = None
value_in (s ∷ trail) v = cond (nat_eq s.lit.var v) (Some s.lit.on) (value_in trail v)

-- each step's variable is below n, and none is there twice
abbrev pub IsApart : ℕ → List Step → Type 0
IsApart n [] = Unit {0}
IsApart n (s ∷ trail) = (s.lit.var < n) × (value_in trail s.lit.var ≡ None) × IsApart n trail

-- a line that was unit for a literal under a set
pub record IsUnit (line : List Literal) (set : List Literal) (l : Literal) : Type 0 where
  pub among : has line l ≡ true
  pub others : (k : Literal) → has line k ≡ true → (k ≡ l) ⊎ (is_false set k ≡ true)

-- what a step rests on
abbrev pub RestsOn : List (List Literal) → Option Literal → List Step → Literal → Why → Type 0
RestsOn lines assume before l (Line r) = (r < length lines) × IsUnit (line_at lines r) (lits before) l
RestsOn lines assume before l Decided = Closed lines (lits before) × IfSome assume (λ a. has (lits before) a ≡ true)
RestsOn lines assume before l Assumed = assume ≡ Some l

abbrev pub IsFounded : List (List Literal) → Option Literal → List Step → Type 0
IsFounded lines assume [] = Unit {0}
IsFounded lines assume (s ∷ before) = RestsOn lines assume before s.lit s.why × IsFounded lines assume before

-- 0 for a decision and 1 for another step
abbrev pub digit : Why → ℕ
digit (Line r) = 1
digit Decided = 0
digit Assumed = 1

-- how many steps have a variable below n
abbrev pub count_below : ℕ → List Step → ℕ
count_below n [] = 0
count_below n (s ∷ trail) = cond (nat_lt s.lit.var n) (count_below n trail + 1) (count_below n trail)

-- the binary number of n digits: the steps with a variable below n in order, filled up with 0
abbrev pub number : ℕ → List Step → ℕ
number n [] = 0
number n (s ∷ trail) = cond (nat_lt s.lit.var n) (number n trail + digit s.why * 2 ^ (n - (count_below n trail + 1))) (number n trail)

-- how far the search still is from its end
abbrev pub distance : ℕ → List Step → ℕ
distance m trail = (2 ^ m - number m trail) * (m + 1) + (m - length trail)

abbrev pub IfDecided : Why → Type 0 → Type 0
IfDecided (Line r) P = Unit {0}
IfDecided Decided P = P
IfDecided Assumed P = Unit {0}

-- a decision after older ones
abbrev pub decided_by : Why → Literal → List Literal → List Literal
decided_by (Line r) l older = older
decided_by Decided l older = l ∷ older
decided_by Assumed l older = older

-- the decisions, newest first
abbrev pub decisions : List Step → List Literal
decisions [] = []
decisions (s ∷ before) = decided_by s.why s.lit (decisions before)

-- P holds of the literals before each decision
abbrev pub BeforeDecisions : (List Literal → Type 0) → List Step → Type 0
BeforeDecisions P [] = Unit {0}
BeforeDecisions P (s ∷ before) = IfDecided s.why (P (lits before)) × BeforeDecisions P before

-- the i oldest steps, newest first
abbrev pub oldest : ℕ → List Step → List Step
oldest i steps = drop (length steps - i) steps

-- the line that a step rests on is there
abbrev pub IsLineWithin : List (List Literal) → Why → Type 0
IsLineWithin lines (Line r) = r < length lines
IsLineWithin lines Decided = Unit {0}
IsLineWithin lines Assumed = Unit {0}
