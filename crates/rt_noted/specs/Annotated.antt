-- What nodes and noted rows mean: formulas on the choice of rows.
use Rattle.std.specs.Prelude.{◌≡◌, ℕ, ◌<◌, ◌+◌, nat_eq, Bool, false, not, List, [], ◌∷◌, ◌++◌, Option, None, Some, map, length}
use Rattle.std.specs.List.{All as Each, IsDistinct, filter, list_all, list_any}
use Rattle.rt_schema.specs.Kept.{kept}
use Rattle.rt_value.specs.declared.value.Value.{Value}
use Rattle.rt_value.specs.Row.{row_eq}
use Rattle.rt_algebra.specs.Expression.{wrapped, Env, row_by}
use Rattle.rt_algebra.specs.declared.expr.Expr.{Expr}
use Rattle.rt_schema.specs.Given.{Rows, Tables}
use Rattle.rt_algebra.specs.Answer.{is_yes, cell_truth, has_row, pred_by, all_of, any_of}
use Rattle.rt_algebra.specs.declared.query.Pred.{Pred}
use Rattle.rt_formula.specs.Shared.{Shared, IsGrown, val, bool_at}
use Rattle.rt_formula.specs.Groups.{Grouped, group_at, nodes_where}
use Rattle.rt_noted.specs.Entries.{Formula, Test, Entry, is_no, rows_at, stands}
use Rattle.rt_formula.specs.declared.noted.Noted.{Noted}
use Rattle.rt_noted.specs.declared.gate.TruthNodes.{TruthNodes}
use Rattle.rt_noted.specs.declared.gate.TruthLists.{TruthLists}
use Rattle.rt_noted.specs.declared.gate.Junction.{Junction}
use Rattle.rt_noted.specs.declared.gate.Junction.TheVariants.{All, Any}
use Rattle.rt_noted.specs.declared.side.Side.{Side}
use Rattle.rt_noted.specs.declared.side.Side.TheVariants.{Present, Missing}

-- a node as a formula
abbrev pub formula : Shared → ℕ → Formula
formula d n = λ s. val d s n

-- a noted row as an entry
abbrev pub entry_of : Shared → Noted → Entry
entry_of d n = (n.row, λ s. val d s n.node)

abbrev pub entries_of : Shared → List Noted → List Entry
entries_of d ns = map (entry_of d) ns

abbrev pub AreNodes : Shared → List ℕ → Type 0
AreNodes d ns = Each (λ n. n < length d.entries) ns

abbrev pub AreNoted : Shared → List Noted → Type 0
AreNoted d ns = Each (λ n. n.node < length d.entries) ns

-- the node means the formula
pub record IsNode (d : Shared) (n : ℕ) (f : Formula) : Type 0 where
  pub below : n < length d.entries
  pub same : (s : List Bool) → val d s n ≡ f s

pub record IsGate (d : Shared) (g : TruthNodes) (t : Test) : Type 0 where
  pub yes : IsNode d g.yes t.0
  pub no : IsNode d g.no t.1

-- the nodes mean the formulas, in order
pub record Mean (d : Shared) (ns : List ℕ) (fs : List Formula) : Type 0 where
  pub below : AreNodes d ns
  pub same : map (formula d) ns ≡ fs

-- the noted rows are the entries, in order
pub record Reads (d : Shared) (ns : List Noted) (es : List Entry) : Type 0 where
  pub below : AreNoted d ns
  pub same : entries_of d ns ≡ es

-- whether a row is on this side of entries, as a condition on rows
abbrev pub side_test : Side → List Entry → List Value → Test
side_test Present es r = (stands es r, λ s. false)
side_test Missing es r = (λ s. not (stands es r s), λ s. false)

-- the node of that, of a gate that says where a row is among them
abbrev pub side_node : Side → TruthNodes → ℕ
side_node Present g = g.yes
side_node Missing g = g.no

-- the rows of a set operator: those of the first on a side of the second, or all of both
abbrev pub set_rows : Option Side → Rows → Rows → Rows
set_rows None xs ys = xs ++ ys
set_rows (Some Present) xs ys = filter (has_row ys) xs
set_rows (Some Missing) xs ys = filter (λ r. not (has_row ys r)) xs

-- rows in order, each where its place is kept
abbrev pub placed : ℕ → Rows → List Entry
placed n [] = []
placed n (r ∷ rs) = (r, λ s. bool_at s n) ∷ placed (n + 1) rs

-- where a condition is Yes, and where it is No
abbrev pub yes_when : Pred → Tables → Env → Formula
yes_when p given env s = is_yes (pred_by wrapped p (kept given s) env)

abbrev pub no_when : Pred → Tables → Env → Formula
no_when p given env s = is_no (pred_by wrapped p (kept given s) env)

-- the same of several conditions
abbrev pub yes_of : List Pred → Tables → Env → List Formula
yes_of ps given env = map (λ p. yes_when p given env) ps

abbrev pub no_of : List Pred → Tables → Env → List Formula
no_of ps given env = map (λ p. no_when p given env) ps

-- each row of either list is in the other
abbrev pub SameRows : Rows → Rows → Type 0
SameRows xs ys = (r : List Value) → has_row xs r ≡ has_row ys r

-- at every Keep the noted rows whose node is true are the same as these
pub record Gives (d : Shared) (ns : List Noted) (rows : List Bool → Rows) : Type 0 where
  pub below : AreNoted d ns
  pub same : (s : List Bool) → SameRows (rows_at s (entries_of d ns)) (rows s)

-- the rows that were chosen so far, and the entries that are still to come
pub record Choosing (old now : Shared) (out : List Noted) (rest whole : List Entry) : Type 0 where
  pub grown : IsGrown old now
  pub below : AreNoted now out
  pub same : (s : List Bool) → rows_at s (entries_of now out ++ rest) ≡ rows_at s whole

-- a condition with the row as the innermost in scope
abbrev pub test_under : Pred → Tables → Env → List Value → Test
test_under p given env r = (yes_when p given (r ∷ env), no_when p given (r ∷ env))

-- conditions together
abbrev pub test_joined : Junction → List Pred → Tables → Env → Test
test_joined All ps given env =
    (λ s. is_yes (all_of (map (pred_by wrapped) ps) (kept given s) env), λ s. is_no (all_of (map (pred_by wrapped) ps) (kept given s) env))
test_joined Any ps given env =
    (λ s. is_yes (any_of (map (pred_by wrapped) ps) (kept given s) env), λ s. is_no (any_of (map (pred_by wrapped) ps) (kept given s) env))

-- the nodes of conditions together
abbrev pub gates_joined : Junction → Shared → TruthLists → Test
gates_joined All d gates = (λ s. list_all (val d s) gates.yes, λ s. list_any (val d s) gates.no)
gates_joined Any d gates = (λ s. list_any (val d s) gates.yes, λ s. list_all (val d s) gates.no)

-- the node of a condition that decides these, where it is true at every choice
abbrev pub deciding : Junction → TruthNodes → ℕ
deciding All g = g.no
deciding Any g = g.yes

abbrev pub nodes_of : List Noted → List ℕ
nodes_of ns = map (λ n. n.node) ns

abbrev pub sure : Value → List Noted → List ℕ
sure x ns = nodes_where (λ r. is_yes (cell_truth x r)) ns

abbrev pub possible : Value → List Noted → List ℕ
possible x ns = nodes_where (λ r. not (is_no (cell_truth x r))) ns

abbrev pub projected_rows : List Noted → List Expr → Env → List Noted
projected_rows ns es env = map (λ n. record { row = row_by wrapped es (n.row ∷ env); node = n.node }) ns

-- the rows that are noted so far, and the entries that are still to come
pub record Along (old now : Shared) (out : List Noted) (rest whole : List Entry) : Type 0 where
  pub grown : IsGrown old now
  pub below : AreNoted now out
  pub same : entries_of now out ++ rest ≡ whole

-- whether the row is noted
abbrev pub noted_in : List Value → List Noted → Bool
noted_in r ns = list_any (λ n. row_eq r n.row) ns

-- the noted rows are those of the entries, each once, and each node says at which choices its row
-- is there
pub record AreMerged (d : Shared) (out : List Noted) (es : List Entry) : Type 0 where
  pub below : AreNoted d out
  pub same : (r : List Value) (s : List Bool) → stands (entries_of d out) r s ≡ stands es r s
  pub once : IsDistinct row_eq (map (λ n. n.row) out)

-- the rows that are noted in `seen` are merged
pub record Collecting (old now : Shared) (known : Grouped) (out ns seen : List Noted) : Type 0 where
  pub grown : IsGrown old now
  pub nodes : Each (λ n. IsNode now n.node (stands (entries_of old ns) n.row)) out
  pub once : IsDistinct row_eq (map (λ n. n.row) out)
  pub rows : (r : List Value) → noted_in r out ≡ noted_in r seen
  pub absent : (r : List Value) → nat_eq (length (group_at known r)) 0 ≡ not (noted_in r out)
