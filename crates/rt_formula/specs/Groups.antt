-- Nodes of noted rows, grouped by the rows.
use Rattle.std.specs.Prelude.{ℕ, Bool, cond, List, [], ◌∷◌}
use Rattle.std.specs.Option.{unwrap_or}
use Rattle.std.specs.Map.{lookup}
use Rattle.std.specs.BTreeMap.{is_at}
use Rattle.rt_value.specs.declared.value.Value.{Value}
use Rattle.rt_value.specs.Row.{row_cmp, row_eq}
use Rattle.rt_formula.specs.declared.noted.Noted.{Noted}

-- rows in their order, each with the nodes of its noted rows
abbrev pub Grouped : Type 0
Grouped = List (List Value × List ℕ)

abbrev pub group_at : Grouped → List Value → List ℕ
group_at groups row = unwrap_or (lookup (is_at (row_cmp row)) groups) []

-- the nodes of the rows that pass a test
abbrev pub nodes_where : (List Value → Bool) → List Noted → List ℕ
nodes_where test [] = []
nodes_where test (n ∷ ns) = cond (test n.row) (n.node ∷ nodes_where test ns) (nodes_where test ns)

-- the nodes of the rows that are the same as this one
abbrev pub standing : List Value → List Noted → List ℕ
standing row ns = nodes_where (row_eq row) ns
