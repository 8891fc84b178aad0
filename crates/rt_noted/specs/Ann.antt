-- Maps from rows to nodes, and what they say at a choice of rows.
use Rattle.std.specs.Prelude.{◌≡◌, ℕ, ◌<◌, Bool, false, cond, not, ◌&&◌, ◌||◌, List, [], ◌∷◌, length, Option, None, Some}
use Rattle.std.specs.List.{All as Each, list_any}
use Rattle.std.specs.Option.{is_some}
use Rattle.std.specs.Map.{lookup}
use Rattle.std.specs.BTreeMap.{is_at}
use Rattle.rt_value.specs.declared.value.Value.{Value}
use Rattle.rt_value.specs.Row.{row_cmp}
use Rattle.rt_schema.specs.Given.{Rows}
use Rattle.rt_formula.specs.Shared.{Shared, IsGrown, val}
use Rattle.rt_noted.specs.Entries.{Entry, stands}
use Rattle.rt_noted.specs.Annotated.{AreNodes, IsNode, entries_of, noted_in}
use Rattle.rt_formula.specs.declared.noted.Noted.{Noted}

-- rows in their order, each with its node
abbrev pub Mapped : Type 0
Mapped = List (List Value × ℕ)

-- the node of a row, if it has one
abbrev pub node_at : Mapped → List Value → Option ℕ
node_at a r = lookup (is_at (row_cmp r)) a

-- the nodes are of this Dag
abbrev pub AreOf : Shared → Mapped → Type 0
AreOf d a = Each (λ p. p.1 < length d.entries) a

-- false where there is no node
abbrev pub node_value : Shared → List Bool → Option ℕ → Bool
node_value d s None = false
node_value d s (Some n) = val d s n

-- the rows whose node is true
abbrev pub rows_of : Shared → List Bool → Mapped → Rows
rows_of d s [] = []
rows_of d s (p ∷ a) = cond (val d s p.1) (p.0 ∷ rows_of d s a) (rows_of d s a)

-- a row has a node where it is among the entries, and the node says when
pub record IsMerged (d : Shared) (a : Mapped) (es : List Entry) : Type 0 where
  pub found : (r : List Value) (n : ℕ) → node_at a r ≡ Some n → IsNode d n (stands es r)
  pub absent : (r : List Value) → node_at a r ≡ None → (s : List Bool) → stands es r s ≡ false

-- whether some row of these is there, and isn't in `b`
abbrev pub lost : Shared → Mapped → List Bool → Mapped → Bool
lost d b s a = list_any (λ p. val d s p.1 && not (node_value d s (node_at b p.0))) a

-- the nodes of the lost rows so far, and the rows still to come
pub record Losing (old now : Shared) (b : Mapped) (ns : List ℕ) (rest whole : Mapped) : Type 0 where
  pub grown : IsGrown old now
  pub below : AreNodes now ns
  pub rest_below : AreOf old rest
  pub same : (s : List Bool) → (list_any (val now s) ns || lost old b s rest) ≡ lost old b s whole

-- as the rows `seen` of `ns` get their nodes
pub record Merging (old now : Shared) (a : Mapped) (ns seen : List Noted) : Type 0 where
  pub grown : IsGrown old now
  pub seen_so_far : (r : List Value) → is_some (node_at a r) ≡ noted_in r seen
  pub found : (r : List Value) (n : ℕ) → node_at a r ≡ Some n → IsNode now n (stands (entries_of old ns) r)
