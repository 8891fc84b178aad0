-- What nodes and groups of nodes mean at every choice of rows.
use Rattle.std.specs.Prelude.{◌≡◌, ℕ, ◌<◌, Bool, not, ◌&&◌, ◌||◌, List, drop, length}
use Rattle.std.specs.List.{list_all, list_any, All as Each}
use Rattle.rt_value.specs.declared.value.Value.{Value}
use Rattle.rt_value.specs.Row.{row_eq}
use Rattle.rt_schema.specs.Given.{Rows}
use Rattle.rt_schema.specs.Kept.{kept_rows}
use Rattle.rt_schema.specs.Cells.{cells, agree, is_null, cell, same_in}
use Rattle.rt_schema.specs.Check.{check_truth}
use Rattle.rt_schema.specs.Law.{passes}
use Rattle.rt_schema.specs.declared.check.Check.{Check}
use Rattle.rt_formula.specs.Shared.{Shared, val, bool_at}
use Rattle.rt_formula.specs.Groups.{Grouped, group_at}

-- the node's value at each choice of rows
pub record Means (d : Shared) (node : ℕ) (value : List Bool → Bool) : Type 0 where
  pub below : node < length d.entries
  pub same : (keep : List Bool) → length keep ≡ d.rows → val d keep node ≡ value keep

-- all of the nodes together
pub record MeanAll (d : Shared) (nodes : List ℕ) (value : List Bool → Bool) : Type 0 where
  pub below : Each (λ n. n < length d.entries) nodes
  pub same : (keep : List Bool) → length keep ≡ d.rows → list_all (val d keep) nodes ≡ value keep

-- all groups are of nodes of the formula
abbrev pub AreNodes : Shared → Grouped → Type 0
AreNodes d groups = (key : List Value) → Each (λ n. n < length d.entries) (group_at groups key)

-- the nodes of a group say whether a kept row has these values in the columns
pub record IsIndexed (d : Shared) (groups : Grouped) (columns : List ℕ) (rows : Rows) (base : ℕ) : Type 0 where
  pub below : AreNodes d groups
  pub same : (keep : List Bool) → length keep ≡ d.rows → (key : List Value)
      → list_any (val d keep) (group_at groups key) ≡ list_any (λ row. row_eq key (cells columns row)) (kept_rows rows (drop base keep))

-- one row joined the groups: its group says that the row is kept, or what it said before
pub record IsNoted (old new : Shared) (before after : Grouped) (columns : List ℕ) (row : List Value) (place : ℕ) : Type 0 where
  pub below : AreNodes new after
  pub same : (keep : List Bool) → length keep ≡ new.rows → (key : List Value)
      → list_any (val new keep) (group_at after key) ≡ ((bool_at keep place && row_eq key (cells columns row)) || list_any (val old keep) (group_at before key))

-- a row at a place is not kept, or it has a value in the column
abbrev pub filled : ℕ → List Value → ℕ → List Bool → Bool
filled column row place keep = not (bool_at keep place) || not (is_null (cell row column))

-- it is not kept, or agrees with no kept row of the others
abbrev pub apart : List ℕ → List Value → ℕ → Rows → ℕ → List Bool → Bool
apart key row place others base keep = not (bool_at keep place && list_any (agree key key row) (kept_rows others (drop base keep)))

-- it is not kept, or has NULL in a referencing column, or agrees with a kept row of the others
abbrev pub met : List ℕ → List ℕ → List Value → ℕ → Rows → ℕ → List Bool → Bool
met from to row place others base keep =
    not (bool_at keep place) || (list_any is_null (cells from row) || list_any (agree from to row) (kept_rows others (drop base keep)))

-- it is not kept, or the check passes
abbrev pub allowed : Check → List Value → ℕ → List Bool → Bool
allowed check row place keep = not (bool_at keep place) || passes (check_truth row check)

-- it is not kept, or agrees with no kept row of the others, or with one that is the same in `to`
abbrev pub determined : List ℕ → List ℕ → List Value → ℕ → Rows → ℕ → List Bool → Bool
determined from to row place others base keep =
    not (bool_at keep place && (list_any (agree from from row) (kept_rows others (drop base keep))
    && not (list_any (λ other. agree from from row other && same_in to row other) (kept_rows others (drop base keep)))))
