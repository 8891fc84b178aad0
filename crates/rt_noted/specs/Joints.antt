-- Rows of a product that have no node of their own yet.
use Rattle.std.specs.Prelude.{◌≡◌, Bool, List, [], ◌∷◌, ◌++◌, map}
use Rattle.std.specs.List.{All as Each, list_all}
use Rattle.rt_schema.specs.Given.{Rows}
use Rattle.rt_algebra.specs.Answer.{has_row}
use Rattle.rt_split.specs.Join.{product_rows}
use Rattle.rt_formula.specs.Shared.{Shared, val}
use Rattle.rt_formula.specs.declared.noted.Noted.{Noted}
use Rattle.rt_noted.specs.declared.joint.Joint.{Joint}
use Rattle.rt_noted.specs.Entries.{Entry, rows_at}
use Rattle.rt_noted.specs.Annotated.{AreNodes, AreNoted, SameRows, entries_of}

-- there where all of its nodes are true
abbrev pub joint_entry : Shared → Joint → Entry
joint_entry d j = (j.row, λ s. list_all (val d s) j.nodes)

abbrev pub joint_entries : Shared → List Joint → List Entry
joint_entries d js = map (joint_entry d) js

abbrev pub AreJoints : Shared → List Joint → Type 0
AreJoints d js = Each (λ j. AreNodes d j.nodes) js

-- a row before each of the others, and each of several rows before each of the others
abbrev pub join_joint : Joint → List Noted → List Joint
join_joint j [] = []
join_joint j (n ∷ ns) = record { row = j.row ++ n.row; nodes = j.nodes ++ n.node ∷ [] } ∷ join_joint j ns

abbrev pub pair_joints : List Joint → List Noted → List Joint
pair_joints [] ns = []
pair_joints (j ∷ js) ns = join_joint j ns ++ pair_joints js ns

-- the row without values alone, which is there at every choice
abbrev pub unit_joints : List Joint
unit_joints = record { row = []; nodes = [] } ∷ []

-- each concatenation of a row of the front and a row of each member
abbrev pub product_joints : List Joint → List (List Noted) → List Joint
product_joints front [] = front
product_joints front (ns ∷ members) = product_joints (pair_joints front ns) members

-- the rows of each member at a choice
abbrev pub member_rows : Shared → List Bool → List (List Noted) → List Rows
member_rows d s members = map (λ ns. rows_at s (entries_of d ns)) members

abbrev pub AreMembers : Shared → List (List Noted) → Type 0
AreMembers d members = Each (AreNoted d) members

-- at every choice the members have the same rows as these
pub record GiveEach (d : Shared) (members : List (List Noted)) (answers : List Bool → List Rows) : Type 0 where
  pub below : AreMembers d members
  pub same : (s : List Bool) → map has_row (member_rows d s members) ≡ map has_row (answers s)

-- at every choice their product has the same rows as these
pub record Makes (d : Shared) (members : List (List Noted)) (rows : List Bool → Rows) : Type 0 where
  pub below : AreMembers d members
  pub same : (s : List Bool) → SameRows (product_rows ([] ∷ []) (member_rows d s members)) (rows s)
