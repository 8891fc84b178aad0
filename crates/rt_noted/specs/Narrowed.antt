-- The rows of a product on which each member's own conditions and keys hold.
use Rattle.std.specs.Prelude.{◌≡◌, ℕ, Bool, true, false, ◌&&◌, nat_eq, List, [], ◌∷◌, ◌++◌, length}
use Rattle.std.specs.List.{filter, list_all}
use Rattle.rt_schema.specs.Given.{Rows, Tables}
use Rattle.rt_algebra.specs.Answer.{is_yes, pred_by}
use Rattle.rt_algebra.specs.Expression.{Env, wrapped}
use Rattle.rt_split.specs.Join.{product_rows}
use Rattle.rt_split.specs.Split.{all_simple, keys_yes, first, later}
use Rattle.rt_algebra.specs.declared.query.Pred.{Pred}
use Rattle.rt_split.specs.declared.parts.KeyPair.{KeyPair}
use Rattle.rt_formula.specs.Shared.{Shared}
use Rattle.rt_formula.specs.declared.noted.Noted.{Noted}
use Rattle.rt_noted.specs.declared.joint.Joint.{Joint}
use Rattle.rt_noted.specs.Annotated.{SameRows}
use Rattle.rt_noted.specs.Entries.{rows_at}
use Rattle.rt_noted.specs.Joints.{AreJoints, AreMembers, join_joint, joint_entries, member_rows}

-- the rows of a member on which its own conditions are true
abbrev pub own_rows : List Pred → Env → List Noted → List Noted
own_rows ps env ns = filter (λ n. all_simple wrapped ps (n.row ∷ env)) ns

-- each of the rows before each row of a member that matches it by the keys
abbrev pub matched_joints : List KeyPair → List Joint → List Noted → List Joint
matched_joints ks [] ns = []
matched_joints ks (j ∷ js) ns = join_joint j (filter (λ n. keys_yes ks j.row n.row) ns) ++ matched_joints ks js ns

-- the same for member after member
abbrev pub joined_joints : List (List Pred) → List (List KeyPair) → List Joint → List (List Noted) → Env → List Joint
joined_joints own keys front [] env = front
joined_joints own keys front (ns ∷ members) env =
    joined_joints (later own) (later keys) (matched_joints (first keys) front (own_rows (first own) env ns)) members env

-- each row of each member is as long as the width says
abbrev pub are_long : List ℕ → List (List Noted) → Bool
are_long [] [] = true
are_long [] (ns ∷ members) = false
are_long (width ∷ widths) [] = false
are_long (width ∷ widths) (ns ∷ members) = list_all (λ n. nat_eq (length n.row) width) ns && are_long widths members

-- at every choice the condition is true on the same of these rows as of the rows of the product
pub record IsNarrowed (p : Pred) (env : Env) (members : List (List Noted)) (joints : List Joint) : Type 0 where
  pub below : (d : Shared) → AreMembers d members → AreJoints d joints
  pub same : (d : Shared) (s : List Bool) (db : Tables) → filter (λ r. is_yes (pred_by wrapped p db (r ∷ env))) (rows_at s (joint_entries d joints))
      ≡ filter (λ r. is_yes (pred_by wrapped p db (r ∷ env))) (product_rows ([] ∷ []) (member_rows d s members))

-- at every choice of rows the condition is true on the same of these rows as of the others
abbrev pub IsSelected : Shared → Pred → Env → List Joint → (List Bool → Rows) → Type 0
IsSelected d p env joints rows = (s : List Bool) (db : Tables) → SameRows (filter (λ r. is_yes (pred_by wrapped p db (r ∷ env))) (rows_at s (joint_entries d joints))) (filter (λ r. is_yes (pred_by wrapped p db (r ∷ env))) (rows s))
