use Rattle.std.proofs.Common.{◌∙◌, ◌≡◌, ◌++◌, ◌∷◌, [], ℕ, List, Some, ap, cond, subst}
use Rattle.std.specs.Map.{lookup}
use Rattle.std.specs.BTreeMap.{is_at}
use Rattle.rt_value.specs.Row.{row_cmp, row_eq}
use Rattle.rt_formula.specs.Groups.{Grouped, group_at}
use Rattle.rt_formula.proofs.GroupLemmas.{group_is}
use Rattle.rt_formula.proofs.groups.Groups.set.Goals as goal

pub returns : goal.returns
returns c other =
    let row = c.args.row in
    let old = c.self.inside.nodes.entries in
    let new = c.insert.new.self.entries in
    let node = c.args.node in
    let G : Grouped → Type 0 = λ g. group_at new other ≡ cond (row_eq other row) (node ∷ []) (group_at g other) in
    subst G c.self.view_is
    (group_is old new row (node ∷ [])
    (λ q. c.in_ok-insert.ensures.updates.0 q ∙ ap (λ (v : List ℕ). cond (is_at (row_cmp row) q) (Some v) (lookup (is_at (row_cmp q)) old)) (c.in_ok-push.ensures.ok ∙ ap (λ (g : List ℕ). g ++ node ∷ []) c.new-group.ensures)) other)
