use Rattle.std.proofs.Common.{◌∙◌, ◌≡◌, ◌++◌, ◌∷◌, [], ℕ, List, Some, ap, ap₂, cond, subst}
use Rattle.std.specs.Map.{lookup}
use Rattle.std.specs.BTreeMap.{is_at}
use Rattle.std.specs.Option.{unwrap_or}
use Rattle.rt_value.specs.Row.{row_cmp, row_eq}
use Rattle.rt_formula.specs.Groups.{Grouped, group_at}
use Rattle.rt_formula.proofs.GroupLemmas.{group_joins}
use Rattle.rt_rules.proofs.place_groups.PlaceGroups.put.Goals as goal

pub returns : goal.returns
returns c row =
    let key = c.args.key in
    let old = c.self.inside.places.entries in
    let less = c.remove.new.self.entries in
    let group = c.unwrap_or-group.result in
    let was : group ≡ group_at old key = c.unwrap_or-group.ensures ∙ ap₂ unwrap_or c.remove.ensures.value c.new.ensures in
    let G : Grouped → Type 0 = λ g. group_at c.insert.new.self.entries row ≡ group_at g row ++ cond (row_eq row key) (c.args.place ∷ []) [] in
    subst G c.self.view_is
    (group_joins old less c.insert.new.self.entries key group c.args.place was c.remove.ensures.updates.0
    (λ q. c.in_ok-insert.ensures.updates.0 q
    ∙ ap (λ (v : List ℕ). cond (is_at (row_cmp key) q) (Some v) (lookup (is_at (row_cmp q)) less)) c.in_ok-push.ensures.ok) row)
