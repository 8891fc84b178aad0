use Rattle.std.proofs.Common.{rules, ◌∙◌, ◌≡◌, ◌++◌, ◌∷◌, [], ℕ, List, None, Some, refl, sym, ap, cond, subst}
use Rattle.std.proofs.lemmas.Result.{on_ok_weaker}
use Rattle.std.specs.Map.{lookup}
use Rattle.std.specs.BTreeMap.{is_at}
use Rattle.std.specs.Option.{option_copied_mut, unwrap_or}
use Rattle.rt_value.specs.declared.value.Value.{Value}
use Rattle.rt_value.specs.Row.{row_cmp, row_eq}
use Rattle.rt_formula.specs.Groups.{Grouped, group_at}
use Rattle.rt_formula.proofs.GroupLemmas.{group_is, group_grows}
use Rattle.rt_formula.proofs.groups.Groups.put.Goals as goal

pub returns-in-Some : goal.returns-in-Some
returns-in-Some c =
    let n = c.args.noted.now in
    let old = c.self.inside.nodes.entries in
    let group = c.in-Some.group.now in
    let more = c.push.new.self in
    let new = (c.get_mut.follows.lender more).entries in
    let found : Some group ≡ lookup (is_at (row_cmp n.row)) old = ap option_copied_mut (sym c.in-Some.is) ∙ c.get_mut.ensures.value in
    let G : Grouped → Type 0 = λ g. (row : List Value) → group_at new row ≡ group_at g row ++ cond (row_eq row n.row) (n.node ∷ []) [] in
    on_ok_weaker c.push.result
    (λ pushed. subst G c.self.view_is
    (group_grows old new n.row group n.node (ap (λ o. unwrap_or o []) found)
    (group_is old new n.row (group ++ n.node ∷ [])
    (λ q. ((c.get_mut.follows.holds more).3 (search rules)).0 q ∙ ap (λ (v : List ℕ). cond (is_at (row_cmp n.row) q) (Some v) (lookup (is_at (row_cmp q)) old)) pushed)))) c.push.ensures.ok

pub returns-in_ok-row-in-None : goal.returns-in_ok-row-in-None
returns-in_ok-row-in-None c =
    let n = c.args.noted.now in
    let old = c.self.inside.nodes.entries in
    let missed : None ≡ lookup (is_at (row_cmp n.row)) old = ap option_copied_mut (sym c.in-None.is) ∙ c.get_mut.ensures.value in
    let new = c.set.new.self in
    let G : Grouped → Type 0 = λ g. (row : List Value) → group_at new row ≡ group_at g row ++ cond (row_eq row n.row) (n.node ∷ []) [] in
    on_ok_weaker c.set.result
    (λ is. subst G c.self.view_is
    (group_grows old new n.row [] n.node (ap (λ o. unwrap_or o []) missed) (λ q. is q ∙ rw (c.in_ok-row-in-None.ensures, c.get_mut.follows.holds-at-none) refl))) c.set.ensures
