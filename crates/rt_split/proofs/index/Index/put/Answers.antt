use Rattle.std.proofs.Common.{rules, ◌∙◌, ◌≡◌, ◌++◌, ◌∷◌, [], ℕ, List, None, Some, refl, sym, ap, cond, subst}
use Rattle.std.proofs.lemmas.Result.{on_ok_weaker}
use Rattle.std.specs.Map.{lookup}
use Rattle.std.specs.BTreeMap.{is_at}
use Rattle.std.specs.Option.{option_copied_mut, unwrap_or}
use Rattle.rt_value.specs.declared.value.Value.{Value}
use Rattle.rt_value.specs.Row.{row_cmp, row_eq}
use Rattle.rt_split.specs.Index.{Placed, places_at}
use Rattle.rt_split.proofs.Keys.{place_joins}
use Rattle.rt_split.proofs.index.Index.put.Goals as goal

pub returns-in-Some : goal.returns-in-Some
returns-in-Some c =
    let key = c.args.key in
    let old = c.self.inside.places.entries in
    let places = c.in-Some.places.now in
    let more = c.push.new.self in
    let new = (c.get_mut.follows.lender more).entries in
    let found : Some places ≡ lookup (is_at (row_cmp key)) old = ap option_copied_mut (sym c.in-Some.is) ∙ c.get_mut.ensures.value in
    let G : Placed → Type 0 = λ g. (other : List Value) → places_at new other ≡ places_at g other ++ cond (row_eq other key) (c.args.place ∷ []) [] in
    on_ok_weaker c.push.result
    (λ pushed. subst G c.self.view_is
    (place_joins old new key places c.args.place (ap (λ o. unwrap_or o []) found)
    (λ q. ((c.get_mut.follows.holds more).3 (search rules)).0 q ∙ ap (λ (v : List ℕ). cond (is_at (row_cmp key) q) (Some v) (lookup (is_at (row_cmp q)) old)) pushed))) c.push.ensures.ok

pub returns-in_ok-insert-in-None : goal.returns-in_ok-insert-in-None
returns-in_ok-insert-in-None c other =
    let key = c.args.key in
    let old = c.self.inside.places.entries in
    let missed : None ≡ lookup (is_at (row_cmp key)) old = ap option_copied_mut (sym c.in-None.is) ∙ c.get_mut.ensures.value in
    let new = c.insert.new.self.entries in
    let G : Placed → Type 0 = λ g. places_at new other ≡ places_at g other ++ cond (row_eq other key) (c.args.place ∷ []) [] in
    subst G c.self.view_is
    (place_joins old new key [] c.args.place (ap (λ o. unwrap_or o []) missed)
    (λ q. c.in_ok-insert-in-None.ensures.updates.0 q ∙ rw (c.in_ok-push-in-None.ensures.ok, c.new-places.ensures, c.get_mut.follows.holds-at-none) refl) other)
