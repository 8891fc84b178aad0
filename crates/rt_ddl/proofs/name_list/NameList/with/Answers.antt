use Rattle.std.proofs.Common.{◌∙◌, ◌++◌, ◌∷◌, [], List, ℕ, ap, subst, sym}
use Rattle.std.specs.Prelude.{bytes_eq}
use Rattle.rt_token.specs.Terminals.{Word}
use Rattle.rt_ddl.specs.Meaning.{given, or_else}
use Rattle.rt_ddl.specs.Places.{ArePlacesOf, placed_at}
use Rattle.rt_ddl.proofs.PlaceLemmas.{places-more}
use Rattle.rt_ddl.proofs.name_list.NameList.with.Goals as goal

pub invariant_of-result : goal.invariant_of-result
invariant_of-result c =
    let name = c.args.name.now in
    let list = c.self.inside.list in
    let old = c.self.inside.places.entries in
    let new = c.put_first.new.places.entries in
    let Placed : List Word → Type 0 = λ ns. ArePlacesOf ns new in
    subst Placed (sym (c.in_ok-push.ensures.ok ∙ ap (λ (k : Word). list ++ k ∷ []) c.in_ok-copy.ensures))
    (places-more list name old new c.self.invariant
    (λ n. c.in_ok-put_first.ensures n ∙ ap (λ (k : ℕ). or_else (placed_at old n) (given (bytes_eq name n) k)) c.len.ensures))
