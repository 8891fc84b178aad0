-- One more source has one more name.
use Rattle.std.proofs.Common.{◌≡◌, ◌∙◌, Bool, true, false, cond, List, [], ◌∷◌, ◌++◌, refl, sym, ap}
use Rattle.std.proofs.lemmas.Map.Text.{is_eq-slice_cmp}
use Rattle.std.specs.BTreeMap.{is_at}
use Rattle.std.specs.Cmp.Lexicographic.{slice_cmp}
use Rattle.std.specs.List.{list_any}
use Rattle.std.specs.Ordering.{nat_cmp}
use Rattle.std.specs.Prelude.{is_some, if◌then◌else◌, Option, Some, None}
use Rattle.std.specs.Str.{bytes_eq}
use Rattle.rt_scope.specs.Lookup.{Text, source_named}
use Rattle.rt_scope.specs.Names.{AreNamesOf}
use Rattle.rt_scope.specs.declared.source.Source.{Source}

here : (b : Bool) (s : Source) → is_some (if b then Some s else None) ≡ cond b true false
here true s = refl
here false s = refl

there : (a b : Bool) (x : Source) (o p : Option Source) → is_some o ≡ cond b true (is_some p) → is_some (if a then Some x else o) ≡ cond b true (is_some (if a then Some x else p))
there true true x o p h = refl
there true false x o p h = refl
there false b x o p h = h

named-more : (name : Text) (ss : List Source) (s : Source) → is_some (source_named name (ss ++ s ∷ [])) ≡ cond (bytes_eq s.name name) true (is_some (source_named name ss))
named-more name [] s = here (bytes_eq s.name name) s
named-more name (x ∷ ss) s = there (bytes_eq x.name name) (bytes_eq s.name name) x (source_named name (ss ++ s ∷ [])) (source_named name ss) (named-more name ss s)

pub names-more : (ss : List Source) (s : Source) (old new : List Text) → AreNamesOf ss old
    → ((q : Text) → list_any (is_at (slice_cmp nat_cmp q)) new ≡ cond (is_at (slice_cmp nat_cmp s.name) q) true (list_any (is_at (slice_cmp nat_cmp q)) old))
    → AreNamesOf (ss ++ s ∷ []) new
names-more ss s old new h inserted name =
    named-more name ss s ∙ ap (λ b. cond (bytes_eq s.name name) true b) (h name)
    ∙ ap (λ b. cond b true (list_any (is_at (slice_cmp nat_cmp name)) old)) (sym (is_eq-slice_cmp s.name name)) ∙ sym (inserted name)
