use Rattle.std.proofs.Common.{◌∙◌, true, cond, List, ap, sym, subst}
use Rattle.std.specs.BTreeMap.{is_at}
use Rattle.std.specs.Cmp.Lexicographic.{slice_cmp}
use Rattle.std.specs.List.{list_any}
use Rattle.std.specs.Ordering.{nat_cmp}
use Rattle.rt_scope.specs.Lookup.{Text}
use Rattle.rt_scope.specs.Names.{AreNamesOf}
use Rattle.rt_scope.specs.declared.source.Source.{Source}
use Rattle.rt_scope.proofs.Naming.{names-more}
use Rattle.rt_scope.proofs.sources.Sources.with.Goals as goal

pub invariant_of-result : goal.invariant_of-result
invariant_of-result c =
    let old = c.self.inside.names.keys in
    let new = c.insert.new.self.keys in
    let Names : List Source → Type 0 = λ ss. AreNamesOf ss new in
    subst Names (sym c.in_ok-push.ensures.ok)
    (names-more c.self.inside.list c.args.source old new c.self.invariant
    (λ q. c.in_ok-insert.ensures.updates.0 q ∙ ap (λ (k : Text). cond (is_at (slice_cmp nat_cmp k) q) true (list_any (is_at (slice_cmp nat_cmp q)) old)) c.in_ok-copy.ensures))
