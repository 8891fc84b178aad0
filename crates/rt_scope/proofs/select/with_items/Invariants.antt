use Rattle.std.proofs.Common.{◌≡◌, drop, map}
use Rattle.rt_scope.specs.Select.{with_items}
use Rattle.rt_scope.proofs.select.with_items.Given as goal

abbrev pub invariant-loop-item : goal.invariant-loop-item
invariant-loop-item l = with_items l.list (drop l.item-index l.items) l.own (map (λ s. s.now) l.scopes) ≡ with_items l.fn.start l.items l.own (map (λ s. s.now) l.scopes)
