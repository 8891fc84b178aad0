use Rattle.std.proofs.Common.{◌≡◌, drop, map}
use Rattle.rt_scope.specs.Compare.{listed}
use Rattle.rt_scope.proofs.compare.listed.Given as goal

abbrev pub invariant-loop-next : goal.invariant-loop-next
invariant-loop-next l = listed l.kind l.all (drop l.next-index l.sums) (map (λ s. s.now) l.scopes) ≡ listed l.kind l.fn.so_far l.sums (map (λ s. s.now) l.scopes)
