use Rattle.std.proofs.Common.{◌≡◌, drop}
use Rattle.rt_scope.specs.Select.{with_sources}
use Rattle.rt_scope.proofs.select.with_sources.Given as goal

abbrev pub invariant-loop-source : goal.invariant-loop-source
invariant-loop-source l = with_sources l.list (drop l.source-index l.sources) ≡ with_sources l.fn.start l.sources
