use Rattle.std.proofs.Common.{◌≡◌, drop}
use Rattle.rt_scope.specs.Lookup.{source_named}
use Rattle.rt_scope.proofs.source.source_named.Given as goal

abbrev pub invariant-loop-source : goal.invariant-loop-source
invariant-loop-source l = source_named l.name (drop l.source-index l.sources) ≡ source_named l.name l.sources
