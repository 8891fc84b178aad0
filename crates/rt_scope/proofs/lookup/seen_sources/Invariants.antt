use Rattle.std.proofs.Common.{◌≡◌, drop}
use Rattle.rt_scope.specs.Lookup.{seen_sources}
use Rattle.rt_scope.specs.declared.lookup.Seen.TheVariants.{Nobody}
use Rattle.rt_scope.proofs.lookup.seen_sources.Given as goal

abbrev pub invariant-loop-source : goal.invariant-loop-source
invariant-loop-source l = seen_sources l.name l.seen (drop l.source-index l.sources) ≡ seen_sources l.name Nobody l.sources
