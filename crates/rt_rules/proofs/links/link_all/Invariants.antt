use Rattle.std.proofs.Common.{◌≡◌, ◌++◌, map, take}
use Rattle.rt_rules.specs.Cone.{link}
use Rattle.rt_rules.proofs.links.link_all.Given as goal

abbrev pub invariant-loop-place : goal.invariant-loop-place
invariant-loop-place l = l.links ≡ l.fn.links ++ map (link l.fn.from) (take l.place-index l.to)
