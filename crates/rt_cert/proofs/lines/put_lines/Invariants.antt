use Rattle.std.proofs.Common.{◌≡◌, false, map, take}
use Rattle.rt_cert.proofs.lines.put_lines.Given as goal

abbrev pub invariant-loop-i : goal.invariant-loop-i
invariant-loop-i g l = record { lines : g.A.Adds.lines l.to ≡ take l.i l.lines; derived : g.A.Adds.derived l.to ≡ map (λ line. false) (take l.i l.lines) }
