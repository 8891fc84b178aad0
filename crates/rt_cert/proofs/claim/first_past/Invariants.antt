use Rattle.std.proofs.Common.{◌≡◌, nat_le, drop}
use Rattle.std.specs.List.{find}
use Rattle.rt_cert.proofs.claim.first_past.Given as goal

abbrev pub invariant-loop-place : goal.invariant-loop-place
invariant-loop-place l = find (λ place. nat_le l.rows place) l.places ≡ find (λ place. nat_le l.rows place) (drop l.place-index l.places)
