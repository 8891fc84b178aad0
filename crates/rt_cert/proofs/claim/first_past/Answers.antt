use Rattle.std.proofs.Common.{sym}
use Rattle.rt_cert.proofs.ClaimLemmas.{find-at, find-end, find-on}
use Rattle.rt_cert.proofs.claim.first_past.Goals as goal

pub returns-then-rows-place : goal.returns-then-rows-place
returns-then-rows-place c = sym (find-at c.args.rows c.args.places.now c.loop-place.place-index c.loop-place-test.true c.if-rows-place.true c.loop-place.invariant)

pub loop-place-preserved : goal.loop-place-preserved
loop-place-preserved c = find-on c.args.rows c.args.places.now c.loop-place.place-index c.loop-place-test.true c.if-rows-place.false c.loop-place.invariant

pub returns : goal.returns
returns c = sym (find-end c.args.rows c.args.places.now c.loop-place.place-index c.loop-place-test.false c.loop-place.invariant)
