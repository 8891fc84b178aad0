use Rattle.std.proofs.Common.{get_or}
use Rattle.rt_rules.specs.Cone.{link}
use Rattle.rt_rules.proofs.LinkLemmas.{any-default, links-more, map-more}
use Rattle.rt_rules.proofs.links.link_all.Goals as goal

pub loop-place-preserved : goal.loop-place-preserved
loop-place-preserved c =
    let to = c.args.to.now in
    let at = c.loop-place.place-index in
    let place = get_or to at 0 in
    links-more c.args.links.now c.loop-place.links _ _ _ _ c.loop-place.invariant c.in_ok-link_one.ensures
    (map-more (link c.args.from) to at place c.loop-place-test.true (any-default to at 0 place c.loop-place-test.true))
