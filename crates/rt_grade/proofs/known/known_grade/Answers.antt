use Rattle.std.proofs.Common.{◌∙◌, sym}
use Rattle.rt_grade.proofs.KnownLemmas.{known_query}
use Rattle.rt_grade.proofs.known.known_grade.Goals as goal

pub returns-then-same_query : goal.returns-then-same_query
returns-then-same_query c = known_query
    c.again.result c.args.known.now c.loop-before.before-index c.before-item.result c.args.query.now c.loop-before-test.true c.before-item.is
    (sym c.get.ensures ∙ c.same_query.ensures c.if-same_query.true) c.again.ensures
