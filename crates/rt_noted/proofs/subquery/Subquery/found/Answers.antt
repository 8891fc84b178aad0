use Rattle.rt_noted.proofs.Knowing.{same_holds}
use Rattle.rt_noted.proofs.subquery.Subquery.found.Goals as goal

pub returns-in-Tested : goal.returns-in-Tested
returns-in-Tested c d given h = same_holds d given (c.same_query.ensures c.if-same_query.true) c.in-Tested.is h
