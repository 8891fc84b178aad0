use Rattle.std.proofs.Common.{◌∙◌, ap, sym}
use Rattle.rt_noted.specs.declared.subquery.Memo.TheVariants.{Listed}
use Rattle.rt_noted.proofs.Knowing.{same_holds}
use Rattle.rt_noted.proofs.subquery.Subquery.rows.Goals as goal

pub returns-in-Listed : goal.returns-in-Listed
returns-in-Listed c d given h = same_holds d given (c.same_query.ensures c.if-same_query.true) (c.in-Listed.is ∙ ap Listed (sym c.as_slice.ensures)) h
