use Rattle.std.proofs.lemmas.Option.{IfSome_then}
use Rattle.rt_noted.proofs.Knowing.{known_at}
use Rattle.rt_noted.proofs.subquery.found_of.Goals as goal

pub returns-then-is_some : goal.returns-then-is_some
returns-then-is_some c = IfSome_then c.found-found.result c.found-found.ensures (λ x h d given a. h d given (known_at c.loop-subquery.subquery-index c.subquery-item.result c.loop-subquery-test.true c.subquery-item.is a))
