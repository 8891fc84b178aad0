use Rattle.std.proofs.Common.{arith}
use Rattle.rt_schema.proofs.PairsLemmas.{foreign_pairs-step}
use Rattle.rt_schema.proofs.pairs.foreign_pairs.Goals as goal

pub loop-row-preserved : goal.loop-row-preserved
loop-row-preserved c = record {
  small = omega arith;
  pairs = foreign_pairs-step c.capped_add-pairs.result c.loop-row.pairs c.loop-row.row-index c.agreeing.result c.args.from.now c.args.to.now
      c.args.others.now c.args.rows.now c.row-item.result c.loop-row-test.true c.row-item.is c.agreeing.ensures c.capped_add-pairs.ensures
      c.loop-row.invariant.pairs;
}
