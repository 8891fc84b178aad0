use Rattle.std.proofs.Common.{arith}
use Rattle.std.proofs.lemmas.List.{take_rest}
use Rattle.rt_schema.proofs.PairsLemmas.{key_pairs-step}
use Rattle.rt_schema.proofs.pairs.key_pairs.Goals as goal

pub loop-at-preserved : goal.loop-at-preserved
loop-at-preserved c = record {
  small = omega arith;
  pairs = key_pairs-step c.capped_add-pairs.result c.loop-at.pairs c.loop-at.at c.agreeing.result c.args.key.now c.args.rows.now c.index-rows-at.result
      c.loop-at-test.true c.index-rows-at.is (rw take_rest at c.agreeing.ensures) c.capped_add-pairs.ensures c.loop-at.invariant.pairs;
}
