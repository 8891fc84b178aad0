use Rattle.std.proofs.Common.{refl, arith}
use Rattle.rt_eval.proofs.Pairing.{joined_step}
use Rattle.rt_eval.proofs.pairs.Pairs.joined.Goals as goal

pub loop-at-preserved : goal.loop-at-preserved
loop-at-preserved c =
    joined_step (λ xs. xs) (λ xs ys. refl) c.args.self.now.befores c.args.self.now.rows c.args.self.now.places c.loop-at.at (omega (arith, c.loop-at-test.true, c.len-at-end.ensures)) _ _ _ c.in_ok-out.ensures c.loop-at.invariant
