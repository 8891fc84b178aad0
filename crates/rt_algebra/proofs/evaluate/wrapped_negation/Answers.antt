use Rattle.std.proofs.Common.{◌≡◌, ◌∙◌, ap, neg_ℤ}
use Rattle.std.specs.Int.{w128, int_wrap, int_wrapping_neg}
use Rattle.std.proofs.lemmas.Int.{wrapping_neg_is, to_z-of_z, SFits-int_wrap}
use Rattle.rt_algebra.proofs.evaluate.wrapped_negation.Goals as goal

pub returns : goal.returns
returns c =
    let r : c.wrapping_neg.result ≡ int_wrap w128 (neg_ℤ c.args.x) =
    c.wrapping_neg.ensures ∙ ap (int_wrapping_neg w128) (to_z-of_z w128 c.args.x c.ranges.x) ∙ wrapping_neg_is w128 c.args.x c.ranges.x in
    rw r (to_z-of_z w128 (int_wrap w128 (neg_ℤ c.args.x)) (SFits-int_wrap w128 (neg_ℤ c.args.x)))
