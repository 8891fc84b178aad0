use Rattle.std.proofs.Common.{◌<◌, ◌^◌, length, get_or, set, Some, None, sym, ap, ◌∙◌, subst, arith}
use Rattle.rt_clause.specs.Thin.{somes}
use Rattle.rt_clause.proofs.ThinPlaces.{length-filled, filled-none, filled-all, filled-next, filled-more, somes-map}
use Rattle.rt_clause.proofs.thin.ThinClause.of.Goals as goal

pub loop-i-init : goal.loop-i-init
loop-i-init c = let made = c.in_ok-start.ensures in (made.0, made.1 ∙ filled-none c.args.lits.now)

pub write-requires : goal.write-requires
write-requires c =
    let at = c.loop-i.invariant in let long = ap length at.1 ∙ length-filled c.loop-i.i c.args.lits.now in
    (sym at.0, subst (λ n. c.loop-i.i < n) (sym long) c.loop-i-test.true, ap (λ cs. get_or cs c.loop-i.i None) at.1 ∙ filled-next c.loop-i.i c.args.lits.now)

pub loop-i-preserved : goal.loop-i-preserved
loop-i-preserved c =
    let at = c.loop-i.invariant in
    (c.write.ensures.0 ∙ at.0, c.write.ensures.1 ∙ ap (λ cs. set cs c.loop-i.i (Some c.index-lits-i.result)) at.1 ∙ filled-more c.loop-i.i c.args.lits.now c.index-lits-i.result c.loop-i-test.true c.index-lits-i.is)

pub invariant_of-result : goal.invariant_of-result
invariant_of-result c =
    let at = c.loop-i.invariant in let made = c.in_ok-start.ensures in
    let long = ap length at.1 ∙ length-filled c.loop-i.i c.args.lits.now in
    record {
      places_at = sym at.0;
      deed_at = made.2;
      deed_len = made.3 ∙ sym long;
      given_by = made.4;
      full = (c.args.lits.now, at.1 ∙ filled-all c.loop-i.i c.args.lits.now (omega (arith, c.loop-i-test.false)));
      fits = subst (λ n. n < 2 ^ 59) (sym long) (omega (arith, c.if-len-ge-LIMIT.false));
    }

pub returns : goal.returns
returns c = let at = c.loop-i.invariant in ap somes (at.1 ∙ filled-all c.loop-i.i c.args.lits.now (omega (arith, c.loop-i-test.false))) ∙ somes-map c.args.lits.now
