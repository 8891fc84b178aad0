use Rattle.std.proofs.Common.{◌≡◌, ◌+◌, ◌-◌, arith}
use Rattle.std.proofs.lemmas.Result.{err_from_is_err_and}
use Rattle.rt_token.proofs.GoesLemmas.{goes-end, goes-fail, goes-give, goes-on, goes-pass, passes}
use Rattle.rt_token.proofs.Readings.{order-past, order-push, readings-push}
use Rattle.rt_token.proofs.lexer.tokens_of.Goals as goal

pub returns-in_err-piece-clause-value : goal.returns-in_err-piece-clause-value
returns-in_err-piece-clause-value c =
    let p = err_from_is_err_and c.from_residual.result c.from_residual.ensures.1 in
    rw (p.1, p.2) (passes c.in_err-piece.field-0.0 _ _ (goes-fail _ _ _ _ c.tokens.invariant.goes c.tokens-test.true) c.in_err-piece.ensures.value)

pub tokens-preserved-in-Continue-branch-2 : goal.tokens-preserved-in-Continue-branch-2
tokens-preserved-in-Continue-branch-2 c =
    let w = c.in_ok-piece.ensures.within in
    let e = goes-on _ _ _ c.in_ok-piece.piece c.tokens.invariant.goes c.in_ok-piece.ensures.value w.0 w.1 in
    let m : c.tokens.at + c.in_ok-piece.piece.len - c.tokens.at ≡ c.in_ok-piece.piece.len = omega arith in
    let r = rw c.in-Some.is at c.in_ok-piece.ensures.reading in
    rw (c.in_ok-push.ensures.ok, c.in-Some.kind-is) (record {
      goes = goes-give _ _ _ c.in-Some.kind c.in_ok-piece.piece.len w.1 (rw c.in-Some.is at e);
      order = order-push _ _ 0 c.tokens.invariant.order (omega (arith, w));
      readings = readings-push _ _ _ c.tokens.invariant.readings (rw m r);
    })

pub tokens-preserved : goal.tokens-preserved
tokens-preserved c =
    let w = c.in_ok-piece.ensures.within in
    let e = goes-on _ _ _ c.in_ok-piece.piece c.tokens.invariant.goes c.in_ok-piece.ensures.value w.0 w.1 in
    record {
      goes = goes-pass _ _ _ c.in_ok-piece.piece.len w.1 (rw c.in_default.is at e);
      order = order-past c.tokens.at (c.tokens.at + c.in_ok-piece.piece.len) _ 0 c.tokens.invariant.order (omega arith);
      readings = c.tokens.invariant.readings;
    }

pub returns-clause-value : goal.returns-clause-value
returns-clause-value c = goes-end _ _ _ c.tokens.invariant.goes c.tokens-test.false
