use Rattle.std.proofs.Common.{drop, subst, sym, take}
use Rattle.std.specs.Fmt.{decimal}
use Rattle.rt_recorder.specs.Certificate.{IsNumber}
use Rattle.rt_recorder.proofs.Numerals.{number-free}
use Rattle.rt_recorder.proofs.Spaced.{IsAlong, along-more, along-no_piece, along-no_space, cut-at, not-empty}
use Rattle.rt_recorder.proofs.pieces.numbers.Goals as goal

pub returns-in_default : goal.returns-in_default
returns-in_default c = along-no_space IsNumber decimal c.args.text.now c.pieces.out c.pieces.rest.now c.pieces.invariant (not-empty c.pieces.rest.now c.is_empty.result c.is_empty.ensures c.pieces-test.true) (c.in_default.ensures {u = tt})

pub returns-in_default-number : goal.returns-in_default-number
returns-in_default-number c =
    along-no_piece IsNumber decimal number-free c.args.text.now c.pieces.out c.pieces.rest.now c.in-Some.more.now c.split_at.result.0.now c.split_at.result.1.now c.pieces.invariant c.in-Some.ensures
    (cut-at 32 c.in-Some.more.now (take c.span.result c.in-Some.more.now) (drop c.span.result c.in-Some.more.now) c.span.ensures.cut c.split_at.result.0.now c.split_at.result.1.now c.split_at.ensures.front c.split_at.ensures.back)
    c.in_default-number.ensures

pub pieces-preserved : goal.pieces-preserved
pieces-preserved c =
    subst (λ o. IsAlong IsNumber decimal c.args.text.now o c.split_at.result.1.now) (sym c.in_ok-push.ensures.ok)
    (along-more IsNumber decimal number-free c.args.text.now c.pieces.out c.pieces.rest.now c.in-Some.more.now c.split_at.result.0.now c.split_at.result.1.now c.in-Some-number.n c.pieces.invariant c.in-Some.ensures
    (cut-at 32 c.in-Some.more.now (take c.span.result c.in-Some.more.now) (drop c.span.result c.in-Some.more.now) c.span.ensures.cut c.split_at.result.0.now c.split_at.result.1.now c.split_at.ensures.front c.split_at.ensures.back)
    c.in-Some-number.ensures)
