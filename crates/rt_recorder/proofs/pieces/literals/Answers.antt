use Rattle.std.proofs.Common.{drop, subst, sym, take}
use Rattle.rt_clause.specs.Literal.{Literal}
use Rattle.rt_recorder.specs.Certificate.{IsNumber, literal}
use Rattle.rt_recorder.proofs.Numerals.{lit-free}
use Rattle.rt_recorder.proofs.Spaced.{IsAlong, along-more, along-no_piece, along-no_space, cut-at, not-empty}
use Rattle.rt_recorder.proofs.pieces.literals.Goals as goal

abbrev IsLit : Literal → Type 0
IsLit l = IsNumber l.var

pub returns-in_default : goal.returns-in_default
returns-in_default c = along-no_space IsLit literal c.args.text.now c.pieces.out c.pieces.rest.now c.pieces.invariant (not-empty c.pieces.rest.now c.is_empty.result c.is_empty.ensures c.pieces-test.true) (c.in_default.ensures {u = tt})

pub returns-in_default-literal : goal.returns-in_default-literal
returns-in_default-literal c =
    along-no_piece IsLit literal lit-free c.args.text.now c.pieces.out c.pieces.rest.now c.in-Some.more.now c.split_at.result.0.now c.split_at.result.1.now c.pieces.invariant c.in-Some.ensures
    (cut-at 32 c.in-Some.more.now (take c.span.result c.in-Some.more.now) (drop c.span.result c.in-Some.more.now) c.span.ensures.cut c.split_at.result.0.now c.split_at.result.1.now c.split_at.ensures.front c.split_at.ensures.back)
    c.in_default-literal.ensures

pub pieces-preserved : goal.pieces-preserved
pieces-preserved c =
    subst (λ o. IsAlong IsLit literal c.args.text.now o c.split_at.result.1.now) (sym c.in_ok-push.ensures.ok)
    (along-more IsLit literal lit-free c.args.text.now c.pieces.out c.pieces.rest.now c.in-Some.more.now c.split_at.result.0.now c.split_at.result.1.now c.in-Some-literal.lit c.pieces.invariant c.in-Some.ensures
    (cut-at 32 c.in-Some.more.now (take c.span.result c.in-Some.more.now) (drop c.span.result c.in-Some.more.now) c.span.ensures.cut c.split_at.result.0.now c.split_at.result.1.now c.split_at.ensures.front c.split_at.ensures.back)
    c.in-Some-literal.ensures)
