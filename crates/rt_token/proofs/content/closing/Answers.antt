use Rattle.std.proofs.Common.{◌≡◌, ◌+◌, ◌-◌, ◌∙◌, ◌<◌, arith, length, length-drop, sym}
use Rattle.std.proofs.lemmas.Str.{encode_ascii}
use Rattle.rt_token.proofs.ContentLemmas.{content-double, content-end, content-open, double-boundary, run-boundary}
use Rattle.rt_token.proofs.content.closing.Goals as goal

pub returns-then-end-bytes-clause-value : goal.returns-then-end-bytes-clause-value
returns-then-end-bytes-clause-value c =
    let n = rw (c.rest.ensures, c.as_bytes-bytes.ensures.value) at c.plain_len.ensures.value in
    content-open _ _ _ _ _ _ n c.runs.invariant.so_far c.runs.invariant.order c.runs.invariant.within (rw c.as_bytes-bytes.ensures.value at c.if-end-bytes.true)

pub range-requires-clause-end_boundary : goal.range-requires-clause-end_boundary
range-requires-clause-end_boundary c =
    let n = rw (c.rest.ensures, c.as_bytes-bytes.ensures.value) at c.plain_len.ensures.value in
    let w = rw (c.rest.ensures, c.as_bytes-bytes.ensures.value) at c.plain_len.ensures.within in
    run-boundary _ _ _ _ _ _ n c.runs.invariant.so_far c.runs.invariant.order c.runs.invariant.within c.requires.ascii.1 (omega (arith, length-drop c.runs.start c.args.text.now, w, c.runs.invariant.within))

pub returns-then-byte_at-quote-clause-value : goal.returns-then-byte_at-quote-clause-value
returns-then-byte_at-quote-clause-value c =
    let n = rw (c.rest.ensures, c.as_bytes-bytes.ensures.value) at c.plain_len.ensures.value in
    let m : c.runs.start + c.plain_len.result - c.runs.start ≡ c.plain_len.result = omega arith in
    let r = rw m at c.range.ensures.value in
    let w = rw c.as_bytes-bytes.ensures.value at c.byte_at.ensures in
    let s = rw r at c.in_ok-push_str.ensures.bytes in
    let v = rw (c.rest.ensures, c.as_bytes-bytes.ensures.value) at c.plain_len.ensures.within in
    let l : c.runs.start + c.plain_len.result < length c.args.text.now = omega (arith, length-drop c.runs.start c.args.text.now, v, c.runs.invariant.within, c.if-end-bytes.false, c.as_bytes-bytes.ensures.len) in
    let e = content-end _ _ _ _ _ _ n c.runs.invariant.so_far c.runs.invariant.order c.runs.invariant.within l (λ h. c.if-byte_at-quote.true (w ∙ h)) in
    rw (c.in_ok-content.ensures, s) e

pub runs-preserved : goal.runs-preserved
runs-preserved c =
    let n = rw (c.rest.ensures, c.as_bytes-bytes.ensures.value) at c.plain_len.ensures.value in
    let m : c.runs.start + c.plain_len.result - c.runs.start ≡ c.plain_len.result = omega arith in
    let r = rw m at c.range.ensures.value in
    let w = sym (rw (c.as_bytes-bytes.ensures.value, c.if-byte_at-quote.false) at c.byte_at.ensures) in
    let s = rw r at c.in_ok-push_str.ensures.bytes in
    let b = double-boundary _ _ _ _ _ _ n c.runs.invariant.so_far c.runs.invariant.order c.runs.invariant.within c.utf8.text c.requires.ascii.0 c.requires.ascii.1 w in
    let e = content-double _ _ _ _ _ _ n c.runs.invariant.so_far c.runs.invariant.order c.runs.invariant.within c.requires.ascii.0 w in
    record {
      so_far = rw (c.in_ok-push.ensures.bytes, c.from.ensures, encode_ascii c.args.quote c.requires.ascii.1, s) e;
      order = omega (arith, c.runs.invariant.order);
      within = b.0;
      boundary = b;
    }
