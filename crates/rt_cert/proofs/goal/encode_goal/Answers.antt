use Rattle.std.proofs.Common.{◌≡◌, ◌∙◌, ◌<◌, ℕ, true, List, None, Some, ap, sym, subst, arith}
use Rattle.rt_clause.specs.Literal.{Literal, negated}
use Rattle.rt_formula.specs.Shared.{val}
use Rattle.rt_totalizer.specs.Outputs.{CountsRows, output_at}
use Rattle.rt_cert.specs.Encodes.{Encodes}
use Rattle.rt_cert.proofs.EncodedLemmas.{at-any, output_by, counter-encodes, formula-encodes}
use Rattle.rt_cert.proofs.goal.encode_goal.Goals as goal

pub returns-then-most-eq0 : goal.returns-then-most-eq0
returns-then-most-eq0 g c =
    let named = c.in_ok-named.ensures in
    let dag = c.args.dag.now in
    let lines = g.A.Adds.lines c.clausify.new.to in
    subst (λ (most : ℕ). Encodes dag.rows (λ keep. val dag keep c.args.goal ≡ true) most lines None) (sym c.if-most-eq0.true)
    (formula-encodes dag.rows c.in_ok-named.named.next (λ keep. val dag keep c.args.goal) lines named.below named.complete named.sound named.determined)

pub returns : goal.returns
returns g c =
    let named = c.in_ok-named.ensures in
    let counter = c.in_ok-counter.ensures in
    let dag = c.args.dag.now in
    let most = c.args.most in
    let outs = c.in_ok-counter.counter.outs in
    let old = g.A.Adds.lines c.clausify.new.to in
    let new = g.A.Adds.lines c.count.new.to in
    let some : 0 < most = omega (arith, c.if-most-eq0.false) in
    let is : c.negated.result ≡ negated (output_at outs most) =
    c.negated.ensures ∙ ap negated (c.index-as_slice-most.is ∙ ap (λ (ls : List Literal). output_by ls most c.index-as_slice-most.result) c.as_slice.ensures
    ∙ at-any outs most c.index-as_slice-most.result (omega (arith, counter.len, some))) in
    subst (λ (l : Literal). Encodes dag.rows (λ keep. val dag keep c.args.goal ≡ true) most new (Some l)) (sym is)
    (counter-encodes dag.rows c.in_ok-named.named.next c.count.new.named.next most (λ keep. val dag keep c.args.goal) old new outs
    named.wide named.below named.complete named.sound named.determined counter.extends
    (subst (λ (n : ℕ). CountsRows n new outs) named.rows counter.counts) counter.low counter.len some)
