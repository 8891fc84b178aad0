use Rattle.std.proofs.Common.{◌≡◌, ◌+◌, ◌-◌, ◌/◌, ◌∷◌, replicate, true, ℕ, sym, ◌∙◌, arith, rules}
use Rattle.rt_clause.specs.Literal.{negated}
use Rattle.rt_totalizer.specs.Cells.{first_cells}
use Rattle.rt_totalizer.specs.Sums.{IsCounted, IsSum}
use Rattle.rt_totalizer.specs.declared.cells.Cells.{Cells}
use Rattle.rt_totalizer.proofs.Growing.{never-over, ready-over, counted-row, counted-out, counted-sum}
use Rattle.rt_totalizer.proofs.Outcomes.{if-ok, if-ok-both}
use Rattle.rt_totalizer.proofs.blocks.+block.Goals as goal

pub returns-then-is-clause-counted : goal.returns-then-is-clause-counted
returns-then-is-clause-counted g t c =
    let a = c.args in
    let n = a.high - a.low in
    let lines = g.A.Adds.lines a.to.now in
    let row : c.of.result ≡ record { var = a.low; on = true } = (let x = c.of.ensures.var in let o = c.of.ensures.on in λ i. record { var = x i; on = o i }) in
    let P : Cells → Type 0 = λ cells. cells.list ≡ negated a.never ∷ c.of.result ∷ replicate (a.upto - 1) a.never in
    let Q : Cells → Type 0 = λ cells. cells.most ≡ 1 in
    let R : Cells → Type 0 = λ cells. IsCounted a.among.now a.never a.low n cells.most cells.list a.next.now lines a.next.now lines in
    if-ok-both P Q R c.one.result
    (λ cells e m. counted-row a.among.now a.never a.low n (a.upto - 1) cells.most c.of.result cells.list a.next.now lines c.requires.ready
    (let s = c.requires.some in let w = c.requires.within in omega (arith, s, w)) c.if-high-low-eq1.true (sym c.is.ensures ∙ c.if-is.true) row e m)
    c.one.ensures.list c.one.ensures.most

pub returns-else-is-clause-counted : goal.returns-else-is-clause-counted
returns-else-is-clause-counted g t c =
    let a = c.args in
    let n = a.high - a.low in
    let lines = g.A.Adds.lines a.to.now in
    let P : Cells → Type 0 = λ cells. cells.list ≡ first_cells (negated a.never) a.upto in
    let Q : Cells → Type 0 = λ cells. cells.most ≡ 0 in
    let R : Cells → Type 0 = λ cells. IsCounted a.among.now a.never a.low n cells.most cells.list a.next.now lines a.next.now lines in
    if-ok-both P Q R c.none.result
    (λ cells e m. counted-out a.among.now a.never a.low n a.upto cells.most cells.list a.next.now lines c.requires.ready
    (let s = c.requires.some in let w = c.requires.within in omega (arith, s, w)) c.if-high-low-eq1.true (sym c.is.ensures ∙ c.if-is.false) e m)
    c.none.ensures.list c.none.ensures.most

pub block-requires-2 : goal.block-requires-2
block-requires-2 g t c κs within =
    let a = c.args in
    let s = c.requires.some in
    let ready = ready-over a.among.now a.never a.next.now c.block.new.next (g.A.Adds.lines a.to.now) (g.A.Adds.lines c.block.new.to) c.in_ok-left.ensures.counted.over c.requires.ready in
    (search rules, (search rules, (c.requires.upto, (omega (arith, s), (c.requires.within, (c.in_ok-left.ensures.few, ready))))))

pub merge-requires-clause-never : goal.merge-requires-clause-never
merge-requires-clause-never g t c =
    let a = c.args in
    never-over a.never (g.A.Adds.lines c.block.new.to) c.block.new.next (g.A.Adds.lines c.block-2.new.to) c.block-2.new.next c.in_ok-right.ensures.counted.over
    (never-over a.never (g.A.Adds.lines a.to.now) a.next.now (g.A.Adds.lines c.block.new.to) c.block.new.next c.in_ok-left.ensures.counted.over c.requires.ready.never_true)

pub returns-clause-counted : goal.returns-clause-counted
returns-clause-counted g t c =
    let a = c.args in
    let lines = g.A.Adds.lines a.to.now in
    let middle : ℕ = a.low + (a.high - a.low) / 2 in
    let left = c.in_ok-left.left in
    let right = c.in_ok-right.right in
    let P : Cells → Type 0 = λ cells. IsSum a.never left.list left.most right.list right.most c.block-2.new.next (g.A.Adds.lines c.block-2.new.to) cells.list cells.most c.merge.new.next (g.A.Adds.lines c.merge.new.to) in
    let Q : Cells → Type 0 = λ cells. IsCounted a.among.now a.never a.low (a.high - a.low) cells.most cells.list a.next.now lines c.merge.new.next (g.A.Adds.lines c.merge.new.to) in
    if-ok P Q c.merge.result
    (λ cells sum. counted-sum a.among.now a.never a.low (middle - a.low) middle (a.high - middle) (a.high - a.low) left.list left.most right.list right.most cells.list cells.most
    a.next.now lines c.block.new.next (g.A.Adds.lines c.block.new.to) c.block-2.new.next (g.A.Adds.lines c.block-2.new.to) c.merge.new.next (g.A.Adds.lines c.merge.new.to)
    c.requires.ready.rows (omega arith) (let s = c.requires.some in omega (arith, s)) c.in_ok-left.ensures.counted c.in_ok-right.ensures.counted sum)
    c.merge.ensures.sum
