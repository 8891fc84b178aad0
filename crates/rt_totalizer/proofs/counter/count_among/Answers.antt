use Rattle.std.proofs.Common.{◌≡◌, ◌<◌, ◌≤◌, ◌+◌, ◌++◌, [], ◌∙◌, ℕ, true, List, sym, ap, subst, length, arith}
use Rattle.rt_clause.specs.Literal.{Literal}
use Rattle.rt_clause.specs.Lists.{has}
use Rattle.rt_clause.specs.Gates.{gate, Extends}
use Rattle.rt_clause.proofs.Literals.{has-tail}
use Rattle.rt_clause.proofs.Extending.{extends-none, extends-on}
use Rattle.rt_totalizer.specs.Outputs.{CountsRows}
use Rattle.rt_totalizer.specs.Sums.{IsReady}
use Rattle.rt_totalizer.proofs.Growing.{extends-never, ready-first}
use Rattle.rt_totalizer.proofs.Totals.{outputs-count}
use Rattle.rt_totalizer.proofs.counter.count_among.Goals as goal

pub returns-then-upto-eq0-clause-extends : goal.returns-then-upto-eq0-clause-extends
returns-then-upto-eq0-clause-extends g c = extends-none (g.A.Adds.lines c.args.to.now) c.args.named.now.next

pub all_rows-requires-clause-ready : goal.all_rows-requires-clause-ready
all_rows-requires-clause-ready g c =
    let lines = g.A.Adds.lines c.args.to.now in
    let start = c.next-start.result in
    let never = c.of-never.result in
    let long = c.requires.long in
    let P : List (List Literal) → Type 0 = IsReady c.args.among.now never (start + 1) in
    let rows : length c.args.among.now ≤ start = (let r = c.rows-rows.ensures.is in let w = c.rows-rows.ensures.within in let s = c.next-start.ensures in omega (arith, long, r, w, s)) in
    subst P (sym (c.in_ok-gate.ensures ∙ ap (λ (l : Literal). lines ++ gate l []) c.negated.ensures))
    (ready-first c.args.among.now never start lines c.of-never.ensures.var rows (λ row b. c.requires.out row (omega (arith, b, long))))

pub returns-clause-low : goal.returns-clause-low
returns-clause-low g c l h =
    let P : List Literal → Type 0 = λ ls. has ls l ≡ true in
    let N : ℕ → Type 0 = λ n. l.var < n in
    subst N (sym c.of.ensures.next) (c.in_ok-total.ensures.counted.range.below l (subst P (sym c.in_ok-outs.ensures.1) (has-tail c.in_ok-outs.ensures.0 l c.in_ok-outs.outs h)))

pub returns-clause-extends : goal.returns-clause-extends
returns-clause-extends g c =
    let lines = g.A.Adds.lines c.args.to.now in
    let start = c.next-start.result in
    let never = c.of-never.result in
    let new = g.A.Adds.lines c.all_rows.new.to in
    let P : List (List Literal) → Type 0 = λ ls. Extends lines start ls (start + 1) in
    let first : Extends lines start (g.A.Adds.lines c.gate.new.to) (start + 1) =
    subst P (sym (c.in_ok-gate.ensures ∙ ap (λ (l : Literal). lines ++ gate l []) c.negated.ensures)) (extends-never never lines start c.of-never.ensures.var) in
    let Q : ℕ → Type 0 = λ n. Extends lines n new c.all_rows.new.next in
    let R : ℕ → Type 0 = λ n. Extends lines c.args.named.now.next new n in
    subst R (sym c.of.ensures.next) (subst Q c.next-start.ensures
    (extends-on lines (g.A.Adds.lines c.gate.new.to) new start (start + 1) c.all_rows.new.next first c.in_ok-total.ensures.counted.over))

pub returns-clause-counts : goal.returns-clause-counts
returns-clause-counts g c =
    let among = c.args.among.now in
    let total = c.in_ok-total.total in
    let lines = g.A.Adds.lines c.all_rows.new.to in
    let P : ℕ → Type 0 = λ n. CountsRows n lines c.in_ok-outs.outs in
    subst P c.requires.long
    (outputs-count among (length among) c.of-never.result total.most total.list c.all_rows.new.next lines c.in_ok-outs.ensures.0 c.in_ok-outs.outs c.in_ok-total.ensures.counted.range c.in_ok-outs.ensures.1)
