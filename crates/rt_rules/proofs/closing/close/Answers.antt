use Rattle.std.proofs.Common.{◌∙◌, sym, arith}
use Rattle.rt_rules.proofs.SetLemmas.{size-grows, size-long, size-same}
use Rattle.rt_rules.proofs.closing.close.Goals as goal

pub returns-then-size-clause-closed : goal.returns-then-size-clause-closed
returns-then-size-clause-closed c i d b m =
    let k = c.close_once.ensures in
    k.met i d b (size-same c.passes.set c.close_once.new.set k.len k.stay (sym c.size.ensures ∙ c.if-size.true ∙ c.size-size.ensures) _ m)

pub passes-smaller : goal.passes-smaller
passes-smaller c =
    let k = c.close_once.ensures in
    let g = size-grows c.passes.set c.close_once.new.set k.len k.stay in
    let n = size-long c.close_once.new.set in
    let l = k.len in
    let a = c.size.ensures in
    let b = c.size-size.ensures in
    let ne = c.if-size.false in
    omega (arith, g, n, l, a, b, ne)
