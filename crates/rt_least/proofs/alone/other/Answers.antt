use Rattle.std.proofs.Common.{◌∙◌, ℕ, sym, ap, subst, arith}
use Rattle.rt_clause.specs.Literal.{Literal}
use Rattle.rt_least.specs.Aimed.{IsAimed}
use Rattle.rt_least.proofs.Only.{other-begun, other-aimed, other-answer, other-longer}
use Rattle.rt_least.proofs.alone.other.Goals as goal

pub returns-clause-longer : goal.returns-clause-longer
returns-clause-longer c =
    let o = other-begun c.args.dag.now c.args.goal c.args.cone.now c.args.solver.now.0.lines c.gate.new.to.0.lines c.ask.new.solver.0.lines c.args.named.now.next c.next-next.result c.args.best.now c.as_slice.result.now c.in_ok-kept.kept
    c.args.held c.of-all.result c.negated.result c.requires.aimed c.requires.best c.requires.few c.requires.low c.in_ok-kept.ensures c.as_slice.ensures c.next-next.ensures c.of-all.ensures.var c.in_ok-gate.ensures c.negated.ensures c.in_ok-found.ensures.grown in
    other-longer c.args.dag.now c.args.goal c.args.cone.now _ _ _ c.next-next.result c.args.best.now _ c.args.held c.of-all.result c.negated.result o

pub returns-clause-aimed : goal.returns-clause-aimed
returns-clause-aimed c =
    let o = other-begun c.args.dag.now c.args.goal c.args.cone.now c.args.solver.now.0.lines c.gate.new.to.0.lines c.ask.new.solver.0.lines c.args.named.now.next c.next-next.result c.args.best.now c.as_slice.result.now c.in_ok-kept.kept
    c.args.held c.of-all.result c.negated.result c.requires.aimed c.requires.best c.requires.few c.requires.low c.in_ok-kept.ensures c.as_slice.ensures c.next-next.ensures c.of-all.ensures.var c.in_ok-gate.ensures c.negated.ensures c.in_ok-found.ensures.grown in
    let A : ℕ → Type 0 = λ n. IsAimed c.args.dag.now c.args.goal c.args.cone.now c.ask.new.solver.0.lines n in
    subst A (sym c.of.ensures.next) (other-aimed c.args.dag.now c.args.goal c.args.cone.now _ _ _ c.next-next.result c.args.best.now _ c.args.held c.of-all.result c.negated.result o)

pub returns-clause-other : goal.returns-clause-other
returns-clause-other c =
    let o = other-begun c.args.dag.now c.args.goal c.args.cone.now c.args.solver.now.0.lines c.gate.new.to.0.lines c.ask.new.solver.0.lines c.args.named.now.next c.next-next.result c.args.best.now c.as_slice.result.now c.in_ok-kept.kept
    c.args.held c.of-all.result c.negated.result c.requires.aimed c.requires.best c.requires.few c.requires.low c.in_ok-kept.ensures c.as_slice.ensures c.next-next.ensures c.of-all.ensures.var c.in_ok-gate.ensures c.negated.ensures c.in_ok-found.ensures.grown in
    other-answer c.args.dag.now c.args.goal c.args.cone.now _ _ _ c.next-next.result c.rows-rows.result c.args.best.now _ c.args.held c.of-all.result c.negated.result c.in_ok-found.found (c.rows-rows.ensures.is ∙ c.requires.rows) o c.in_ok-found.ensures.answered

pub ask-requires-clause-rows : goal.ask-requires-clause-rows
ask-requires-clause-rows c =
    let w = c.requires.aimed.wide in
    let e = c.rows-rows.ensures.is in
    let r = c.requires.rows in
    let n = c.next-next.ensures in
    omega (arith, w, e, r, n)

pub ask-requires-clause-asked : goal.ask-requires-clause-asked
ask-requires-clause-asked c =
    let v = c.of-all.ensures.var in
    let n = ap (λ (l : Literal). l.var) c.negated.ensures in
    omega (arith, v, n)
