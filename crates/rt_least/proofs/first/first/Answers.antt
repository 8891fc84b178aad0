use Rattle.std.proofs.Common.{◌+◌, arith}
use Rattle.rt_least.proofs.Aiming.{fewer-low}
use Rattle.rt_least.proofs.Keeps.{size-most}
use Rattle.rt_least.proofs.Leading.{all-few, leading-all}
use Rattle.rt_least.proofs.first.first.Goals as goal

pub returns-then-most-rows : goal.returns-then-most-rows
returns-then-most-rows c =
    let t = c.if-most-rows.true in
    let e = c.rows.ensures.is in
    let r = c.requires.rows in
    let m = c.size-most.ensures in
    leading-all c.args.dag.now c.args.goal c.args.cone.now c.args.best c.requires.way.sought c.requires.fewest (omega (arith, t, e, r, m)) (size-most c.args.best)

pub by_rows-requires-clause-leading : goal.by_rows-requires-clause-leading
by_rows-requires-clause-leading c =
    let t = c.if-most-rows.false in
    let e = c.rows.ensures.is in
    let r = c.requires.rows in
    let m = c.size-most.ensures in
    let room = c.requires.way.room (omega (arith, t, e, r, m)) in
    all-few c.args.dag.now c.args.goal c.args.cone.now c.args.solver.now.0.lines c.args.named.next c.args.counter.now.outs c.args.best (c.size-most.result + 1) c.fewer-held.result c.requires.way.sought c.requires.fewest c.requires.way.counted
    (omega (arith, m)) (omega (arith, room, m)) c.fewer-held.ensures

pub by_rows-requires-clause-low : goal.by_rows-requires-clause-low
by_rows-requires-clause-low c =
    let t = c.if-most-rows.false in
    let e = c.rows.ensures.is in
    let r = c.requires.rows in
    let m = c.size-most.ensures in
    let room = c.requires.way.room (omega (arith, t, e, r, m)) in
    fewer-low c.args.dag.now c.args.solver.now.0.lines c.args.named.next c.args.counter.now.outs (c.size-most.result + 1) c.fewer-held.result c.requires.way.counted c.fewer-held.ensures (omega arith) (omega (arith, room, m))
