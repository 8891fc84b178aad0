use Rattle.std.proofs.Common.{◌≡◌, true, length, arith}
use Rattle.rt_resolve.specs.Shapes.{same_kinds}
use Rattle.rt_resolve.proofs.Shaped.{kinds-same, kinds-self}
use Rattle.rt_resolve.proofs.shape.shapes.Goals as goal

pub returns-then-same_kinds : goal.returns-then-same_kinds
returns-then-same_kinds c =
    let same : same_kinds c.args.a.now.kinds c.args.b.now.kinds ≡ true = cc in
    kinds-same c.args.a.now.kinds c.args.b.now.kinds same

pub returns-else-same_kinds : goal.returns-else-same_kinds
returns-else-same_kinds c =
    let wide : length c.args.a.now.kinds ≡ length c.args.b.now.kinds = grind arith in
    (wide, λ e. let same : same_kinds c.args.a.now.kinds c.args.b.now.kinds ≡ true = rw (← e) (kinds-self c.args.a.now.kinds) in absurd (cc))
