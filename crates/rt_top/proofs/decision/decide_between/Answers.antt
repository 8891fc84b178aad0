use Rattle.std.proofs.Common.{refl}
use Rattle.rt_schema.specs.Kept.{kept}
use Rattle.rt_schema.specs.Law.{lawful}
use Rattle.rt_top.specs.GivenUp.{IsVerdict}
use Rattle.rt_top.proofs.DecideLemmas.{enough, verdict_of, whatever_else}
use Rattle.rt_top.proofs.decision.decide_between.Goals as goal

pub returns : goal.returns
returns c =
    let a = c.args in
    whatever_else c.smallest.result
    (λ limit made. IsVerdict (record { schema = a.schema.now; given = a.given.now; left = a.left.now; right = a.right.now; conflicts = a.conflicts; work_limit = limit; made = made }))
    (λ limit made. verdict_of (record { schema = a.schema.now; given = a.given.now; left = a.left.now; right = a.right.now; conflicts = a.conflicts; work_limit = limit; made = made })
    a.schema.now a.given.now a.left.now a.right.now a.conflicts c.in_ok-dag.dag c.goal.new.dag c.in_ok-aim.aim.goal c.total.result c.smallest.result
    refl refl refl refl refl c.in_ok-aim.ensures.grown c.in_ok-dag.ensures c.total.ensures.total c.in_ok-aim.ensures.means c.smallest.ensures)

pub smallest-requires-clause-cone : goal.smallest-requires-clause-cone
smallest-requires-clause-cone c =
    enough c.in_ok-dag.dag c.goal.new.dag c.in_ok-aim.aim.goal c.in_ok-aim.aim.differs c.in_ok-cone.cone (λ keep. lawful c.args.schema.now (kept c.args.given.now.tables keep))
    c.in_ok-aim.ensures.grown c.in_ok-aim.ensures.parts c.in_ok-cone.ensures.lawful c.in_ok-cone.ensures.same
