use Rattle.std.proofs.Common.{refl}
use Rattle.rt_schema.specs.Given.{places}
use Rattle.rt_schema.specs.Kept.{kept}
use Rattle.rt_schema.specs.Law.{lawful}
use Rattle.rt_annot.proofs.Referring.{goal_means, goal_parts}
use Rattle.rt_top.specs.GivenUp.{IsVerdict}
use Rattle.rt_top.proofs.DecideLemmas.{enough, verdict_of, whatever_else}
use Rattle.rt_grade.proofs.beside.search_beside.Goals as goal

pub returns-clause-verdict : goal.returns-clause-verdict
returns-clause-verdict c =
    let a = c.args in
    let f = c.args.first.now in
    whatever_else c.smallest.result
    (λ limit made. IsVerdict (record { schema = f.schema; given = f.given; left = f.left; right = a.right.now; conflicts = a.conflicts; work_limit = limit; made = made }))
    (λ limit made. verdict_of (record { schema = f.schema; given = f.given; left = f.left; right = a.right.now; conflicts = a.conflicts; work_limit = limit; made = made })
    f.schema f.given f.left a.right.now a.conflicts a.dag.now c.goal_beside.new.dag c.in_ok-aim.aim.goal (places f.given.tables) c.smallest.result
    refl refl refl refl refl c.in_ok-aim.ensures.grown c.requires.rows refl
    (λ keep l. goal_means f.schema f.given f.left a.dag.now a.reference.now c.requires.reference keep l _ _ _ (c.in_ok-aim.ensures.parts keep) (c.in_ok-aim.ensures.means keep))
    c.smallest.ensures)

pub smallest-requires-clause-cone : goal.smallest-requires-clause-cone
smallest-requires-clause-cone c =
    let f = c.args.first.now in
    enough c.args.dag.now c.goal_beside.new.dag c.in_ok-aim.aim.goal c.in_ok-aim.aim.differs c.in_ok-cone.cone (λ keep. lawful f.schema (kept f.given.tables keep))
    c.in_ok-aim.ensures.grown
    (λ keep l. goal_parts f.schema f.given f.left c.args.dag.now c.args.reference.now c.requires.reference keep l _ _ (c.in_ok-aim.ensures.parts keep))
    c.in_ok-cone.ensures.lawful c.in_ok-cone.ensures.same
