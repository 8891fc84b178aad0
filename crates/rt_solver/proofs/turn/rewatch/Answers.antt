use Rattle.std.proofs.Common.{arith, ◌-◌, Bool, subst}
use Rattle.rt_solver.specs.Turning.{IsLast}
use Rattle.rt_solver.proofs.Turns.{other-read, literal-below, held-unit}
use Rattle.rt_solver.proofs.turn.rewatch.Goals as goal

pub is_true-requires : goal.is_true-requires
is_true-requires c =
    let o = other-read c.args.clause.now c.args.place c.requires.watched.0 c.at-other.result c.requires.place c.requires.watched.1 c.at-other.ensures in
    literal-below c.args.trail.now.vars c.args.clause.now (1 - c.args.place) c.at-other.result (omega arith) o c.requires.below

pub is_broken-requires : goal.is_broken-requires
is_broken-requires c =
    let o = other-read c.args.clause.now c.args.place c.requires.watched.0 c.at-other.result c.requires.place c.requires.watched.1 c.at-other.ensures in
    record { below = literal-below c.args.trail.now.vars c.args.clause.now (1 - c.args.place) c.at-other.result (omega arith) o c.requires.below }

pub returns-then-is_broken-clause-turn : goal.returns-then-is_broken-clause-turn
returns-then-is_broken-clause-turn c =
    let o = other-read c.args.clause.now c.args.place c.requires.watched.0 c.at-other.result c.requires.place c.requires.watched.1 c.at-other.ensures in
    let B : Bool → Type 0 = IsLast c.args.clause.now c.args.trail.now.steps c.is_broken.new.trail.steps c.args.number c.at-other.result in
    subst B c.if-is_broken.true (c.is_broken.ensures.last c.args.clause.now
    (held-unit c.args.trail.now.steps c.args.clause.now c.args.place c.requires.watched.0 c.at-other.result c.requires.place c.requires.watched.1 c.requires.watched.2 o c.in-None.ensures))

pub returns-else-is_broken-clause-turn : goal.returns-else-is_broken-clause-turn
returns-else-is_broken-clause-turn c =
    let o = other-read c.args.clause.now c.args.place c.requires.watched.0 c.at-other.result c.requires.place c.requires.watched.1 c.at-other.ensures in
    let B : Bool → Type 0 = IsLast c.args.clause.now c.args.trail.now.steps c.is_broken.new.trail.steps c.args.number c.at-other.result in
    subst B c.if-is_broken.false (c.is_broken.ensures.last c.args.clause.now
    (held-unit c.args.trail.now.steps c.args.clause.now c.args.place c.requires.watched.0 c.at-other.result c.requires.place c.requires.watched.1 c.requires.watched.2 o c.in-None.ensures))
