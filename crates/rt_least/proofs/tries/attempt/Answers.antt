use Rattle.std.proofs.Common.{None, arith}
use Rattle.rt_least.proofs.Attempts.{grown-on, grown-trans, told-second}
use Rattle.rt_least.proofs.tries.attempt.Goals as goal

pub returns-then-not-is_small-clause-grown : goal.returns-then-not-is_small-clause-grown
returns-then-not-is_small-clause-grown c = grown-on _ _ _ _ c.args.assume.now None c.args.next c.args.next (omega arith) tt c.in_ok-found.ensures.searched

pub returns-in-Model-clause-grown : goal.returns-in-Model-clause-grown
returns-in-Model-clause-grown c = grown-on _ _ _ _ c.args.assume.now None c.args.next c.args.next (omega arith) tt c.in_ok-model.ensures.searched

pub returns-in-Refuted-clause-grown : goal.returns-in-Refuted-clause-grown
returns-in-Refuted-clause-grown c = grown-on _ _ _ _ c.args.assume.now None c.args.next c.args.next (omega arith) tt c.in_ok-model.ensures.searched

pub returns-clause-grown : goal.returns-clause-grown
returns-clause-grown c =
    grown-trans _ _ _ c.args.assume.now c.args.next
    (grown-on _ _ _ _ c.args.assume.now None c.args.next c.args.next (omega arith) tt c.in_ok-model.ensures.searched)
    (grown-on _ _ _ _ c.args.assume.now None c.args.next c.args.rows c.requires.rows tt c.in_ok-found-in-Spent.ensures.searched)

pub returns-clause-told : goal.returns-clause-told
returns-clause-told c =
    told-second _ _ _ _ _ c.args.assume.now c.args.next c.args.rows c.args.budget c.in_ok-found-in-Spent.found c.requires.rows
    (grown-on _ _ _ _ c.args.assume.now None c.args.next c.args.next (omega arith) tt c.in_ok-model.ensures.searched)
    c.in_ok-found-in-Spent.ensures.searched c.in_ok-found-in-Spent.ensures.found
