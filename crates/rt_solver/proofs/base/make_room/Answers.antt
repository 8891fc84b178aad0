use Rattle.std.proofs.Common.{length, ap, refl, ◌∙◌, arith}
use Rattle.rt_store.proofs.Looks.{has-at}
use Rattle.rt_solver.proofs.Basing.{has-lists, grown-listed}
use Rattle.rt_solver.proofs.base.make_room.Goals as goal

pub reserve-requires-3 : goal.reserve-requires-3
reserve-requires-3 c =
    let n = c.if-len-lt2.false in
    let w = has-lists c.args.vars c.args.clause.now c.grow.new.self.lists c.requires.below c.in_ok-grow.ensures.ok c.at.result (has-at c.args.clause.now 0 c.at.result (omega (arith, n, c.len-2.ensures)) c.at.ensures) in
    let e = c.index.ensures.is in omega (arith, w, e)

pub reserve-requires-4 : goal.reserve-requires-4
reserve-requires-4 c =
    let n = c.if-len-lt2.false in
    let w = has-lists c.args.vars c.args.clause.now c.grow.new.self.lists c.requires.below c.in_ok-grow.ensures.ok c.at-2.result (has-at c.args.clause.now 1 c.at-2.result (omega (arith, n, c.len-2.ensures)) c.at-2.ensures) in
    let e = c.index-2.ensures.is in
    let s = ap length c.in_ok-reserve-3.ensures.lists in omega (arith, w, e, s)

pub returns-in_err-grow-clause-listed : goal.returns-in_err-grow-clause-listed
returns-in_err-grow-clause-listed c = grown-listed c.args.clauses.now.items c.reserve.new.self.items c.args.watches.now.lists c.grow.new.self.lists _ c.requires.listed c.in_ok-reserve.ensures.items c.in_err-grow.ensures.kept c.in_err-grow.ensures.longer c.in_err-grow.ensures.few refl

pub returns-in_err-reserve-3-clause-listed : goal.returns-in_err-reserve-3-clause-listed
returns-in_err-reserve-3-clause-listed c = grown-listed c.args.clauses.now.items c.reserve.new.self.items c.args.watches.now.lists c.grow.new.self.lists _ c.requires.listed c.in_ok-reserve.ensures.items c.in_ok-grow.ensures.kept c.in_ok-grow.ensures.longer c.in_ok-grow.ensures.few c.in_err-reserve-3.ensures.lists

pub returns-then-len-lt2-clause-listed : goal.returns-then-len-lt2-clause-listed
returns-then-len-lt2-clause-listed c = grown-listed c.args.clauses.now.items c.reserve.new.self.items c.args.watches.now.lists c.grow.new.self.lists _ c.requires.listed c.in_ok-reserve.ensures.items c.in_ok-grow.ensures.kept c.in_ok-grow.ensures.longer c.in_ok-grow.ensures.few refl

pub returns-clause-listed : goal.returns-clause-listed
returns-clause-listed c = grown-listed c.args.clauses.now.items c.reserve.new.self.items c.args.watches.now.lists c.grow.new.self.lists _ c.requires.listed c.in_ok-reserve.ensures.items c.in_ok-grow.ensures.kept c.in_ok-grow.ensures.longer c.in_ok-grow.ensures.few (c.reserve-4.ensures.lists ∙ c.in_ok-reserve-3.ensures.lists)
