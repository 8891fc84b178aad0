use Rattle.std.proofs.Common.{◌∙◌, ap, arith, sym, subst, List, ◌∷◌, [], ◌++◌}
use Rattle.std.proofs.lemmas.Grind.{common_steps}
use Rattle.rt_clause.specs.Literal.{Literal}
use Rattle.rt_solver.specs.Based.{IsBased}
use Rattle.rt_solver.proofs.Basing.{copy-below, based-push, based-room}
use Rattle.rt_solver.proofs.base.Base.add.Goals as goal

pub make_room-requires-clause-below : goal.make_room-requires-clause-below
make_room-requires-clause-below g c = copy-below c.self.inside.vars c.reach-vars.result c.args.lits.now c.in_ok-clause.clause c.in_ok-clause.ensures.same c.reach-vars.ensures.is

pub invariant_of-self-2 : goal.invariant_of-self-2
invariant_of-self-2 g c =
    based-push (g.L.Adds.lines c.self.inside.lines) (g.L.Adds.lines c.add.new.self) c.self.inside.clauses.items c.put.new.clauses.items c.self.inside.watches.lists c.put.new.watches.lists c.self.inside.vars c.reach-vars.result c.self.inside.short.items c.put.new.short.items c.args.lits.now c.in_ok-clause.clause
    c.self.invariant c.in_ok-add.ensures.lines (c.put.ensures.items ∙ ap (λ xs. xs ++ c.in_ok-clause.clause ∷ []) c.in_ok-make_room.ensures.items) c.in_ok-clause.ensures.same c.put.ensures.listed c.put.ensures.short c.reach-vars.ensures.is (c.reach-vars.ensures.few c.self.invariant.few)

pub invariant_of-self : goal.invariant_of-self
invariant_of-self g c =
    based-room (g.L.Adds.lines c.self.inside.lines) c.self.inside.clauses.items c.make_room.new.clauses.items c.self.inside.watches.lists c.make_room.new.watches.lists c.self.inside.vars c.self.inside.short.items c.make_room.new.short.items c.self.invariant
    c.in_err-make_room.ensures.items c.in_err-make_room.ensures.short c.in_err-make_room.ensures.listed

pub invariant_of-self-in_err-add : goal.invariant_of-self-in_err-add
invariant_of-self-in_err-add g c =
    let B : List (List Literal) → Type 0 = λ ls. IsBased ls c.make_room.new.clauses.items c.make_room.new.watches.lists c.self.inside.vars c.make_room.new.short.items in
    subst B (sym c.in_err-add.ensures.err_lines)
    (based-room (g.L.Adds.lines c.self.inside.lines) c.self.inside.clauses.items c.make_room.new.clauses.items c.self.inside.watches.lists c.make_room.new.watches.lists c.self.inside.vars c.self.inside.short.items c.make_room.new.short.items c.self.invariant
    c.in_ok-make_room.ensures.items c.in_ok-make_room.ensures.short c.in_ok-make_room.ensures.listed)

pub put-requires-clause-few : goal.put-requires-clause-few
put-requires-clause-few g c = grind (arith, common_steps)

pub put-requires-clause-short : goal.put-requires-clause-short
put-requires-clause-short g c = grind (arith, common_steps)
