use Rattle.std.proofs.Common.{◌≡◌, ◌≤◌, sym, subst, arith, rules, List, length, ℕ, true, nat_eq, ◌∷◌, [], ◌++◌, ◌∙◌}
use Rattle.rt_clause.specs.Literal.{Literal}
use Rattle.rt_store.specs.Watching.{Listed}
use Rattle.rt_solver.specs.Propagating.{AreListed, AreShort}
use Rattle.rt_store.proofs.Looks.{has-at}
use Rattle.rt_solver.proofs.Shorts.{short-push}
use Rattle.rt_solver.proofs.Putting.{IsNew, new-first, new-second, put-two, put-short}
use Rattle.rt_solver.proofs.base.put.Goals as goal

pub returns-then-len-lt2-clause-short : goal.returns-then-len-lt2-clause-short
returns-then-len-lt2-clause-short c =
    let P : List (List Literal) → Type 0 = λ ls. AreShort ls c.push_reserved.new.self.items in
    let Q : List ℕ → Type 0 = λ ns. AreShort (c.args.clauses.now.items ++ c.args.clause ∷ []) ns in
    subst P (sym c.push_reserved-then-len-lt2.ensures.items) (subst Q (sym c.push_reserved.ensures.items)
    (short-push c.args.clauses.now.items c.args.short.now.items c.args.clause c.len-number.result (let e = c.len-number.ensures in let o = c.args.clauses.now.ok in omega (arith, e, o)) c.requires.short))

pub returns-then-len-lt2-clause-listed : goal.returns-then-len-lt2-clause-listed
returns-then-len-lt2-clause-listed c =
    let P : List (List Literal) → Type 0 = λ ls. AreListed ls c.args.watches.now.lists in
    subst P (sym c.push_reserved-then-len-lt2.ensures.items) (put-short c.args.clauses.now.items c.args.clause c.args.watches.now.lists c.requires.listed c.requires.wide (let n = c.if-len-lt2.true in omega (arith, n, c.len.ensures)))

pub new-requires-clause-other : goal.new-requires-clause-other
new-requires-clause-other c =
    let n = c.if-len-lt2.false in
    let w = c.requires.wide c.at-second.result (has-at c.args.clause 1 c.at-second.result (omega (arith, n, c.len.ensures)) c.at-second.ensures) in
    let f = c.requires.listed.few in omega (arith, w, f)

pub new-requires-2-clause-other : goal.new-requires-2-clause-other
new-requires-2-clause-other c =
    let n = c.if-len-lt2.false in
    let w = c.requires.wide c.at-first.result (has-at c.args.clause 0 c.at-first.result (omega (arith, n, c.len.ensures)) c.at-first.ensures) in
    let f = c.requires.listed.few in omega (arith, w, f)

pub returns-clause-listed : goal.returns-clause-listed
returns-clause-listed c =
    let old = c.args.clauses.now.items in
    let P : List (List Literal) → Type 0 = λ ls. AreListed ls c.join-2.new.self.lists in
    let E : Listed → Type 0 = λ e. IsNew old c.args.clause e 0 c.at-first.result c.at-second.result in
    let F : Listed → Type 0 = λ e. IsNew old c.args.clause e 1 c.at-second.result c.at-first.result in
    let n : c.len-number.result ≡ length old = (let e = c.len-number.ensures in let o = c.args.clauses.now.ok in omega (arith, e, o)) in
    let long : 2 ≤ length c.args.clause = (let l = c.if-len-lt2.false in omega (arith, l, c.len.ensures)) in
    let two = λ (t : nat_eq c.len-two.result 2 ≡ true). (let l : c.len-two.result ≡ 2 = search rules in sym c.len-two.ensures ∙ l) in
    subst P (sym c.push_reserved-2.ensures.items)
    (put-two old c.args.clause c.args.watches.now c.join.new.self c.join-2.new.self c.new.result c.new-2.result c.index.result c.index-2.result c.at-first.result c.at-second.result c.requires.listed
    (subst E (sym c.new.ensures) (new-first old c.args.clause c.len-number.result c.first.result (nat_eq c.len-two.result 2) c.at-first.result c.at-second.result n c.first.ensures long c.at-first.ensures c.at-second.ensures two))
    (subst F (sym c.new-2.ensures) (new-second old c.args.clause c.len-number.result c.second.result (nat_eq c.len-two.result 2) c.at-first.result c.at-second.result n c.second.ensures long c.at-first.ensures c.at-second.ensures two))
    c.requires.spread c.requires.wide c.index.ensures.is c.index-2.ensures.is c.join.ensures.list c.join.ensures.edited c.join-2.ensures.list c.join-2.ensures.edited)
