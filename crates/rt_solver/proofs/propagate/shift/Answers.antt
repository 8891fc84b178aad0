use Rattle.std.proofs.Common.{◌≡◌, ◌-◌, ◌/◌, ◌%◌, ◌∷◌, [], ◌++◌, get_or, length, ap, sym, ◌∙◌, arith}
use Rattle.rt_clause.specs.Lists.{line_at}
use Rattle.rt_store.specs.Watching.{list_at}
use Rattle.rt_solver.proofs.Visiting.{line-read}
use Rattle.rt_solver.proofs.Shifts.{at-entry, to-within, to-other, other-small, shift-at}
use Rattle.rt_solver.proofs.propagate.shift.Goals as goal

pub reserve-requires : goal.reserve-requires
reserve-requires c =
    let now = c.args.clauses.now.items in
    let e = c.at-entry.result in
    let x = at-entry now c.args.watches.now.lists c.args.home c.args.i c.args.ended e c.requires.listed c.requires.within c.at-entry.ensures (c.requires.unwatched e c.at-entry.ensures) in
    let n : c.clause.result ≡ e.watch / 2 = c.clause.ensures ∙ ap (λ v. v / 2) c.watch-2.ensures.is in
    let q : c.index_mut-clause.result.now ≡ line_at now (e.watch / 2) = line-read now c.clause.result c.index_mut-clause.result.now (let b = x.within in omega (arith, b, n)) c.index_mut-clause.ensures.value ∙ ap (line_at now) n in
    to-within now c.args.watches.now.lists c.args.home c.args.ended c.index-to.result e c.index_mut-clause.result.now c.at.result c.requires.listed x q c.at.ensures c.index-to.ensures.is

pub noting-requires : goal.noting-requires
noting-requires c =
    let now = c.args.clauses.now.items in
    let e = c.at-entry.result in
    let x = at-entry now c.args.watches.now.lists c.args.home c.args.i c.args.ended e c.requires.listed c.requires.within c.at-entry.ensures (c.requires.unwatched e c.at-entry.ensures) in
    let n : c.clause.result ≡ e.watch / 2 = c.clause.ensures ∙ ap (λ v. v / 2) c.watch-2.ensures.is in
    let q : c.index_mut-clause.result.now ≡ line_at now (e.watch / 2) = line-read now c.clause.result c.index_mut-clause.result.now (let b = x.within in omega (arith, b, n)) c.index_mut-clause.ensures.value ∙ ap (line_at now) n in
    other-small now c.args.watches.now.lists c.args.home c.args.ended (1 - c.place-place.result) e c.index_mut-clause.result.now c.at-other.result c.requires.listed x (omega arith) q c.at-other.ensures

pub join-requires-clause-list : goal.join-requires-clause-list
join-requires-clause-list c =
    let now = c.args.clauses.now.items in
    let e = c.at-entry.result in
    let x = at-entry now c.args.watches.now.lists c.args.home c.args.i c.args.ended e c.requires.listed c.requires.within c.at-entry.ensures (c.requires.unwatched e c.at-entry.ensures) in
    let n : c.clause.result ≡ e.watch / 2 = c.clause.ensures ∙ ap (λ v. v / 2) c.watch-2.ensures.is in
    let q : c.index_mut-clause.result.now ≡ line_at now (e.watch / 2) = line-read now c.clause.result c.index_mut-clause.result.now (let b = x.within in omega (arith, b, n)) c.index_mut-clause.ensures.value ∙ ap (line_at now) n in
    let b = to-within now c.args.watches.now.lists c.args.home c.args.ended c.index-to.result e c.index_mut-clause.result.now c.at.result c.requires.listed x q c.at.ensures c.index-to.ensures.is in
    let s = ap length c.in_ok-reserve.ensures.lists in let t = c.leave.ensures.edited.len in omega (arith, b, s, t)

pub join-requires-clause-room : goal.join-requires-clause-room
join-requires-clause-room c =
    let now = c.args.clauses.now.items in
    let e = c.at-entry.result in
    let x = at-entry now c.args.watches.now.lists c.args.home c.args.i c.args.ended e c.requires.listed c.requires.within c.at-entry.ensures (c.requires.unwatched e c.at-entry.ensures) in
    let n : c.clause.result ≡ e.watch / 2 = c.clause.ensures ∙ ap (λ v. v / 2) c.watch-2.ensures.is in
    let q : c.index_mut-clause.result.now ≡ line_at now (e.watch / 2) = line-read now c.clause.result c.index_mut-clause.result.now (let b = x.within in omega (arith, b, n)) c.index_mut-clause.ensures.value ∙ ap (line_at now) n in
    let d = to-other now c.args.home c.args.ended c.index-to.result e c.index_mut-clause.result.now c.at.result x q c.at.ensures c.index-to.ensures.is in
    let s = c.in_ok-reserve.ensures.ok in let t = c.leave.ensures.edited.rooms c.index-to.result d in omega (arith, s, t)

pub returns-clause-ok : goal.returns-clause-ok
returns-clause-ok c =
    let now = c.args.clauses.now.items in
    let e = c.at-entry.result in
    let x = at-entry now c.args.watches.now.lists c.args.home c.args.i c.args.ended e c.requires.listed c.requires.within c.at-entry.ensures (c.requires.unwatched e c.at-entry.ensures) in
    let n : c.clause.result ≡ e.watch / 2 = c.clause.ensures ∙ ap (λ v. v / 2) c.watch-2.ensures.is in
    let q : c.index_mut-clause.result.now ≡ line_at now (e.watch / 2) = line-read now c.clause.result c.index_mut-clause.result.now (let b = x.within in omega (arith, b, n)) c.index_mut-clause.ensures.value ∙ ap (line_at now) n in
    let same = c.in_ok-reserve.ensures.lists in
    shift-at now c.args.watches.now c.reserve.new.self c.leave.new.self c.join.new.self c.args.home c.args.i c.args.ended c.clause.result c.place-place.result c.index-to.result e c.index_mut-clause.result.now c.exchange.new.self c.at.result c.at-other.result
    c.requires.listed c.requires.within c.at-entry.ensures x same (c.leave.ensures.list e (c.at-entry.ensures ∙ ap (λ ls. get_or (list_at ls c.args.home) c.args.i e) (sym same))) c.leave.ensures.edited
    (c.join.ensures.list ∙ ap (λ f. list_at c.leave.new.self.lists c.index-to.result ++ f ∷ []) c.noting.ensures) c.join.ensures.edited
    c.index-to.ensures.is n (c.place-place.ensures ∙ ap (λ v. v % 2) c.watch.ensures.is) q c.at.ensures c.at-other.ensures c.exchange.ensures
