use Rattle.std.proofs.Common.{◌<◌, ◌∙◌, length, map, ap, sym, subst, arith}
use Rattle.std.proofs.lemmas.List.{get_or_read}
use Rattle.rt_store.specs.Places.{exchanged}
use Rattle.rt_store.proofs.Exchanging.{written, swapped}
use Rattle.rt_store.proofs.places.HeapOrder.swap.Goals as goal

pub returns : goal.returns
returns c =
    let places = c.self.inside.places.items in
    let items = c.self.inside.items.items in
    let low = subst (λ ps. c.args.i < length ps) (sym c.self.view_is) c.requires.first in
    let high = subst (λ ps. c.args.j < length ps) (sym c.self.view_is) c.requires.second in
    written places items c.args.i c.args.j c.index-first.result.now c.index-second.result.now c.self.invariant low high (get_or_read items c.args.i c.index-first.result.now (omega (arith, low, c.self.invariant.same)) c.index-first.ensures 0) (get_or_read items c.args.j c.index-second.result.now (omega (arith, high, c.self.invariant.same)) c.index-second.ensures 0)
    ∙ ap (map (exchanged c.args.i c.args.j)) c.self.view_is

pub invariant_of-self : goal.invariant_of-self
invariant_of-self c =
    let places = c.self.inside.places.items in
    let items = c.self.inside.items.items in
    let low = subst (λ ps. c.args.i < length ps) (sym c.self.view_is) c.requires.first in
    let high = subst (λ ps. c.args.j < length ps) (sym c.self.view_is) c.requires.second in
    swapped places items c.swap.new.self.items c.args.i c.args.j c.index-first.result.now c.index-second.result.now c.self.invariant low high (get_or_read items c.args.i c.index-first.result.now (omega (arith, low, c.self.invariant.same)) c.index-first.ensures 0) (get_or_read items c.args.j c.index-second.result.now (omega (arith, high, c.self.invariant.same)) c.index-second.ensures 0) c.swap.ensures.by_index (omega (arith, c.swap.ensures.len))
