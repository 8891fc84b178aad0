use Rattle.std.proofs.Common.{◌≡◌, ℕ, ◌<◌, ◌≤◌, List, true, length, take, take_all, sym, subst, ◌∙◌, arith}
use Rattle.std.specs.List.{All as Each}
use Rattle.rt_formula.specs.Under.{is_marked}
use Rattle.rt_formula.proofs.MarkLemmas.{each-more, each-less, last-of, each-stays}
use Rattle.rt_formula.proofs.marks.mark_all.Goals as goal

whole : (xs : List ℕ) (i : ℕ) → length xs ≤ i → take i xs ≡ xs
whole xs i h = take_all i xs h

pub loop-node-preserved : goal.loop-node-preserved
loop-node-preserved c =
    let i = c.loop-node.node-index in
    let a = c.node-item.result in
    record {
      len = c.mark.ensures.len ∙ c.loop-node.invariant.len;
      stay = λ k h. c.mark.ensures.stay k (c.loop-node.invariant.stay k h);
      same = λ low b k h. (let g : a < low = (let P : ℕ → Type 0 = λ x. x < low in subst P (sym c.node-item.is) (b i a c.loop-node-test.true)) in c.mark.ensures.same low g k h ∙ c.loop-node.invariant.same low b k h);
      set = each-more (λ k. is_marked c.mark.new.marks k ≡ true) c.args.of.now i a c.loop-node-test.true c.node-item.is
          (each-stays c.loop-node.marks c.mark.new.marks c.mark.ensures.stay (take i c.args.of.now) c.loop-node.invariant.set) c.mark.ensures.set;
      only = λ others s e. c.mark.ensures.only others (c.loop-node.invariant.only others s (each-less (λ k. is_marked others k ≡ true) c.args.of.now i a c.loop-node-test.true c.node-item.is e)) (last-of (λ k. is_marked others k ≡ true) c.args.of.now i a c.loop-node-test.true c.node-item.is e);
    }

pub returns-clause-set : goal.returns-clause-set
returns-clause-set c =
    let P : List ℕ → Type 0 = Each (λ k. is_marked c.loop-node.marks k ≡ true) in
    subst P (whole c.args.of.now c.loop-node.node-index (let t = c.loop-node-test.false in omega arith)) c.loop-node.invariant.set

pub returns-clause-only : goal.returns-clause-only
returns-clause-only c others s e =
    let P : List ℕ → Type 0 = Each (λ k. is_marked others k ≡ true) in
    c.loop-node.invariant.only others s (subst P (sym (whole c.args.of.now c.loop-node.node-index (let t = c.loop-node-test.false in omega arith))) e)
