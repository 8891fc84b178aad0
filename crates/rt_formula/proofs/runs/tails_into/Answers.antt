use Rattle.std.proofs.Common.{ℕ, ◌<◌, sym, subst, length, arith}
use Rattle.rt_formula.specs.Runs.{StandsOver}
use Rattle.rt_formula.proofs.RunLemmas.{grown_trans, node-push, nodes_stay, stands_stay, tails-more}
use Rattle.rt_formula.proofs.runs.tails_into.Goals as goal

pub loop-child-preserved : goal.loop-child-preserved
loop-child-preserved c =
    let d = c.args.dag.now in
    let run = c.args.run.now in
    let i = c.loop-child.child-index in
    let child = c.child-item.result in
    let tail = c.in_ok-tail_of.field-0 in
    let v = c.loop-child.invariant in
    let below : child < length d.entries = (let g = c.requires.run i child c.loop-child-test.true in let e = c.child-item.is in omega (arith, g, e)) in
    record {
      grown = grown_trans v.grown c.tail_of.ensures.grown;
      nodes = node-push (length c.tail_of.new.dag.entries) c.loop-child.tails c.push.new.self tail (nodes_stay c.tail_of.ensures.grown c.loop-child.tails v.nodes) c.in_ok-tail_of.ensures.node c.in_ok-push.ensures.ok;
      means = λ first f over keep.
          (let N : ℕ → Type 0 = λ n. StandsOver d first n in
          tails-more v.grown c.tail_of.ensures.grown keep first child tail run c.loop-child.tails c.push.new.self i f below v.nodes c.loop-child-test.true c.child-item.is c.in_ok-push.ensures.ok
          (c.in_ok-tail_of.ensures.means first (stands_stay v.grown (subst N (sym c.child-item.is) (over i child c.loop-child-test.true))) keep)
          (v.means first f over keep));
    }
