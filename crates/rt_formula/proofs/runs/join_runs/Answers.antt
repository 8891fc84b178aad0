use Rattle.std.proofs.Common.{ℕ, ◌<◌, sym, subst, length, arith, List, ◌∷◌, []}
use Rattle.std.proofs.lemmas.List.Elements.{All-drop, All-take}
use Rattle.std.specs.List.{All as Each}
use Rattle.rt_formula.specs.Shared.{val}
use Rattle.rt_formula.proofs.RunLemmas.{alone, any-alone, grown_refl, grown_trans, node-push, nodes_stay, one-node, one-part, parts, runs-more, tail-nodes}
use Rattle.rt_formula.proofs.runs.join_runs.Goals as goal

pub children-preserved-in-Some : goal.children-preserved-in-Some
children-preserved-in-Some c =
    let m = length c.args.dag.now.entries in
    let E : List ℕ → Type 0 = Each (λ n. n < m) in
    let v = c.children.invariant in
    let rest = c.children.rest.now in
    let front = c.split_at.result.0.now in
    let next = c.split_at.result.1.now in
    let g = c.joined.ensures.grown in
    record {
      grown = grown_trans v.grown g;
      nodes = node-push (length c.joined.new.dag.entries) c.children.nodes c.push.new.self c.in_ok-joined-in-Some.field-0 (nodes_stay g c.children.nodes v.nodes) c.in_ok-joined-in-Some.ensures.node c.in_ok-push-in-Some.ensures.ok;
      left = subst E (sym c.split_at.ensures.back) (All-drop (λ n. n < m) c.in-Some.run'.length rest v.left);
      means = λ keep. runs-more v.grown g keep c.args.of.now c.children.nodes c.push.new.self front rest next c.in_ok-joined-in-Some.field-0 v.nodes
          (subst E (sym c.split_at.ensures.front) (All-take (λ n. n < m) c.in-Some.run'.length rest v.left)) c.in_ok-push-in-Some.ensures.ok
          (parts c.in-Some.run'.length rest front next c.split_at.ensures.front c.split_at.ensures.back) (c.in_ok-joined-in-Some.ensures.means keep) (v.means keep);
    }

pub children-preserved : goal.children-preserved
children-preserved c =
    let m = length c.args.dag.now.entries in
    let v = c.children.invariant in
    let rest = c.children.rest.now in
    let child = c.child-item.result in
    let now = c.children.dag in
    let below = one-node m child rest c.in-len1-up.len_at_least c.child-item.is v.left in
    record {
      grown = v.grown;
      nodes = node-push (length now.entries) c.children.nodes c.push-in-None.new.self child v.nodes (nodes_stay v.grown (child ∷ []) (alone m child below) 0 0 (omega arith)) c.in_ok-push-in-None.ensures.ok;
      left = tail-nodes m rest v.left;
      means = λ keep. runs-more v.grown (grown_refl now) keep c.args.of.now c.children.nodes c.push-in-None.new.self (child ∷ []) rest _ child v.nodes
          (alone m child below) c.in_ok-push-in-None.ensures.ok (one-part rest child c.in-len1-up.len_at_least c.child-item.is) (any-alone (val now keep) child) (v.means keep);
    }
