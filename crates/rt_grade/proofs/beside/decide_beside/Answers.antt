use Rattle.std.proofs.Common.{arith}
use Rattle.rt_grade.proofs.BesideLemmas.{as_it_was, two_nodes}
use Rattle.rt_grade.proofs.beside.decide_beside.Goals as goal

pub truncate-requires : goal.truncate-requires
truncate-requires c = let t = two_nodes c.args.dag.now c.len-nodes.ensures.sound in let l = c.len-nodes.ensures.len in omega (arith, t, l)

pub returns-clause-dag : goal.returns-clause-dag
returns-clause-dag c =
    as_it_was c.args.dag.now c.search_beside-best.new.dag c.truncate.new.self c.len-nodes.result c.len-nodes.ensures.len c.search_beside-best.ensures.grown c.truncate.ensures
