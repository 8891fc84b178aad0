use Rattle.std.proofs.Common.{◌∙◌, ap, swap}
use Rattle.rt_store.proofs.Copies.{other-some}
use Rattle.rt_store.proofs.clause.Clause.of.Goals as goal

pub returns-in_ok-own-in-Some-clause-same : goal.returns-in_ok-own-in-Some-clause-same
returns-in_ok-own-in-Some-clause-same c = (other-some c.args.lits.now c.exchange.new.self c.in-Some.j c.in-Some.ensures (c.exchange.ensures ∙ ap (λ xs. swap xs 1 c.in-Some.j) c.in_ok-own-in-Some.ensures)).0
