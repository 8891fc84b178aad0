use Rattle.std.proofs.Common.{ap, length, length-append, ◌∙◌, arith}
use Rattle.rt_formula.proofs.Meaning.{val-grown}
use Rattle.rt_formula.proofs.laws.older_nodes_stay.Goals as goal

pub returns : goal.returns
returns c = record {
  nodes = λ old new g n h. (let e = ap length g.entries ∙ length-append old.entries g.more in omega (arith, h, e));
  values = val-grown;
}
