use Rattle.std.proofs.Common.{◌∙◌, ap, not}
use Rattle.rt_noted.proofs.Growing.{node_stays}
use Rattle.rt_noted.proofs.gate.either.Goals as goal

pub returns-clause-gate : goal.returns-clause-gate
returns-clause-gate c = record {
  yes = node_stays c.not.ensures.grown (record { below = c.in_ok-yes.ensures.node; same = c.in_ok-yes.ensures.means });
  no = record { below = c.in_ok-no.ensures.node; same = λ s. c.in_ok-no.ensures.means s ∙ ap not (c.in_ok-yes.ensures.means s) };
}
